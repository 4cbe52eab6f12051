-- At the places passed over no start code stands, and three bytes are there from the first.
use Rattle.std.proofs.Common.{◌≡◌, ◌+◌, ◌≤◌, length, drop}
use Rattle.tsobu.proofs.Places.{before}
use Rattle.tsobu.proofs.start_codes.scan.Given as goal

abbrev pub invariant-loop-end : goal.invariant-loop-end
invariant-loop-end l =
    (l.place + 3 ≤ length l.unit) × (l.end + before (drop l.end l.unit) ≡ l.place + before (drop l.place l.unit))
