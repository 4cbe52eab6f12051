-- No start code stands before i: what comes before the next one is the bytes passed, then what comes before it from i on.
use Prim.Native.Nat.{◌+◌}
use mathlib.Core.Path.{◌≡◌}
use lib.ListN.{drop}
use Rattle.tsobu.proofs.Places.{before}
use Rattle.tsobu.proofs.start_codes.find.Given as goal

abbrev pub invariant-loop-i : goal.invariant-loop-i
invariant-loop-i l = l.i + before (drop l.i l.s) ≡ l.from + before (drop l.from l.s)
