-- The payloads before the place, those handed out and those left are all.
use Rattle.std.proofs.Common.{◌≡◌, ◌+◌, length, drop}
use Rattle.tsobu.specs.StartCodes.{payloads}
use Rattle.tsobu.specs.Payloads.{payloads_left}
use Rattle.unit.proofs.reading.too_many.Given as goal

abbrev pub invariant-loop : goal.invariant-loop
invariant-loop l = l.counter + length (payloads_left l.behind) ≡ l.before + length (payloads (drop l.at l.unit))
