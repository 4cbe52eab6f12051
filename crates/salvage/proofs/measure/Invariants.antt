-- One tsOBU a turn: what was noted of those before, then what the definition says of those that are left, is what it says of all.
use Rattle.tsobu.specs.StartCodes.{payloads}
use Rattle.tsobu.specs.Payloads.{payloads_left}
use Rattle.salvage.proofs.Loops.{Turn}
use Rattle.salvage.proofs.measure.Given as goal

abbrev pub invariant-loop-payload : goal.invariant-loop-payload
invariant-loop-payload l = Turn (payloads l.s) (payloads_left l.payloads) l.measured
