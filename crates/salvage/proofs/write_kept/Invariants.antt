-- Of the result the first n bytes, what the tsOBUs passed give, stand at the front of out, and the rest of out is as it was.
use Rattle.tsobu.specs.StartCodes.{payloads}
use Rattle.tsobu.specs.Payloads.{payloads_left}
use Rattle.salvage.specs.Parts.{forms}
use Rattle.salvage.proofs.Loops.{Part}
use Rattle.salvage.proofs.write_kept.Given as goal

abbrev pub invariant-loop-payload : goal.invariant-loop-payload
invariant-loop-payload l = Part l.initial.out (forms (payloads l.body)) l.n (forms (payloads_left l.payload-iterator)) l.out
