-- The zeros to come say, behind those so far, what the whole says.
use Rattle.sequence.specs.Parts.{size}
use Rattle.sequence.proofs.Loops.{Zeroing}
use Rattle.sequence.proofs.reader.BitReader.zeros.Given as goal

abbrev pub invariant-loop-self : goal.invariant-loop-self
invariant-loop-self l = Zeroing l.initial.self l.count l.self

abbrev pub decreases-loop-self : goal.decreases-loop-self
decreases-loop-self l = size l.self
