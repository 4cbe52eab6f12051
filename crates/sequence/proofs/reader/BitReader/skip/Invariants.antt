-- The bits so far are skipped as the definition skips so many.
use Rattle.sequence.specs.Bits.{skip}
use Rattle.sequence.specs.Parts.{Reads}
use Rattle.sequence.proofs.reader.BitReader.skip.Given as goal

abbrev pub invariant-loop : goal.invariant-loop
invariant-loop l = Reads l.initial.self (skip l.counter) tt l.self
