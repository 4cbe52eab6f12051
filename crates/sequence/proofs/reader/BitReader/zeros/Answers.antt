-- The one ends the zeros that were counted.
use Rattle.sequence.proofs.Loops.{zeroing_one}
use Rattle.sequence.proofs.reader.BitReader.zeros.Goals as goal

pub returns-then-bit-eq1 : goal.returns-then-bit-eq1
returns-then-bit-eq1 c = zeroing_one c.loop-self.invariant c.if-bit-eq1.true c.bit.ensures.reads
