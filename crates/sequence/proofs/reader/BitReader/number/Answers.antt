-- One bit more is read behind those so far.
use Rattle.sequence.proofs.Loops.{one_bit, below_more}
use Rattle.sequence.proofs.reader.BitReader.number.Goals as goal

pub loop-preserved : goal.loop-preserved
loop-preserved c = record {
  reads = one_bit _ c.loop.invariant.reads c.bit.ensures.reads;
  below = below_more _ _ _ c.loop.invariant.below c.bit.ensures.value_bound;
}
