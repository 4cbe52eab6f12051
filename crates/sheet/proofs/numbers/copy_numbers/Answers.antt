use Rattle.sheet.proofs.Copying.{one_copied, all_copied}
use Rattle.sheet.proofs.numbers.copy_numbers.Goals as goal

pub loop-k-preserved : goal.loop-k-preserved
loop-k-preserved c =
    rw c.number.ensures (one_copied _ _ _ _ _ _ c.loop-k.invariant c.loop-k-test.true c.requires.1)

pub returns : goal.returns
returns c = all_copied _ _ _ _ _ _ c.loop-k.invariant c.loop-k-test.false
