use Rattle.answers.proofs.Queues.{filling_next, filling_done, byte_is}
use Rattle.answers.proofs.queueing.QueueStateFromQueue.from.Goals as goal

pub loop-i-preserved : goal.loop-i-preserved
loop-i-preserved c =
    filling_next _ c.loop-i.invariant c.loop-i-test.true _ (byte_is _)

pub returns : goal.returns
returns c = filling_done _ c.loop-i.invariant c.loop-i-test.false
