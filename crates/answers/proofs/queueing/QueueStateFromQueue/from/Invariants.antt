-- One slot a turn: each array holds the numbers of the slots before, then zeros; after eight turns it is the definition's list.
use Prim.Native.Nat.{◌-◌}
use Rattle.answers.proofs.Queues.{Filling}
use Rattle.answers.proofs.queueing.QueueStateFromQueue.from.Given as goal

abbrev pub invariant-loop-i : goal.invariant-loop-i
invariant-loop-i l = Filling l.queue.units l.length l.pts l.dts l.marked l.i

abbrev pub decreases-loop-i : goal.decreases-loop-i
decreases-loop-i l = 8 - l.i
