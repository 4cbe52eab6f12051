-- The mark 0 stands for no packet; of any other, what it counts beyond 1 has the counter and whether the packet was a repeat.
use Rattle.packet.proofs.Slots.{mark_none, mark_some}
use Rattle.packet.proofs.streams.last_from.Goals as goal

pub returns-then-mark-eq0 : goal.returns-then-mark-eq0
returns-then-mark-eq0 c = mark_none _ _ c.if-mark-eq0.true

pub returns : goal.returns
returns c = mark_some _ _ c.if-mark-eq0.false
