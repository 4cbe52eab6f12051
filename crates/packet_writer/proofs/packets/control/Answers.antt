-- The definition goes by cases on the number, as the test does: no field, or one.
use Rattle.packet_writer.proofs.Puts.{control_none, control_some}
use Rattle.packet_writer.proofs.packets.control.Goals as goal

pub returns-then-n-eq0 : goal.returns-then-n-eq0
returns-then-n-eq0 c = control_none _ c.if-n-eq0.true

pub returns-else-n-eq0 : goal.returns-else-n-eq0
returns-else-n-eq0 c = control_some _ c.if-n-eq0.false
