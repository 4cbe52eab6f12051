-- The bytes are those of the definition, one by one.
use Rattle.packet_writer.proofs.Starting.{pts_by}
use Rattle.packet_writer.proofs.headers.with_pts.Goals as goal

pub returns : goal.returns
returns c = pts_by _ _ _ _ _ c.length_field.ensures.value c.two_bytes-n.ensures c.time_bytes-t.ensures
