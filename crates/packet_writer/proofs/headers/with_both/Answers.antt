-- The bytes are those of the definition, one by one.
use Rattle.packet_writer.proofs.Starting.{both_by}
use Rattle.packet_writer.proofs.headers.with_both.Goals as goal

pub returns : goal.returns
returns c =
    both_by _ _ _ _ _ _ _ c.requires.2 c.length_field.ensures.value c.two_bytes-n.ensures c.time_bytes-p.ensures c.time_bytes-d.ensures
