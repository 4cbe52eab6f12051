-- By what is known of the last packet: there was none (`equals_none`), or its bytes are compared (`equals_packet`).
use Rattle.tables.proofs.Counting.{equals_none, equals_packet}
use Rattle.tables.proofs.counters.equals_last.Goals as goal

pub returns-in_default : goal.returns-in_default
returns-in_default c s kept lies =
    let a = c.args in
    equals_none a.segment.now s lies a.last kept a.packet.now c.in_default.is

pub returns : goal.returns
returns c s kept lies =
    let a = c.args in
    equals_packet a.segment.now s lies a.last kept a.packet.now _ c.in-Some.is
    c.packet_at.result.now c.packet_at.ensures c.same_bytes.result c.same_bytes.ensures
