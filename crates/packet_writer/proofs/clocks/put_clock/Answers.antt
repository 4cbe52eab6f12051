-- The header, the length and the flags, the PCR and the stuffing, one behind the other.
use native.Mathlib.Omega.{arith}
use mathlib.Core.Bool.{false}
use mathlib.Core.Path.{refl, ap, ◌∙◌}
use mathlib.Core.List.{[], ◌∷◌, ◌++◌}
use lib.ListN.{length}
use Rattle.lists.specs.Lists.{Bytes, over}
use Rattle.packet.specs.Writing.{stuffing, header, pcr_packet}
use Rattle.packet_writer.proofs.Puts.{behind_put}
use Rattle.packet_writer.proofs.clocks.put_clock.Goals as goal

pub returns : goal.returns
unfolding pcr_packet
returns c =
    let a = c.args in
    let out = a.out.now in
    let h = header a.place.pid false 2 a.place.counter in
    let field : Bytes = 183 ∷ 16 ∷ [] in
    let w = c.pcr_bytes-clock.result in
    let o2 = c.copy_at.ensures ∙ behind_put h field out _ 4 refl c.put_header.ensures in
    let o3 = c.copy_at-2.ensures ∙ behind_put (h ++ field) w out _ 6 refl o2 in
    c.fill_at.ensures
    ∙ behind_put ((h ++ field) ++ w) (stuffing 176) out _ 12 (omega (arith, ap length c.pcr_bytes-clock.ensures)) o3
    ∙ ap (λ (x : Bytes). over (((h ++ field) ++ x) ++ stuffing 176) out) c.pcr_bytes-clock.ensures
