-- Where the packet can be written, its payload is one part, behind an empty one; otherwise nothing is written.
use native.Mathlib.Omega.{arith}
use mathlib.Core.Path.{refl, sym, ◌∙◌}
use Rattle.lists.proofs.Picks.{by_true, by_false}
use Rattle.packet_writer.specs.Putting.{put, packet_put}
use Rattle.packet_writer.proofs.Fitting.{packet_fit}
use Rattle.packet_writer.proofs.packets.put_packet.Goals as goal

pub returns-then-packet_unfit : goal.returns-then-packet_unfit
unfolding packet_put put
returns-then-packet_unfit c = by_true _ (sym c.packet_unfit.ensures ∙ c.if-packet_unfit.true) refl

pub put_parts-requires : goal.put_parts-requires
put_parts-requires c =
    let f = packet_fit _ _ _ _ (sym c.packet_unfit.ensures ∙ c.if-packet_unfit.false) in
    (omega (arith, f.0), f.3)

pub invariant_of-place : goal.invariant_of-place
invariant_of-place c =
    let f = packet_fit _ _ _ _ (sym c.packet_unfit.ensures ∙ c.if-packet_unfit.false) in
    record { in_range = (f.1, f.2) }

pub returns : goal.returns
unfolding packet_put put
returns c =
    by_false _ (sym c.packet_unfit.ensures ∙ c.if-packet_unfit.false) c.put_parts.ensures
