-- Where the packet can be written, its section has the bytes of the definition; otherwise nothing is written.
use native.Mathlib.Omega.{arith}
use mathlib.Core.Path.{refl, sym, ap, ◌∙◌}
use Rattle.lists.specs.Lists.{Bytes, over}
use Rattle.lists.proofs.Picks.{by_true, by_false}
use mathlib.Core.Bool.{true}
use Rattle.packet.specs.Writing.{carrying}
use Rattle.psi.specs.Writing.{section_payload, section}
use Rattle.packet_writer.specs.Putting.{put, pmt_put}
use Rattle.packet_writer.proofs.Fitting.{pmt_fit}
use Rattle.packet_writer.proofs.Sectioning.{pmt_rest_put}
use Rattle.packet_writer.proofs.sections.put_pmt.Goals as goal

pub returns-then-pmt_unfit : goal.returns-then-pmt_unfit
unfolding pmt_put put
returns-then-pmt_unfit c = by_true _ (sym c.pmt_unfit.ensures ∙ c.if-pmt_unfit.true) refl

pub two_bytes-p-requires : goal.two_bytes-p-requires
two_bytes-p-requires c = let f = pmt_fit _ _ _ _ _ _ (sym c.pmt_unfit.ensures ∙ c.if-pmt_unfit.false) in omega (arith, f.2)

pub overflow_add-pid : goal.overflow_add-pid
overflow_add-pid c = let f = pmt_fit _ _ _ _ _ _ (sym c.pmt_unfit.ensures ∙ c.if-pmt_unfit.false) in omega (arith, f.2)

pub invariant_of-place : goal.invariant_of-place
invariant_of-place c =
    let f = pmt_fit _ _ _ _ _ _ (sym c.pmt_unfit.ensures ∙ c.if-pmt_unfit.false) in
    record { in_range = (f.3, f.4) }

pub invariant_of-body : goal.invariant_of-body
invariant_of-body c =
    let f = pmt_fit _ _ _ _ _ _ (sym c.pmt_unfit.ensures ∙ c.if-pmt_unfit.false) in
    record { fits = (f.1, omega (arith, f.0)) }

pub put_section_packet-requires : goal.put_section_packet-requires
put_section_packet-requires c = (pmt_fit _ _ _ _ _ _ (sym c.pmt_unfit.ensures ∙ c.if-pmt_unfit.false)).5

pub returns : goal.returns
unfolding pmt_put put
returns c =
    let a = c.args in
    let can = sym c.pmt_unfit.ensures ∙ c.if-pmt_unfit.false in
    by_false _ can
    (c.put_section_packet.ensures
    ∙ ap (λ (w : Bytes). over (carrying a.map_pid true a.counter 0 (section_payload (section 2 a.program w))) a.out.now)
    (pmt_rest_put a.pid _ a.video.now c.two_bytes-p.ensures (pmt_fit _ _ _ _ _ _ can).0))
