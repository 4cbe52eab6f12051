-- Where the packet can be written, its section has the bytes of the definition; otherwise nothing is written.
use native.Mathlib.Omega.{arith}
use mathlib.Core.Path.{refl, sym, ap, ◌∙◌}
use lib.ListN.{length}
use Rattle.lists.specs.Lists.{Bytes, over}
use Rattle.lists.proofs.Picks.{by_true, by_false}
use mathlib.Core.Bool.{true}
use Rattle.packet.specs.Writing.{carrying}
use Rattle.psi.specs.Writing.{section_payload, section}
use Rattle.packet_writer.specs.Putting.{put, pat_put}
use Rattle.packet_writer.proofs.Fitting.{pat_fit}
use Rattle.packet_writer.proofs.Sectioning.{pat_rest_put}
use Rattle.packet_writer.proofs.sections.put_pat.Goals as goal

pub returns-then-pat_unfit : goal.returns-then-pat_unfit
unfolding pat_put put
returns-then-pat_unfit c = by_true _ (sym c.pat_unfit.ensures ∙ c.if-pat_unfit.true) refl

pub two_bytes-number-requires : goal.two_bytes-number-requires
two_bytes-number-requires c = (pat_fit _ _ _ _ (sym c.pat_unfit.ensures ∙ c.if-pat_unfit.false)).0

pub two_bytes-pid-requires : goal.two_bytes-pid-requires
two_bytes-pid-requires c =
    let f = pat_fit _ _ _ _ (sym c.pat_unfit.ensures ∙ c.if-pat_unfit.false) in
    omega (arith, f.1)

pub overflow_add-map_pid : goal.overflow_add-map_pid
overflow_add-map_pid c =
    let f = pat_fit _ _ _ _ (sym c.pat_unfit.ensures ∙ c.if-pat_unfit.false) in
    omega (arith, f.1)

pub invariant_of-put_section_packet : goal.invariant_of-put_section_packet
invariant_of-put_section_packet c =
    let f = pat_fit _ _ _ _ (sym c.pat_unfit.ensures ∙ c.if-pat_unfit.false) in
    record { in_range = (omega arith, f.2) }

pub invariant_of-body : goal.invariant_of-body
invariant_of-body c =
    record { fits = (omega arith, omega (arith, ap length c.two_bytes-number.ensures, ap length c.two_bytes-pid.ensures)) }

pub put_section_packet-requires : goal.put_section_packet-requires
put_section_packet-requires c = (pat_fit _ _ _ _ (sym c.pat_unfit.ensures ∙ c.if-pat_unfit.false)).3

pub returns : goal.returns
unfolding pat_put put
returns c =
    let a = c.args in
    by_false _ (sym c.pat_unfit.ensures ∙ c.if-pat_unfit.false)
    (c.put_section_packet.ensures
    ∙ ap (λ (w : Bytes). over (carrying 0 true a.counter 0 (section_payload (section 0 0 w))) a.out.now)
    (pat_rest_put a.program a.map_pid _ _ c.two_bytes-number.ensures c.two_bytes-pid.ensures))
