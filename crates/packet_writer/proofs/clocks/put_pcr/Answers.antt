-- Where the packet can be written, it is, with the counter before this one; otherwise nothing is written.
use Prim.Native.Nat.{ℕ}
use mathlib.Core.Path.{refl, sym, ap, ◌∙◌}
use Rattle.lists.specs.Lists.{over}
use Rattle.lists.proofs.Picks.{by_true, by_false}
use Rattle.packet.specs.Writing.{pcr_packet}
use Rattle.packet_writer.specs.Putting.{put, pcr_put}
use Rattle.packet_writer.proofs.Fitting.{pcr_fit}
use Rattle.packet_writer.proofs.clocks.put_pcr.Goals as goal

pub returns-then-pcr_unfit : goal.returns-then-pcr_unfit
unfolding pcr_put put
returns-then-pcr_unfit c = by_true _ (sym c.pcr_unfit.ensures ∙ c.if-pcr_unfit.true) refl

pub counter_before-counter-requires : goal.counter_before-counter-requires
counter_before-counter-requires c =
    let a = c.args in
    (pcr_fit a.pid a.counter a.pcr _ (sym c.pcr_unfit.ensures ∙ c.if-pcr_unfit.false)).2

pub put_clock-requires : goal.put_clock-requires
put_clock-requires c =
    let a = c.args in
    let f = pcr_fit a.pid a.counter a.pcr _ (sym c.pcr_unfit.ensures ∙ c.if-pcr_unfit.false) in
    (f.0, f.3)

pub invariant_of-put_clock : goal.invariant_of-put_clock
invariant_of-put_clock c =
    let a = c.args in
    let f = pcr_fit a.pid a.counter a.pcr _ (sym c.pcr_unfit.ensures ∙ c.if-pcr_unfit.false) in
    record { in_range = (f.1, c.counter_before-counter.ensures.upper_bound) }

pub returns : goal.returns
unfolding pcr_put put
returns c =
    let a = c.args in
    by_false _ (sym c.pcr_unfit.ensures ∙ c.if-pcr_unfit.false)
    (c.put_clock.ensures
    ∙ ap (λ (n : ℕ). over (pcr_packet a.pid n a.pcr) a.out.now) c.counter_before-counter.ensures.value)
