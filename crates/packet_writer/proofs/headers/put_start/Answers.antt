-- Where the packet can be written, the header and the bytes are its payload; otherwise nothing is written.
use native.Mathlib.Omega.{arith}
use mathlib.Core.Bool.{true}
use mathlib.Core.Path.{refl, sym, ap, ◌∙◌}
use mathlib.Core.List.{◌++◌}
use lib.ListN.{length}
use Rattle.lists.specs.Lists.{Bytes, over}
use Rattle.lists.proofs.Picks.{by_true, by_false}
use Rattle.ticks.specs.declared.Ticks90.{Ticks90}
use Rattle.packet.specs.Writing.{carrying}
use Rattle.pes.specs.Writing.{pes_header}
use Rattle.packet_writer.specs.Putting.{put, start_put}
use Rattle.packet_writer.proofs.Fitting.{start_fit}
use Rattle.packet_writer.proofs.Starting.{header_size, same_time}
use Rattle.packet_writer.proofs.headers.put_start.Goals as goal

pub returns-then-start_unfit : goal.returns-then-start_unfit
unfolding start_put put
returns-then-start_unfit c = by_true _ (sym c.start_unfit.ensures ∙ c.if-start_unfit.true) refl

-- ---- the PTS alone
pub with_pts-head-requires : goal.with_pts-head-requires
with_pts-head-requires c =
    let f = start_fit c.args.pid c.args.counter c.args.start _ _ (sym c.start_unfit.ensures ∙ c.if-start_unfit.false) in
    f.0

pub invariant_of-place : goal.invariant_of-place
invariant_of-place c =
    let f = start_fit c.args.pid c.args.counter c.args.start _ _ (sym c.start_unfit.ensures ∙ c.if-start_unfit.false) in
    record { in_range = (f.3, f.4) }

pub put_parts-requires : goal.put_parts-requires
put_parts-requires c =
    let s = c.args.start in
    let f = start_fit c.args.pid c.args.counter s _ _ (sym c.start_unfit.ensures ∙ c.if-start_unfit.false) in
    let e = c.with_pts-head.ensures ∙ ap (λ (t : Ticks90). pes_header s.pts t s.length) (same_time s.pts s.dts c.if-start.true) in
    (omega (arith, f.2, ap length e, header_size s.pts s.dts s.length), f.5)

pub returns-then-start : goal.returns-then-start
unfolding start_put put
returns-then-start c =
    let a = c.args in
    let s = a.start in
    let e = c.with_pts-head.ensures ∙ ap (λ (t : Ticks90). pes_header s.pts t s.length) (same_time s.pts s.dts c.if-start.true) in
    by_false _ (sym c.start_unfit.ensures ∙ c.if-start_unfit.false)
    (c.put_parts.ensures ∙ ap (λ (w : Bytes). over (carrying a.pid true a.counter s.flags (w ++ a.begun.now)) a.out.now) e)

-- ---- both times
pub with_both-head-requires : goal.with_both-head-requires
with_both-head-requires c =
    let f = start_fit c.args.pid c.args.counter c.args.start _ _ (sym c.start_unfit.ensures ∙ c.if-start_unfit.false) in
    (f.0, f.1, c.if-start.false)

pub invariant_of-place-2 : goal.invariant_of-place-2
invariant_of-place-2 c =
    let f = start_fit c.args.pid c.args.counter c.args.start _ _ (sym c.start_unfit.ensures ∙ c.if-start_unfit.false) in
    record { in_range = (f.3, f.4) }

pub put_parts-requires-2 : goal.put_parts-requires-2
put_parts-requires-2 c =
    let s = c.args.start in
    let f = start_fit c.args.pid c.args.counter s _ _ (sym c.start_unfit.ensures ∙ c.if-start_unfit.false) in
    (omega (arith, f.2, ap length c.with_both-head.ensures, header_size s.pts s.dts s.length), f.5)

pub returns : goal.returns
unfolding start_put put
returns c =
    let a = c.args in
    by_false _ (sym c.start_unfit.ensures ∙ c.if-start_unfit.false)
    (c.put_parts-2.ensures
    ∙ ap (λ (w : Bytes). over (carrying a.pid true a.counter a.start.flags (w ++ a.begun.now)) a.out.now) c.with_both-head.ensures)
