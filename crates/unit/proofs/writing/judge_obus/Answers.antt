use Rattle.refusal.specs.Number.{refused_by}
use native.Mathlib.Omega.{arith}
use mathlib.Core.Path.{◌≡◌, sym, ap, ◌∙◌}
use Rattle.unit.proofs.Rests.{at_within}
use Rattle.std.proofs.Common.{rules}
use Rattle.std.proofs.lemmas.Result.{err_from_is_err_and}
use Rattle.unit.proofs.Tries.{judging_next, judging_refused, judging_end, placed_at, placed_ok, placed_err}
use Rattle.unit.proofs.writing.judge_obus.Goals as goal

pub overflow_add-end : goal.overflow_add-end
overflow_add-end c =
    omega (arith, at_within c.args.lens.now c.args.obus.now c.loop-i.i-counter c.loop-i.at c.loop-i.invariant.place (omega arith))

pub slice_bounds-judge-end : goal.slice_bounds-judge-end
slice_bounds-judge-end c =
    at_within c.args.lens.now c.args.obus.now c.loop-i.i-counter c.loop-i.at c.loop-i.invariant.place (omega arith)

pub returns-in_err-header : goal.returns-in_err-header
returns-in_err-header c =
    let placed : c.map_err.result ≡ placed_at c.loop-i.i-counter c.judge.result = search rules in
    let e = placed_err c.loop-i.i-counter _ _ (sym placed ∙ c.in_err-header.was) in
    let x = err_from_is_err_and c.from_residual.result c.from_residual.ensures.1 in
    rw (x.1, x.2)
    (ap refused_by e.2
    ∙ judging_refused c.args.lens.now c.args.obus.now c.loop-i.i-counter c.loop-i.at c.loop-i.kinds c.loop-i.invariant c.requires
    (omega arith) _ _ (sym c.judge.ensures ∙ e.1))

pub loop-i-preserved : goal.loop-i-preserved
loop-i-preserved c =
    let placed : c.map_err.result ≡ placed_at c.loop-i.i-counter c.judge.result = search rules in
    judging_next c.args.lens.now c.args.obus.now c.loop-i.i-counter c.loop-i.at c.loop-i.kinds c.loop-i.invariant (omega arith)
    c.requires.1 _ (sym c.judge.ensures ∙ placed_ok c.loop-i.i-counter _ _ (sym placed ∙ c.in_ok-header.was)) _ c.kind_of.ensures

pub returns : goal.returns
returns c =
    judging_end c.args.lens.now c.args.obus.now c.loop-i.i-counter c.loop-i.at c.loop-i.kinds c.loop-i.invariant c.requires (omega arith)
    c.order_kinds.ensures
