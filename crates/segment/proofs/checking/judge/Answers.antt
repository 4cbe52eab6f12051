-- The packets in order, then the end: a packet's refusal leaves zeros by what `run` promises, the end's by what `conclude` does.
use mathlib.Core.Path.{refl}
use Rattle.std.proofs.lemmas.Result.{err_from_is_err_and}
use Rattle.segment_rules.specs.Check.{outputs_of}
use Rattle.segment.specs.Answer.{checked}
use Rattle.segment.proofs.Ending.{refused_beside, run_refused, run_ended}
use Rattle.segment.proofs.checking.judge.Goals as goal

pub returns-in_err-ran : goal.returns-in_err-ran
returns-in_err-ran c =
    let a = c.args in
    let n = c.run-ran.new in
    let p = err_from_is_err_and c.from_residual.result c.from_residual.ensures.1 in
    rw (p.1, p.2)
    (run_refused a.edition a.segment.now (outputs_of a.out.now a.lens.now a.times.now) a.firsts.now c.run-ran.result
    (outputs_of n.out n.lens n.times) n.firsts
    c.run-ran.ensures _ c.in_err-ran.was (refused_beside _) refl)

pub returns : goal.returns
returns c =
    let a = c.args in
    let n = c.run-ran.new in
    run_ended a.edition a.segment.now (outputs_of a.out.now a.lens.now a.times.now) a.firsts.now c.run-ran.result
    (outputs_of n.out n.lens n.times) n.firsts
    c.run-ran.ensures c.in_ok-ran.was (checked c.conclude.result) _ _ c.conclude.ensures
