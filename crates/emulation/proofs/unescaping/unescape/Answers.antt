-- The limit is tried, then the payload is judged, then the room; a legal payload that has room is unescaped whole.
use borrow.Author.Tests.{lt-ltb}
use native.Mathlib.Omega.{arith}
use mathlib.Core.Path.{refl}
use Rattle.std.proofs.lemmas.Result.{err_from_is_err_and}
use Rattle.refusal.specs.Verdict.{leaves}
use Rattle.refusal.proofs.Verdicts.{refuse}
use Rattle.emulation.specs.Answer.{unescaping}
use Rattle.emulation.proofs.Answers.{judged_legal, left_after, unescaping_illegal, unescaping_short, unescaping_fits}
use Rattle.emulation.proofs.unescaping.unescape.Goals as goal

pub overflow_sub-written : goal.overflow_sub-written
overflow_sub-written c = (left_after _ _ _ c.judge.ensures c.in_ok-dropped.was).0

pub returns-then-out-written : goal.returns-then-out-written
unfolding leaves
returns-then-out-written c =
    let judged = c.judge.ensures in
    let legal = c.in_ok-dropped.was in
    let l = left_after _ _ _ judged legal in
    record {
      result_value = rw c.at-then-out-written.ensures
          (unescaping_short _ _ (omega arith) (judged_legal _ _ _ judged legal).0 (omega (arith, l.1)));
      out_after = refl;
    }

pub unescape_whole-requires : goal.unescape_whole-requires
unescape_whole-requires c =
    let judged = c.judge.ensures in
    let legal = c.in_ok-dropped.was in
    ((judged_legal _ _ _ judged legal).1, omega (arith, (left_after _ _ _ judged legal).1))

pub returns-in_err-dropped : goal.returns-in_err-dropped
unfolding leaves
returns-in_err-dropped c =
    let p = err_from_is_err_and c.from_residual.result c.from_residual.ensures.1 in
    rw (p.1, p.2)
    (record {
      result_value = unescaping_illegal _ _ _ _ (omega arith) c.judge.ensures c.in_err-dropped.was;
      out_after = refl;
    })

pub returns : goal.returns
unfolding leaves
returns c =
    let s = c.args.payload.now in
    let o = c.args.out.now in
    let judged = c.judge.ensures in
    let legal = c.in_ok-dropped.was in
    let l = left_after _ _ _ judged legal in
    let j = judged_legal _ _ _ judged legal in
    record {
      result_value = unescaping_fits _ _ _ _ (omega arith) j.0 (omega (arith, l.1)) l.1 j.1;
      out_after = c.unescape_whole.ensures;
    }

pub returns-then-payload-gt-MOST_UNESCAPED : goal.returns-then-payload-gt-MOST_UNESCAPED
unfolding unescaping leaves
returns-then-payload-gt-MOST_UNESCAPED c = record {
  result_value = rw c.at.ensures (refuse 2 _ (lt-ltb _ _ c.if-payload-gt-MOST_UNESCAPED.true));
  out_after = refl;
}
