-- The tries in their order: each answer is a refusal of checking, or what `judge_whole` says of payloads that passed.
use Rattle.std.proofs.lemmas.Result.{err_from_is_err_and}
use native.Mathlib.Omega.{arith}
use borrow.Author.Tests.{ltb-false}
use lib.ListN.{length}
use mathlib.Core.Path.{sym, ◌∙◌}
use Rattle.tsobu.specs.StartCodes.{payloads}
use Rattle.unit.specs.Unit.{most_obus}
use Rattle.unit.proofs.Checking.{counts_obus, check_long, check_headless, check_whole, counted_refused, counted_passed}
use Rattle.unit.proofs.Checking.{refused_notes, whole_notes}
use Rattle.unit.proofs.reading.judge_unit.Goals as goal

pub returns-then-not-at_start_code : goal.returns-then-not-at_start_code
returns-then-not-at_start_code c =
    let k = check_headless _ c.if-unit-gt-MOST_CARRIED.false
    (sym c.at_start_code.ensures ∙ c.if-not-at_start_code.true) in
    record {
      result_value = rw c.at-then-not-at_start_code.ensures k;
      notes = refused_notes _ _ 9 0 k;
    }

pub returns-in_err-counts : goal.returns-in_err-counts
returns-in_err-counts c =
    let p = err_from_is_err_and c.from_residual.result c.from_residual.ensures.1 in
    let headed = sym c.at_start_code.ensures ∙ c.if-not-at_start_code.false in
    let k = counted_refused _ c.if-unit-gt-MOST_CARRIED.false headed _ _ c.in_err-counts.ensures.found in
    record { result_value = rw (p.1, p.2) k; notes = refused_notes _ _ _ _ k }

pub judge_whole-requires : goal.judge_whole-requires
judge_whole-requires c =
    let judged = c.in_ok-counts.ensures in
    let p = counted_passed c.args.unit.now _ judged.found in
    omega (arith, judged.long, counts_obus c.args.unit.now _ p.1, ltb-false most_obus (length (payloads c.args.unit.now)) (sym p.0))

pub returns : goal.returns
returns c =
    let s = c.args.unit.now in
    let judged = c.in_ok-counts.ensures in
    let headed = sym c.at_start_code.ensures ∙ c.if-not-at_start_code.false in
    let f = judged.found in
    let p = counted_passed s _ f in
    let k = check_whole s c.if-unit-gt-MOST_CARRIED.false headed p.0 _ _ p.1 (judged.kinds _ (sym f)) in
    record {
      result_value = c.judge_whole.ensures ∙ k;
      notes = whole_notes s _ _ _ k (counts_obus s _ p.1) (judged.ends _ (sym f)) (judged.widths _ (sym f));
    }

pub returns-then-unit-gt-MOST_CARRIED : goal.returns-then-unit-gt-MOST_CARRIED
returns-then-unit-gt-MOST_CARRIED c =
    let k = check_long _ c.if-unit-gt-MOST_CARRIED.true in
    record {
      result_value = rw c.at.ensures k;
      notes = refused_notes _ _ 2 0 k;
    }
