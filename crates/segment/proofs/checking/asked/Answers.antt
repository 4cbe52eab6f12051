-- The edition of the number, or its refusal; then the test of the length.
use Rattle.std.specs.Prelude.{Ok, Err}
use mathlib.Core.Path.{refl, sym, ◌∙◌}
use Rattle.std.proofs.lemmas.Result.{err_from_is_err_and}
use Rattle.segment.proofs.Editions.{asked_unknown, asked_wrong, asked_right}
use Rattle.segment.proofs.checking.asked.Goals as goal

pub returns-in_err-known : goal.returns-in_err-known
returns-in_err-known c =
    let a = c.args in
    let p = err_from_is_err_and c.from_residual.result c.from_residual.ensures.1 in
    rw (p.1, p.2) (asked_unknown a.edition a.segment.now (Err c.in_err-known.field-0.0) _ refl c.in_err-known.ensures)

pub returns-then-length_wrong : goal.returns-then-length_wrong
returns-then-length_wrong c =
    let a = c.args in
    asked_wrong a.edition a.segment.now (Ok c.in_ok-known.known) _ refl c.in_ok-known.ensures
    (sym c.length_wrong.ensures ∙ c.if-length_wrong.true) c.at.result c.at.ensures

pub returns : goal.returns
returns c =
    let a = c.args in
    asked_right a.edition a.segment.now (Ok c.in_ok-known.known) _ refl c.in_ok-known.ensures
    (sym c.length_wrong.ensures ∙ c.if-length_wrong.false)
