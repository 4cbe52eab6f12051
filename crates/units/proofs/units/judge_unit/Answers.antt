-- The length is tried first; then the unit is read, and a refusal gets the place of the packet that began the PES.
use Rattle.std.proofs.Common.{rules}
use mathlib.Core.Path.{◌≡◌, sym, ap, ◌∙◌}
use Rattle.std.proofs.lemmas.Result.{err_from_is_err_and}
use Rattle.refusal.specs.Number.{says, refused_by}
use Rattle.refusal.specs.Verdict.{at_place}
use Rattle.units.proofs.Extracting.{judged_length, judged_right, judged_refused}
use Rattle.units.proofs.units.judge_unit.Goals as goal

pub returns-then-length_wrong : goal.returns-then-length_wrong
returns-then-length_wrong c x =
    judged_length _ x (sym c.length_wrong.ensures ∙ c.if-length_wrong.true) ∙ ap refused_by (sym c.at.ensures)

pub returns-in_err-map_err : goal.returns-in_err-map_err
unfolding at_place
returns-in_err-map_err c =
    let first = c.args.found.first in
    let p = err_from_is_err_and c.from_residual.result c.from_residual.ensures.1 in
    let placed : says c.map_err.result ≡ at_place first (says c.check.result) = search rules in
    rw (p.1, p.2) (λ x. judged_refused _ x (sym c.length_wrong.ensures ∙ c.if-length_wrong.false) _
    (sym (ap says c.in_err-map_err.was) ∙ placed ∙ ap (at_place first) c.check.ensures))

pub returns : goal.returns
unfolding at_place
returns c x =
    let first = c.args.found.first in
    let placed : says c.map_err.result ≡ at_place first (says c.check.result) = search rules in
    judged_right _ x (sym c.length_wrong.ensures ∙ c.if-length_wrong.false) _
    (sym (ap says c.in_ok-map_err.was) ∙ placed ∙ ap (at_place first) c.check.ensures)
