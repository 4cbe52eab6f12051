-- By what was seen of the PAT and of the PMT; where both were, the section of the packet that brought the PMT is the one that was read, so
-- that the reading is not refused.
use mathlib.Core.Path.{ap, ◌∙◌}
use lib.ListN.{length}
use Rattle.std.proofs.lemmas.Result.{err_from_is_err_and}
use Rattle.refusal.specs.Number.{refused_by}
use Rattle.refusal.specs.declared.Refused.{Refused}
use Rattle.segment.proofs.Ending.{without_pat, without_pmt, with_both, not_refused}
use Rattle.segment.proofs.checking.accept.Goals as goal

pub returns-in_default : goal.returns-in_default
returns-in_default c edition t us u k v =
    let none = without_pat edition t _ us _ _ k c.in_default.is in
    (ap (λ (q : Refused). refused_by q) c.at-none.ensures ∙ none.0, none.1)

pub returns-in_default-pmt : goal.returns-in_default-pmt
returns-in_default-pmt c edition t us u k v =
    let none = without_pmt edition t _ us _ _ k c.in_default-pmt.is in
    (ap (λ (q : Refused). refused_by q) c.at-none.ensures ∙ none.0, none.1)

pub returns-in_err-map : goal.returns-in_err-map
returns-in_err-map c edition t us u k v =
    let p = err_from_is_err_and c.from_residual.result c.from_residual.ensures.1 in
    rw (p.1, p.2)
    (not_refused edition t (length us) us c.args.totals c.args.tables k c.args.segment.now v _ c.in-Some.is _ c.in-Some-pmt.is
    _ c.section_at-section.ensures _ c.in_err-map.ensures)

pub returns : goal.returns
returns c edition t us u k v =
    with_both edition t _ us _ c.args.tables k c.args.segment.now v _ c.in-Some.is _ c.in-Some-pmt.is
    _ c.section_at-section.ensures _ c.in_ok-map.ensures _ u
