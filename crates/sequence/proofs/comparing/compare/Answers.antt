-- What reading says, and then the comparison.
use Rattle.std.proofs.Common.{ap, ◌∙◌}
use Rattle.std.proofs.lemmas.Result.{err_from_is_err_and}
use Rattle.refusal.specs.Verdict.{passed}
use Rattle.sequence.proofs.Headers.{compares, refuses}
use Rattle.sequence.proofs.comparing.compare.Goals as goal

pub returns-in_err-sequence : goal.returns-in_err-sequence
returns-in_err-sequence c =
    let p = err_from_is_err_and c.from_residual.result c.from_residual.ensures.1 in
    rw (p.1, p.2) (refuses _ _ _ _ c.in_err-sequence.ensures)

pub returns : goal.returns
returns c = ap passed c.differing.ensures ∙ compares _ _ _ c.in_ok-sequence.ensures
