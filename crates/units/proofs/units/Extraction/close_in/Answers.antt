-- Where all places lie within the outputs, the open PES closes by its verdict; of a state that stands they do.
use mathlib.Core.Path.{refl, sym, ap, ◌∙◌}
use Rattle.std.proofs.lemmas.Result.{err_from_is_err_and}
use Rattle.lists.proofs.Tests.{clash}
use Rattle.tables.proofs.Refining.{never_passed}
use Rattle.units.specs.declared.units.Extraction.{Extraction}
use Rattle.units.proofs.Extracting.{closes_passed, kept_refused}
use Rattle.units.proofs.units.Extraction.close_in.Goals as goal

pub returns-in_err-judge_open : goal.returns-in_err-judge_open
returns-in_err-judge_open c =
    let q = err_from_is_err_and c.from_residual.result c.from_residual.ensures.1 in
    rw (q.1, q.2) (
      (λ before x s. c.in_err-judge_open.ensures c.args.lens.now c.args.times.now before x s),
      (
        (λ k. never_passed _ refl k),
        (
          (λ k. clash k (sym c.is_beyond.ensures ∙ c.if-is_beyond.false)),
          kept_refused _ _,
        ),
      ),
    )

pub returns : goal.returns
returns c =
    let a = c.args in (
      (λ before x s. closes_passed c.in_ok-judge_open.ensures before a.lens.now a.times.now x s
          _ _ c.closed.result c.put_closed.ensures.lens_after c.put_closed.ensures.times_after
          c.closed.ensures),
      (
        (λ k. ap (λ (e : Extraction). e.pes) c.closed.ensures),
        (
          (λ k. clash k (sym c.is_beyond.ensures ∙ c.if-is_beyond.false)),
          (λ q k. never_passed q k refl),
        ),
      ),
    )
