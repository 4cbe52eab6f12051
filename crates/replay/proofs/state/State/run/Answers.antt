-- The refusals in the order of the definition.
use mathlib.Core.Bool.{not}
use mathlib.Core.Path.{refl, sym, ap, ◌∙◌}
use borrow.Author.Tests.{eq-eqb, ne_eqb}
use Rattle.lists.proofs.Picks.{by_true, by_false}
use Rattle.lists.proofs.Tests.{or_by_true, or_by_false}
use Rattle.refusal.specs.declared.Refused.{Refused}
use Rattle.refusal.specs.Number.{refused_by}
use Rattle.replay.specs.Replay.{replay, running}
use Rattle.replay.proofs.state.State.run.Goals.{then-not-is_valid-via-then-not-is_valid}
use Rattle.replay.proofs.state.State.run.Goals.{then-not-is_valid-via-else-not-is_valid+then-rate_wrong}
use Rattle.replay.proofs.state.State.run.Goals.{then-not-is_valid-via-else-not-is_valid+else-rate_wrong+then-times-counts}
use Rattle.replay.proofs.state.State.run.Goals as goal

pub returns-then-not-is_valid : goal.returns-then-not-is_valid
unfolding running replay
returns-then-not-is_valid c =
    let told = ap (λ (q : Refused). record { verdict = refused_by q; state = c.args.self.now }) c.at.ensures in
    elim c.then-not-is_valid.branch [
      | then-not-is_valid-via-then-not-is_valid w ↦ by_false _ (sym c.is_valid.ensures ∙ w.if-not-is_valid.true) told
      | then-not-is_valid-via-else-not-is_valid+then-rate_wrong w ↦
          let rate = sym w.rate_wrong.ensures ∙ w.if-rate_wrong.true in
          by_true _ (sym c.is_valid.ensures ∙ w.if-not-is_valid.false) (by_true _ (sym (or_by_true _ rate refl)) told)
      | then-not-is_valid-via-else-not-is_valid+else-rate_wrong+then-times-counts w ↦
          let rate = sym w.rate_wrong.ensures ∙ w.if-rate_wrong.false in
          let unlike = ap not (ne_eqb _ _ w.if-times-counts.true) in
          by_true _ (sym c.is_valid.ensures ∙ w.if-not-is_valid.false) (by_true _ (sym (or_by_false rate (sym unlike))) told)
    ]

pub returns : goal.returns
unfolding running replay
returns c =
    let valid = sym c.is_valid.ensures ∙ c.if-not-is_valid.false in
    let rate = sym c.rate_wrong.ensures ∙ c.if-rate_wrong.false in
    let alike = ap not (eq-eqb _ _ c.if-times-counts.false) in
    by_true _ valid (by_false _ (sym (or_by_false rate (sym alike))) c.run-ran.ensures)
