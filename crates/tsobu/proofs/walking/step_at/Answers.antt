-- The walk is at its end; or a start code stands at the place, or none does.
use mathlib.Core.Path.{sym, ◌∙◌}
use Rattle.tsobu.proofs.Steps.{step_end, step_code, step_other}
use Rattle.tsobu.proofs.walking.step_at.Goals as goal

pub returns-then-at_end : goal.returns-then-at_end
returns-then-at_end c = step_end _ _ (sym c.at_end.ensures ∙ c.if-at_end.true)

pub returns-then-code_at : goal.returns-then-code_at
returns-then-code_at c = step_code _ _ (sym c.code_at.ensures ∙ c.if-code_at.true) c.payload_step.ensures

pub returns : goal.returns
returns c =
    rw c.at.ensures (step_other _ _ (sym c.at_end.ensures ∙ c.if-at_end.false) (sym c.code_at.ensures ∙ c.if-code_at.false))
