-- Two strings are equal where the test finds them so.
use mathlib.Core.Path.{sym, ap, ◌∙◌}
use Rattle.refusal.specs.Number.{refused_by}
use Rattle.tables.proofs.Reading.{later_same, later_other}
use Rattle.tables.proofs.sections.later_section.Goals as goal

pub returns-then-same : goal.returns-then-same
returns-then-same c t = later_same _ _ _ t (sym c.same.ensures ∙ c.if-same.true)

pub returns : goal.returns
returns c t = later_other _ _ _ t (sym c.same.ensures ∙ c.if-same.false) ∙ ap refused_by (sym c.at.ensures)
