-- The check says whether the sheet is bad, and where the rows of its units stand.
use Rattle.std.specs.Prelude.{Some}
use native.Mathlib.Omega.{arith}
use mathlib.Core.Path.{ap, ◌∙◌}
use Rattle.refusal.specs.Verdict.{passed}
use Rattle.refusal.specs.Number.{refused_by}
use Rattle.sheet.proofs.Measures.{checked_within}
use Rattle.sheet.proofs.Readings.{find_refused, find_none, find_row}
use Rattle.sheet.proofs.finding.find_unit.Goals as goal

pub returns-in_default : goal.returns-in_default
returns-in_default c = ap refused_by c.at.ensures ∙ find_refused _ c.in_default.ensures _

pub returns-then-sections-unit : goal.returns-then-sections-unit
returns-then-sections-unit c =
    find_none _ _ c.in-Some.ensures _ c.if-sections-unit.true

pub overflow_mul-unit : goal.overflow_mul-unit
overflow_mul-unit c =
    omega (arith, (checked_within _ _ c.in-Some.ensures).4, c.if-sections-unit.false)

pub overflow_add-sections : goal.overflow_add-sections
overflow_add-sections c =
    omega (arith, (checked_within _ _ c.in-Some.ensures).1, c.if-sections-unit.false)

pub unit_row-requires : goal.unit_row-requires
unit_row-requires c =
    omega (arith, (checked_within _ _ c.in-Some.ensures).1, c.if-sections-unit.false)

pub returns : goal.returns
returns c =
    ap (λ u. passed (Some u)) c.unit_row.ensures ∙ find_row _ _ c.in-Some.ensures _ c.if-sections-unit.false
