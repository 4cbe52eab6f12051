use native.Mathlib.Omega.{arith}
use mathlib.Core.Path.{sym, ap, ◌∙◌}
use Rattle.sheet.specs.Reading.{unit_row}
use Rattle.sheet.specs.Passing.{unit_wrong, units_wrong}
use Rattle.sheet.proofs.RowByRow.{fours_first, fours_step, units_end, units_found, units_on}
use Rattle.sheet.proofs.Ascending.{unit_fine}
use Rattle.sheet.proofs.units.units_wrong.Goals as goal

pub loop-n-init : goal.loop-n-init
loop-n-init c = ap (units_wrong 0) (fours_first (unit_row c.args.sheet.now) c.args.count c.args.at)

pub returns-then-unit_wrong : goal.returns-then-unit_wrong
returns-then-unit_wrong c =
    let told = ap (unit_wrong _) (sym c.unit_row-row.ensures) ∙ sym c.unit_wrong.ensures ∙ c.if-unit_wrong.true in
    sym (c.loop-n.invariant ∙ units_found _ _ _ _ (omega arith) told)

pub overflow_add-low : goal.overflow_add-low
overflow_add-low c =
    omega (arith, (unit_fine _ _ (sym c.unit_wrong.ensures ∙ c.if-unit_wrong.false)).1.0)

pub loop-n-preserved : goal.loop-n-preserved
loop-n-preserved c =
    let told = sym c.unit_wrong.ensures ∙ c.if-unit_wrong.false in
    let row = c.unit_row-row.ensures in
    rw row
    (c.loop-n.invariant ∙ units_on _ _ _ _ (omega arith) (ap (unit_wrong _) (sym row) ∙ told)
    ∙ ap (units_wrong _) (fours_step (unit_row c.args.sheet.now) c.args.count c.args.at c.loop-n.n))

pub returns : goal.returns
returns c = sym (c.loop-n.invariant ∙ units_end c.args.sheet.now c.loop-n.low _ _ (omega arith))
