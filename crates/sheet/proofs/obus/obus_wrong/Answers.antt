use native.Mathlib.Omega.{arith}
use Prim.Native.Nat.{◌-◌, ◌<◌}
use mathlib.Core.Bool.{not}
use mathlib.Core.Path.{sym, ap, ◌∙◌}
use lib.Dec.{eqb}
use Rattle.sheet.specs.Reading.{rows, unit_row, obu_row}
use Rattle.sheet.specs.Passing.{at_first, obus_wrong}
use Rattle.sheet.proofs.RowByRow.{fours_first, fours_step, length_rows, obus_end, row_found, place_found, obus_on}
use Rattle.sheet.proofs.obus.obus_wrong.Goals as goal

pub loop-n-init : goal.loop-n-init
loop-n-init c =
    let a = c.args.sections in
    ap (obus_wrong (rows (unit_row c.args.sheet.now) 4 a.units a.unit_rows) at_first)
    (fours_first (obu_row c.args.sheet.now) a.obus a.obu_rows)

pub returns-then-row_wrong : goal.returns-then-row_wrong
returns-then-row_wrong c =
    let more : 0 < c.args.sections.obus - c.loop-n.n = omega arith in
    let found = row_found _ _ _ _ _ more _ c.obu_row-row.ensures c.row_wrong.ensures.value c.if-row_wrong.true in
    sym (c.loop-n.invariant ∙ found)

pub returns-in_default : goal.returns-in_default
returns-in_default c =
    let more : 0 < c.args.sections.obus - c.loop-n.n = omega arith in
    let told = (sym c.in_default.is) ∙ c.place-step.ensures in
    sym
    (c.loop-n.invariant
    ∙ place_found _ _ _ _ _ more _ c.obu_row-row.ensures c.row_wrong.ensures.value c.if-row_wrong.false told)

pub loop-n-preserved : goal.loop-n-preserved
loop-n-preserved c =
    let a = c.args.sections in
    let more : 0 < a.obus - c.loop-n.n = omega arith in
    let told = (sym c.in-Some.is) ∙ c.place-step.ensures in
    c.loop-n.invariant
    ∙ obus_on _ _ _ _ _ more _ c.obu_row-row.ensures c.row_wrong.ensures.value c.if-row_wrong.false _ told
    ∙ ap (obus_wrong _ _) (fours_step (obu_row c.args.sheet.now) a.obus a.obu_rows c.loop-n.n)

pub returns : goal.returns
returns c =
    let none = obus_end c.args.sheet.now _ c.loop-n.progress _ _ (omega arith) in
    sym (c.loop-n.invariant ∙ none ∙ ap (λ n. not (eqb c.loop-n.progress.begun n)) (length_rows _ _ _ _))
