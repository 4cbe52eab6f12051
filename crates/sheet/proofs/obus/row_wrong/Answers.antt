-- The tests are those of the definition; the length is that of the unit that the OBU names. The end of a payload within it fits.
use native.Mathlib.Omega.{arith}
use mathlib.Core.Path.{refl, sym, ap, ◌∙◌}
use lib.Dec.{ltb}
use borrow.Author.Tests.{ltb-false}
use Rattle.lists.proofs.Tests.{clash}
use Rattle.sheet.specs.Reading.{end}
use Rattle.sheet.proofs.Placings.{no_unit_lem, type_past, no_payload, by_length}
use Rattle.sheet.proofs.obus.row_wrong.Goals as goal

pub returns-then-units-row : goal.returns-then-units-row
returns-then-units-row c = record {
  value = no_unit_lem _ _ _ c.args.row c.if-units-row.true;
  unit_bound = λ e. clash refl e;
}

pub returns-then-row-gt-MOST_TYPE : goal.returns-then-row-gt-MOST_TYPE
returns-then-row-gt-MOST_TYPE c = record {
  value = type_past _ _ _ c.args.row c.if-units-row.false c.if-row-gt-MOST_TYPE.true;
  unit_bound = λ e. clash refl e;
}

pub returns-then-row-eq0 : goal.returns-then-row-eq0
returns-then-row-eq0 c = record {
  value = no_payload _ _ _ c.args.row c.if-units-row.false c.if-row-gt-MOST_TYPE.false c.if-row-eq0.true;
  unit_bound = λ e. clash refl e;
}

pub returns : goal.returns
returns c =
    let row = c.args.row in
    let told = c.passes.ensures ∙ ap (λ n. ltb n (end row)) c.number-length.ensures in
    record {
      value = told ∙ by_length _ _ _ row c.if-units-row.false c.if-row-gt-MOST_TYPE.false c.if-row-eq0.false;
      unit_bound = λ e. (
        omega (arith, c.requires.1, c.if-units-row.false),
        omega
            (arith, ltb-false _ (end row) (sym c.passes.ensures ∙ e)),
      );
    }

pub overflow_mul-unit : goal.overflow_mul-unit
overflow_mul-unit c =
    omega (arith, c.requires.1, c.if-units-row.false)
