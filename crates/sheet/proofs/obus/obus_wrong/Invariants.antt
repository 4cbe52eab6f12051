-- The OBUs from here on, behind the progress so far, say what all of them say.
use Prim.Native.Nat.{◌+◌, ◌-◌, ◌*◌}
use mathlib.Core.Path.{◌≡◌}
use Rattle.sheet.specs.Reading.{rows, unit_row, obu_row}
use Rattle.sheet.specs.Passing.{at_first, obus_wrong}
use Rattle.sheet.proofs.obus.obus_wrong.Given as goal

abbrev pub invariant-loop-n : goal.invariant-loop-n
invariant-loop-n l =
    let units = rows (unit_row l.sheet) 4 l.sections.units l.sections.unit_rows in
    obus_wrong units at_first (rows (obu_row l.sheet) 4 l.sections.obus l.sections.obu_rows)
    ≡ obus_wrong units l.progress (rows (obu_row l.sheet) 4 (l.sections.obus - l.n) (l.sections.obu_rows + 4 * l.n))
