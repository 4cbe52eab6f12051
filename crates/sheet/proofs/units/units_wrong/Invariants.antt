-- The units from here on, behind the first packet of the last one, say what all of them say.
use Prim.Native.Nat.{◌+◌, ◌-◌, ◌*◌}
use mathlib.Core.Path.{◌≡◌}
use Rattle.sheet.specs.Reading.{rows, unit_row}
use Rattle.sheet.specs.Passing.{units_wrong}
use Rattle.sheet.proofs.units.units_wrong.Given as goal

abbrev pub invariant-loop-n : goal.invariant-loop-n
invariant-loop-n l =
    units_wrong 0 (rows (unit_row l.sheet) 4 l.count l.at)
    ≡ units_wrong l.low (rows (unit_row l.sheet) 4 (l.count - l.n) (l.at + 4 * l.n))
