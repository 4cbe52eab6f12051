-- There is none, or the verdict is that on its unit.
use Rattle.units.proofs.Extracting.{none_closes, unit_closes}
use Rattle.units.proofs.units.Extraction.judge_open.Goals as goal

pub returns-in-None : goal.returns-in-None
returns-in-None c lens times before x s = none_closes s c.in-None.is

pub returns-in-Some : goal.returns-in-Some
returns-in-Some c lens times before x s =
    unit_closes s _ c.in-Some.is c.judge_unit.result c.part-unit.result.now c.part-unit.ensures
    c.judge_unit.ensures
