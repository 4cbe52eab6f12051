use Rattle.comparison.proofs.Loops.{same_units, walking_done, walking_next, walking_found}
use Rattle.comparison.proofs.compare_units.Goals as goal

pub returns-in-Some : goal.returns-in-Some
returns-in-Some c =
    same_units _ _ _ _ _ c.min.ensures
    (walking_found c.loop-index.invariant c.loop-index-test.true _ c.part-unit.ensures _ c.compare_unit.ensures _ c.in-Some.is)

pub loop-index-preserved : goal.loop-index-preserved
loop-index-preserved c =
    walking_next c.loop-index.invariant c.loop-index-test.true _ c.part-unit.ensures _ c.compare_unit.ensures c.in_default.is

pub returns : goal.returns
returns c = same_units _ _ _ _ _ c.min.ensures (walking_done c.loop-index.invariant c.loop-index-test.false)
