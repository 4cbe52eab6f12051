-- Case by case.
use mathlib.Core.Path.{sym, ap}
use Rattle.segment_rules.specs.Check.{pts_and_dts}
use Rattle.units.proofs.outputs.time_pair.Goals as goal

pub returns-in-None : goal.returns-in-None
unfolding pts_and_dts
returns-in-None c = ap pts_and_dts (sym c.in-None.is)

pub returns-in-Some : goal.returns-in-Some
unfolding pts_and_dts
returns-in-Some c = ap pts_and_dts (sym c.in-Some.is)
