use Rattle.sequence.proofs.Loops.{no_times, one_time}
use Rattle.sequence.proofs.points.more_points.Goals as goal

pub loop-init : goal.loop-init
loop-init c = no_times _

pub loop-preserved : goal.loop-preserved
loop-preserved c = one_time _ _ c.loop.invariant c.operating_point.ensures
