-- Draining so many ticks at once is draining them one by one. Assumes nothing.
use Prim.Native.Nat.{zero, suc, ◌-◌}
use mathlib.Core.Path.{◌∙◌}
use native.Mathlib.Omega.{arith}
use native.Mathlib.Nat.{mul-suc}
use Rattle.replay.specs.Replay.{drained}
use Rattle.replay.specs.Runs.{AtOnce}

pub at_once : AtOnce
unfolding drained
at_once rate zero fill = omega arith
at_once rate (suc ticks) fill = at_once rate ticks (fill - rate) ∙ omega (arith, mul-suc rate ticks)
