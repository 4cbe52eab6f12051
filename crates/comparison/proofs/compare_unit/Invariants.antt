-- As long as nothing has been found and no frame has come, the tsOBUs from the place reached on give what the whole unit gives.
use Prim.Native.Nat.{◌-◌}
use lib.ListN.{length}
use Rattle.comparison.proofs.Loops.{Going}
use Rattle.comparison.proofs.compare_unit.Given as goal

abbrev pub invariant-loop-code : goal.invariant-loop-code
invariant-loop-code l = Going l.fields l.unit l.code

abbrev pub decreases-loop-code : goal.decreases-loop-code
decreases-loop-code l = length l.unit - l.code
