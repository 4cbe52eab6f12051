-- One pass, by blocks: what is given of the bytes up to i stands in the output. A block that does not fit goes place by place.
use Prim.Native.Nat.{◌-◌}
use lib.ListN.{length}
use Rattle.escaping.specs.Parts.{Lays}
use Rattle.escaping.proofs.escaping.escape_prefix.Given as goal

abbrev pub invariant-loop-i : goal.invariant-loop-i
invariant-loop-i l = Lays l.obu 0 l.initial.out 0 l.i l.n l.out

abbrev pub decreases-loop-i : goal.decreases-loop-i
decreases-loop-i l = length l.initial.out - l.n
