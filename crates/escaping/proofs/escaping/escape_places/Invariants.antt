-- What is written, then the escaped form of the rest, is the escaped form of the OBU from i on.
use Prim.Native.Nat.{◌-◌}
use lib.ListN.{length}
use Rattle.emulation.specs.Payload.{escape}
use Rattle.emulation.proofs.Giving.{Going}
use Rattle.escaping.proofs.escaping.escape_places.Given as goal

abbrev pub invariant-loop-place : goal.invariant-loop-place
invariant-loop-place l = Going escape l.obu l.i l.initial.out l.n l.place l.count l.out

abbrev pub decreases-loop-place : goal.decreases-loop-place
decreases-loop-place l = length l.obu - l.place
