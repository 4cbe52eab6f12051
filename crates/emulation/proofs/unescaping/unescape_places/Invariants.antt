-- What is written, then what the rest of the payload unescapes to, is what the payload unescapes to from i on.
use Prim.Native.Nat.{◌-◌}
use lib.ListN.{length}
use Rattle.emulation.specs.Payload.{unescape}
use Rattle.emulation.proofs.Giving.{Going}
use Rattle.emulation.proofs.unescaping.unescape_places.Given as goal

abbrev pub invariant-loop-place : goal.invariant-loop-place
invariant-loop-place l = Going unescape l.payload l.i l.initial.out l.n l.place l.count l.out

abbrev pub decreases-loop-place : goal.decreases-loop-place
decreases-loop-place l = length l.payload - l.place
