-- Place by place: a byte that is not 00 rules out the places whose pair it would belong to, and at 00 00 the tests decide.
use Prim.Native.Nat.{◌-◌}
use lib.ListN.{length}
use Rattle.emulation.specs.Parts.{Lawful}
use Rattle.emulation.proofs.unescaping.lawful_places.Given as goal

abbrev pub invariant-loop-place : goal.invariant-loop-place
invariant-loop-place l = Lawful l.s l.i l.place l.count

abbrev pub decreases-loop-place : goal.decreases-loop-place
decreases-loop-place l = length l.s - l.place
