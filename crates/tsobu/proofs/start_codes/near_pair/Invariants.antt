-- At the places that are passed over no 00 00 stands, so that nothing is forbidden there and nothing dropped.
use Prim.Native.Nat.{◌-◌}
use lib.ListN.{length}
use Rattle.emulation.specs.Parts.{Lawful}
use Rattle.tsobu.proofs.start_codes.near_pair.Given as goal

abbrev pub invariant-loop-place : goal.invariant-loop-place
invariant-loop-place l = Lawful l.s l.start l.place 0

abbrev pub decreases-loop-place : goal.decreases-loop-place
decreases-loop-place l = length l.s - l.place
