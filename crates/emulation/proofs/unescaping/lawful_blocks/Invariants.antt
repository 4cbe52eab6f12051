-- In a block without 00 00 nothing begins and nothing is dropped; in one with no forbidden place each 00 00 03 drops one byte.
use Prim.Native.Nat.{◌-◌}
use lib.ListN.{length}
use Rattle.emulation.specs.Parts.{Lawful}
use Rattle.emulation.proofs.unescaping.lawful_blocks.Given as goal

abbrev pub invariant-loop-place : goal.invariant-loop-place
invariant-loop-place l = Lawful l.s l.i l.place l.count

abbrev pub decreases-loop-place : goal.decreases-loop-place
decreases-loop-place l = length l.s - l.place
