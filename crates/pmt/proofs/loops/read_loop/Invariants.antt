-- One descriptor a turn. What is found in those so far, and the descriptors from here on, are what is found in the whole loop. The measure
-- is the number of bytes left.
use Prim.Native.Nat.{◌-◌}
use lib.ListN.{length}
use Rattle.descriptor.specs.Naming.{edition_says}
use Rattle.pmt.proofs.Descriptors.{Walked}
use Rattle.pmt.proofs.loops.read_loop.Given as goal

abbrev pub invariant-loop-at : goal.invariant-loop-at
invariant-loop-at l = Walked (edition_says l.edition) l.s l.found l.at

abbrev pub decreases-loop-at : goal.decreases-loop-at
decreases-loop-at l = length l.s - l.at
