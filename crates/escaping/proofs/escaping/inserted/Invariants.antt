-- One pass, by blocks: the bytes put up to i are counted. A clean block is passed over; in one without 00 00 00 a byte is put for each
-- critical place; `inserted_places` counts those of another.
use Prim.Native.Nat.{◌-◌}
use lib.ListN.{length}
use Rattle.escaping.specs.Parts.{Inserts}
use Rattle.escaping.proofs.escaping.inserted.Given as goal

abbrev pub invariant-loop-i : goal.invariant-loop-i
invariant-loop-i l = Inserts l.obu 0 l.i l.count

abbrev pub decreases-loop-i : goal.decreases-loop-i
decreases-loop-i l = length l.obu - l.i
