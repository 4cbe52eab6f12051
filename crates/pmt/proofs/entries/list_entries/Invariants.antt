-- One entry a turn. Those that passed stand in the first slots with what is known of the AV1 entry; with the entries from here on they are
-- the entries of the whole. The measure is the number of bytes left.
use Prim.Native.Nat.{◌-◌}
use lib.ListN.{length}
use Rattle.descriptor.specs.Naming.{edition_says}
use Rattle.pmt.proofs.Turns.{Turned}
use Rattle.pmt.proofs.entries.list_entries.Given as goal

abbrev pub invariant-loop-at : goal.invariant-loop-at
invariant-loop-at l = Turned (edition_says l.edition) l.map_pid l.s l.entries l.av1 l.at

abbrev pub decreases-loop-at : goal.decreases-loop-at
decreases-loop-at l = length l.s - l.at
