-- What is counted, and what the slots to come take, is what all take.
use Prim.Native.Nat.{◌+◌, ◌*◌, ◌≤◌}
use mathlib.Core.Path.{◌≡◌}
use lib.ListN.{drop}
use Rattle.mux.specs.Parts.{slots_packets}
use Rattle.mux.proofs.measuring.queue_packets.Given as goal

abbrev pub invariant-loop-slot : goal.invariant-loop-slot
invariant-loop-slot l = (l.total + slots_packets (drop l.slot-index l.slots) ≡ slots_packets l.slots) × (l.total ≤ 8551 * l.slot-index)
