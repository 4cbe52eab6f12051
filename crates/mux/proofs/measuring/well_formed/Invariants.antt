-- What is left of the slots is well formed in what is left of the store as all of them are in the whole.
use mathlib.Core.Path.{◌≡◌}
use lib.ListN.{drop}
use Rattle.mux.specs.Parts.{formed}
use Rattle.mux.proofs.measuring.well_formed.Given as goal

abbrev pub invariant-loop-slot : goal.invariant-loop-slot
invariant-loop-slot l = formed (drop l.slot-index l.slots) l.left ≡ formed l.slots l.room
