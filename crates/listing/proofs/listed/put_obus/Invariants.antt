-- The lines of the steps so far are put; each step that hands out a payload leaves less of the unit.
use Rattle.std.proofs.Common.{◌≡◌, length, ◌-◌}
use Rattle.listing.proofs.Walked.{Listing}
use Rattle.listing.proofs.listed.put_obus.Given as goal

abbrev pub invariant-loop-step : goal.invariant-loop-step
invariant-loop-step l = (l.walk.src.now ≡ l.unit) × Listing l.unit l.initial.text l.text l.walk.at l.index

abbrev pub decreases-loop-step : goal.decreases-loop-step
decreases-loop-step l = length l.unit - l.walk.at
