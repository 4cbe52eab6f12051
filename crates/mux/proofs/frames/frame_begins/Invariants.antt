-- The first frame of the unit is the first from the place that the loop has come to.
use mathlib.Core.Path.{◌≡◌}
use lib.ListN.{drop}
use Rattle.mux.proofs.Beginnings.{first_from}
use Rattle.mux.proofs.frames.frame_begins.Given as goal

abbrev pub invariant-loop-i : goal.invariant-loop-i
invariant-loop-i l = first_from l.i (drop l.i l.unit) ≡ first_from 0 l.unit
