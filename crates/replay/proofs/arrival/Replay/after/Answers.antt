-- Each part of the state is that of the definition, from the promise of the function that gives it.
use native.Mathlib.Omega.{arith}
use Rattle.replay.specs.Replay.{after}
use Rattle.replay.proofs.States.{passes}
use Rattle.replay.proofs.arrival.Replay.after.Goals as goal

pub overflow_add-result : goal.overflow_add-result
overflow_add-result c = let p = passes _ _ c.requires.1 in omega arith

pub returns : goal.returns
unfolding after
returns c = rw (c.first_above.ensures, c.max.ensures, c.filled-fill.ensures)
