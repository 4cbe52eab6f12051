-- The loop: what is left of the trace, from the state reached, says what the whole trace says from the state handed in.
use mathlib.Core.Path.{◌≡◌}
use lib.ListN.{length}
use Rattle.replay.specs.Replay.{trace, replay_from}
use Rattle.replay.proofs.Turns.{left}
use Rattle.replay.proofs.arrival.Replay.run.Given as goal

abbrev pub invariant-loop-i : goal.invariant-loop-i
invariant-loop-i l =
    (goal.iterator-loop-i).can_next l.i-iterator
    × (goal.iterator-loop-i).is_finite l.i-iterator
    × (l.self.rate ≡ l.initial.self.rate)
    × (replay_from 0 l.initial.self.rate l.initial.self.state (trace l.times l.counts)
    ≡ left (length l.yielded) l.initial.self.rate l.self.state l.times l.counts)
