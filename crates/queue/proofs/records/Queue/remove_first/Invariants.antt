-- The first i records have moved down by one slot; the others are where they were.
use mathlib.Core.Path.{◌≡◌}
use mathlib.Core.List.{◌++◌}
use lib.ListN.{take, drop}
use Rattle.queue.proofs.records.Queue.remove_first.Given as goal

abbrev pub invariant-loop-i : goal.invariant-loop-i
invariant-loop-i l =
    (l.self.count ≡ l.initial.self.count) × (l.self.total ≡ l.initial.self.total)
    × (l.self.units ≡ take l.i (drop 1 l.initial.self.units) ++ drop l.i l.initial.self.units)
