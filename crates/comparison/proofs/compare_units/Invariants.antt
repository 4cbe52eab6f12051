-- As long as nothing has been found, the units from the one reached on give what all of them give.
use Rattle.comparison.proofs.Loops.{Walking}
use Rattle.comparison.proofs.compare_units.Given as goal

abbrev pub invariant-loop-index : goal.invariant-loop-index
invariant-loop-index l = Walking l.fields l.bytes l.lens l.at l.index
