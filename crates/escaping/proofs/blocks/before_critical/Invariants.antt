-- Of the places looked at, the first at which 00 00 and a byte of 0 to 3 stand is kept (`Searched`): a later one is greater.
use Rattle.emulation.specs.Parts.{critical}
use Rattle.escaping.proofs.Searching.{Searched}
use Rattle.escaping.proofs.blocks.before_critical.Given as goal

abbrev pub invariant-loop-k : goal.invariant-loop-k
invariant-loop-k l = Searched critical l.s l.i l.k l.first
