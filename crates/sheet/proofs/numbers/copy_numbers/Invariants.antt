-- What is copied, then the numbers to come, are the numbers that are asked for.
use Rattle.sheet.proofs.Copying.{Copied}
use Rattle.sheet.proofs.numbers.copy_numbers.Given as goal

abbrev pub invariant-loop-k : goal.invariant-loop-k
invariant-loop-k l = Copied l.sheet l.i l.count l.initial.out l.out l.k
