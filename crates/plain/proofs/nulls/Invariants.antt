-- As many null packets as n says are counted, and the definition counts the rest from there on (`Counted`).
use Rattle.plain.proofs.Following.{Counted}
use Rattle.plain.proofs.nulls.Given as goal

abbrev pub invariant-loop-n : goal.invariant-loop-n
invariant-loop-n l = Counted l.segment l.from l.n
