-- As many packets as n says have counted on, and the definition counts the rest from there on (`CountedOn`).
use Rattle.plain.proofs.Following.{CountedOn}
use Rattle.plain.proofs.count_on.Given as goal

abbrev pub invariant-loop-n : goal.invariant-loop-n
invariant-loop-n l = CountedOn l.segment l.from l.pid l.last l.n l.counter
