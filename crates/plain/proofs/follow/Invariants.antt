-- As many packets as n says have gone on, and their payloads are written (`Followed`).
use Rattle.plain.proofs.Following.{Followed}
use Rattle.plain.proofs.follow.Given as goal

abbrev pub invariant-loop-n : goal.invariant-loop-n
invariant-loop-n l = Followed l.segment l.from l.pid l.last l.initial.out l.out l.n l.counter l.written
