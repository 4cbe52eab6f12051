-- Each OBU passed so far passes the tries of its own, and `kinds` begins with the numbers of their kinds; the tries of those left are then
-- those of all.
use Rattle.unit.proofs.Tries.{Judging}
use Rattle.unit.proofs.writing.judge_obus.Given as goal

abbrev pub invariant-loop-i : goal.invariant-loop-i
invariant-loop-i l = Judging l.lens l.obus l.i-counter l.at l.kinds
