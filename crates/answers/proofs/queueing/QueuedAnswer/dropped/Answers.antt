-- The number is that of the definition: 1 where there was no unit.
use Prim.Native.Nat.{ℕ}
use mathlib.Core.Bool.{not}
use mathlib.Core.Path.{ap₂}
use Rattle.answers.specs.declared.queueing.QueueState.{QueueState}
use Rattle.answers.specs.declared.queueing.QueuedAnswer.{QueuedAnswer}
use Rattle.answers.proofs.Queues.{byte_is}
use Rattle.answers.proofs.queueing.QueuedAnswer.dropped.Goals as goal

answer : ℕ → QueueState → QueuedAnswer
answer empty queue = record { number = 0; place = 0; empty = empty; queue = queue }

pub returns : goal.returns
unfolding answer
returns c = ap₂ answer (byte_is (not c.args.dropped)) c.into.ensures
