-- The queue and send, on a struct that is valid with its store. Assumes nothing.
use Rattle.std.specs.Prelude.{◌≡◌, List, length}
use Rattle.lists.specs.Lists.{Bytes}
use Rattle.refusal.specs.Verdict.{passed, ◌>>◌}
use Rattle.refusal.specs.Verdict as verdict
use Rattle.queue.specs.Queue.{TimedUnit, queue_of, QueueIs, adding, dropping, is_empty, units_after, store_after}
use Rattle.queue.specs.Queue.{store_with}
use Rattle.mux_rules.specs.Packets.{segment}
use Rattle.mux_rules.specs.Sending.{sending, units_left, channel_left}
use Rattle.answers.specs.declared.queueing.QueueState.{QueueState}
use Rattle.answers.specs.declared.queueing.QueuedAnswer.{QueuedAnswer}
use Rattle.answers.specs.declared.queueing.ChannelState.{ChannelState}
use Rattle.answers.specs.declared.queueing.SentAnswer.{SentAnswer}
use Rattle.answers.specs.Queueing.{state_of, channel_from, add_answer, drop_answer, sent_answer}

-- the validity of the struct with its store: it is that of a queue of these units, which is valid. The struct of zeros
-- is that of the empty queue
pub record Holds (c : QueueState) (store : Bytes) (units : List TimedUnit) : Type 0 where
  pub state : c ≡ state_of (queue_of units)
  pub valid : QueueIs (queue_of units) store units

-- add, drop and send on a struct that is valid with its store for these units
pub record AddsTo (u : TimedUnit) (units : List TimedUnit) (store : Bytes) (r : QueuedAnswer) (after : Bytes)
    : Type 0 where
  pub answers : r
      ≡ add_answer (adding u (length store) units >> passed tt)
      (queue_of (units_after (adding u (length store) units) units))
  pub leaves : after ≡ store_after (adding u (length store) units) store

pub record DropsFrom (units : List TimedUnit) (store : Bytes) (r : QueuedAnswer) (after : Bytes) : Type 0 where
  pub answers : r ≡ drop_answer (is_empty units) (queue_of (dropping units))
  pub leaves : after ≡ store_with (dropping units) store

pub record SendsFrom (c : ChannelState) (video : Bytes) (units : List TimedUnit) (out : Bytes) (r : SentAnswer)
    (after : Bytes) : Type 0 where
  pub answers : r
      ≡ sent_answer (sending (channel_from c) video (length out) units)
      (channel_left (sending (channel_from c) video (length out) units) (channel_from c) units)
      (queue_of (units_left (sending (channel_from c) video (length out) units) units))
  pub leaves : after
      ≡ verdict.leaves (sending (channel_from c) video (length out) units) (segment (channel_from c) video units) out
