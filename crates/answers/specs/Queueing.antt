-- The C structs of the queue and of send: the queue and the channel, handed in and handed back, and the answers.
-- Assumes nothing.
use Rattle.std.specs.Prelude.{ℕ, Bool, not, List, [], ◌∷◌, map, eqb, get_or}
use Rattle.lists.specs.Lists.{pick}
use Rattle.refusal.specs.Verdict.{Verdict, passed, refused, NoValue}
use Rattle.queue.specs.declared.records.Queued.{Queued}
use Rattle.queue.specs.declared.records.Queue.{Queue}
use Rattle.queue.specs.Queue.{no_record}
use Rattle.mux_rules.specs.declared.Channel.{Channel}
use Rattle.mux_rules.specs.declared.Written.{Written}
use Rattle.answers.specs.declared.queueing.QueueState.{QueueState}
use Rattle.answers.specs.declared.queueing.QueuedAnswer.{QueuedAnswer}
use Rattle.answers.specs.declared.queueing.ChannelState.{ChannelState}
use Rattle.answers.specs.declared.queueing.SentAnswer.{SentAnswer}

-- the indices of the eight slots
abbrev pub indices : List ℕ
indices = 0 ∷ 1 ∷ 2 ∷ 3 ∷ 4 ∷ 5 ∷ 6 ∷ 7 ∷ []

-- ---- a queue that is handed in
abbrev pub slot_from : ℕ → ℕ → ℕ → ℕ → Queued
slot_from length pts dts marked =
    record { length = length; pts = record { 0 = pts }; dts = record { 0 = dts }; marked = not (eqb marked 0) }

abbrev pub slot_at : QueueState → ℕ → Queued
slot_at c i = slot_from (get_or c.length i 0) (get_or c.pts i 0) (get_or c.dts i 0) (get_or c.marked i 0)

abbrev pub queue_from : QueueState → Queue
queue_from c = record { count = c.units; units = map (slot_at c) indices; total = c.total }

-- ---- a queue that is handed back
unfoldable pub mark : Bool → ℕ
mark b = pick b 1 0

abbrev pub state_of : Queue → QueueState
state_of q =
    record {
      units = q.count;
      length = map (λ (i : ℕ). (get_or q.units i no_record).length) indices;
      pts = map (λ (i : ℕ). (get_or q.units i no_record).pts.0) indices;
      dts = map (λ (i : ℕ). (get_or q.units i no_record).dts.0) indices;
      marked = map (λ (i : ℕ). mark (get_or q.units i no_record).marked) indices;
      total = q.total;
    }

-- ---- the channel
abbrev pub channel_from : ChannelState → Channel
channel_from c =
    record {
      program = c.program;
      map_pid = c.map_pid;
      av1_pid = c.av1_pid;
      pcr = record { 0 = c.pcr };
      pat_counter = c.pat_counter;
      map_counter = c.map_counter;
      av1_counter = c.av1_counter;
    }

abbrev pub channel_state : Channel → ChannelState
channel_state c =
    record {
      program = c.program;
      map_pid = c.map_pid;
      av1_pid = c.av1_pid;
      pcr = c.pcr.0;
      pat_counter = c.pat_counter;
      map_counter = c.map_counter;
      av1_counter = c.av1_counter;
    }

-- ---- the answers
abbrev pub add_with : QueueState → Verdict NoValue → QueuedAnswer
add_with c (passed _) = record { number = 0; place = 0; empty = 0; queue = c }
add_with c (refused number place) = record { number = number; place = place; empty = 0; queue = c }

abbrev pub add_answer : Verdict NoValue → Queue → QueuedAnswer
add_answer v q = add_with (state_of q) v

abbrev pub drop_with : QueueState → Bool → QueuedAnswer
drop_with c empty = record { number = 0; place = 0; empty = mark empty; queue = c }

abbrev pub drop_answer : Bool → Queue → QueuedAnswer
drop_answer empty q = drop_with (state_of q) empty

abbrev pub sent_with : ChannelState → QueueState → Verdict Written → SentAnswer
sent_with n c (passed w) =
    record { number = 0; place = 0; bytes = w.bytes; packets = w.packets; next = n; queue = c }
sent_with n c (refused number place) =
    record { number = number; place = place; bytes = 0; packets = 0; next = n; queue = c }

abbrev pub sent_answer : Verdict Written → Channel → Queue → SentAnswer
sent_answer v c q = sent_with (channel_state c) (state_of q) v
