-- The queue that is handed in is the one of the units for which the struct is valid. Assumes nothing.
use Prim.Native.Nat.{◌≤◌}
use mathlib.Core.Path.{◌≡◌, ap, subst, ◌∙◌}
use mathlib.Core.List.{List, map}
use native.Mathlib.Omega.{arith}
use lib.ListN.{length, drop, replicate, length-append, length-map, length-drop}
use Rattle.lists.specs.Lists.{Bytes}
use Rattle.refusal.specs.Verdict.{Verdict}
use Rattle.queue.specs.declared.records.Queue.{Queue}
use Rattle.queue.specs.Queue.{TimedUnit, record_of, no_record, slots, queue_of, most_units, QueueIs}
use Rattle.mux_rules.specs.declared.Channel.{Channel}
use Rattle.mux_rules.specs.declared.Written.{Written}
use Rattle.mux_rules.specs.Sending.{Sent, Sends}
use Rattle.answers.specs.declared.queueing.QueueState.{QueueState}
use Rattle.answers.specs.Queueing.{queue_from, state_of, channel_state, sent_answer}
use Rattle.answers.proofs.Queues.{same_queue, sent_by}
use Rattle.av1ts.specs.Queueing.{Holds}

slots_eight : (units : List TimedUnit) → length units ≤ most_units → length (slots units) ≡ 8
unfolding slots
slots_eight units few =
    omega (
      arith,
      length-append (map record_of units) (drop (length units) (replicate most_units no_record)),
      length-map units record_of,
      length-drop (length units) (replicate most_units no_record),
    )

-- the queue that is handed in is the one of the units
pub handed_in : {c : QueueState} {store : Bytes} {units : List TimedUnit} → Holds c store units → queue_from c ≡ queue_of units
handed_in {c} {store} {units} h =
    ap queue_from h.state ∙ same_queue (queue_of units) (slots_eight units h.valid.few)

pub holds_queue : {c : QueueState} {store : Bytes} {units : List TimedUnit} → Holds c store units → (q : Queue) → q ≡ queue_from c
    → QueueIs q store units
holds_queue h q e =
    record { holds = e ∙ handed_in h; few = h.valid.few; stands = h.valid.stands; right = h.valid.right }

pub sent_from : {v v' : Verdict Written} {c c' : Channel} {q q' : Queue} → v ≡ v' → c ≡ c' → q ≡ q' → sent_answer v c q ≡ sent_answer v' c'
    q'
sent_from ev ec eq = sent_by (ap channel_state ec) (ap state_of eq) ev

-- a channel by another name
pub sends_as : {c c' : Channel} {video out after : Bytes} {units : List TimedUnit} {r : Sent} → c ≡ c' → Sends c video units out r after
    → Sends c' video units out r after
sends_as {c} {c'} {video} {out} {after} {units} {r} e s = subst (λ (x : Channel). Sends x video units out r after) e s
