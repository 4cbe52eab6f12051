-- What the answers of add and drop say, and what they leave. Assumes nothing.
use Rattle.refusal.specs.declared.Refused.{Refused}
use Rattle.std.specs.Prelude.{Bool, not, ◌≡◌, List, length, Result}
use Rattle.lists.specs.Lists.{Bytes}
use Rattle.refusal.specs.Verdict.{NoValue, passed, ◌>>◌}
use Rattle.refusal.specs.Number.{says}
use Rattle.queue.specs.declared.records.Queue.{Queue}
use Rattle.queue.specs.Queue.{TimedUnit, queue_of, adding, dropping, is_empty, units_after, store_after, store_with}

-- what add returned, and the queue then
pub record Added : Type 0 where
  pub answer : Result NoValue Refused
  pub queue : Queue

-- whether drop dropped a unit, and the queue then
pub record Dropped : Type 0 where
  pub dropped : Bool
  pub queue : Queue

-- add of a unit to a queue of these: its answer, the queue given back, and the store after it
pub record Adds (u : TimedUnit) (units : List TimedUnit) (store : Bytes) (r : Added) (after : Bytes) : Type 0 where
  pub answers : says r.answer ≡ (adding u (length store) units >> passed tt)
  pub queue : r.queue ≡ queue_of (units_after (adding u (length store) units) units)
  pub leaves : after ≡ store_after (adding u (length store) units) store

-- "drop on an empty queue says so"
-- drop of the oldest of these: its answer, the queue given back, and the store after it
pub record Drops (units : List TimedUnit) (store : Bytes) (r : Dropped) (after : Bytes) : Type 0 where
  pub answers : not r.dropped ≡ is_empty units
  pub queue : r.queue ≡ queue_of (dropping units)
  pub leaves : after ≡ store_with (dropping units) store
