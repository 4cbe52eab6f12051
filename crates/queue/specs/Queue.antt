-- "a queue of up to 8 units, each with PTS, DTS and carried bytes, by operations add, drop oldest, send and clear":
-- what
-- the operations mean for the units and for the bytes of the lent store. The words of document 02, request 2026-01,
-- stand over each definition. Assumes nothing.
use Rattle.std.specs.Prelude.{ℕ, ◌^◌, ◌≤◌, Bool, true, false, ◌||◌, ◌≡◌, leb, ltb, length, take, drop, replicate}
use mathlib.Core.List.{List, [], ◌∷◌, ◌++◌, map, flatten}
use Rattle.lists.specs.Lists.{Bytes, over, any}
use Rattle.refusal.specs.Verdict.{Verdict, passed, refused, ◌>>◌, given}
use Rattle.ticks.specs.declared.Ticks90.{Ticks90}
use Rattle.unit.specs.Unit.{read_unit}
use Rattle.queue.specs.declared.records.Queued.{Queued}
use Rattle.queue.specs.declared.records.Queue.{Queue}

-- ---- the units
-- "units, each with PTS, DTS and carried bytes"; "A unit comes with a random-access mark"
pub record TimedUnit : Type 0 where
  pub carried : Bytes
  pub pts : Ticks90
  pub dts : Ticks90
  pub marked : Bool

abbrev pub timed : Bytes → Ticks90 → Ticks90 → Bool → TimedUnit
timed carried pts dts marked = record { carried = carried; pts = pts; dts = dts; marked = marked }

-- "a queue of up to 8 units"
abbrev pub most_units : ℕ
most_units = 8

-- "Unit bytes stand back to back .., oldest first"
abbrev pub queued_bytes : List TimedUnit → Bytes
queued_bytes units = flatten (map (λ u. u.carried) units)

-- 51: "unit not accepted by reading": a refusal of reading other than 8 applies
unfoldable pub is_refused : {A : Type 0} → Verdict A → Bool
is_refused (passed a) = false
is_refused (refused number place) = true

-- 51: "a time above 33 bits"
abbrev pub time_past : Ticks90 → Bool
time_past t = leb (2 ^ 33) t.0

unfoldable pub unacceptable : Bytes → Ticks90 → Ticks90 → Bool
unacceptable carried pts dts = is_refused (read_unit carried) || (time_past pts || time_past dts)

abbrev pub unit_wrong : TimedUnit → Bool
unit_wrong u = unacceptable u.carried u.pts u.dts

-- ---- the queue with its store
-- `Queue` (src/records.rt) has a slot for each of eight units: its length, times and mark. Slots that no unit fills
-- are 0
abbrev pub record_of : TimedUnit → Queued
record_of u = record { length = length u.carried; pts = u.pts; dts = u.dts; marked = u.marked }

abbrev pub no_record : Queued
no_record = record { length = 0; pts = record { 0 = 0 }; dts = record { 0 = 0 }; marked = false }

unfoldable pub slots : List TimedUnit → List Queued
slots units = map record_of units ++ drop (length units) (replicate most_units no_record)

-- the queue of these units. 2026-06: "Store the total in the queue .. equal to the sum of the queued lengths", which
-- is how
-- many bytes they have together (`total_sum` in proofs/Keeping.antt)
abbrev pub queue_of : List TimedUnit → Queue
queue_of units = record { count = length units; units = slots units; total = length (queued_bytes units) }

-- The validity of a queue with its store: it holds these units, each of which could be added, and their bytes stand
-- "back to back from the front of a lent store, oldest first". It is proved that the empty queue is one with every
-- store, and that every operation keeps it, refused or not (proofs/Keeping.antt).
pub record QueueIs (queue : Queue) (store : Bytes) (units : List TimedUnit) : Type 0 where
  pub holds : queue ≡ queue_of units
  pub few : length units ≤ most_units
  pub stands : take (length (queued_bytes units)) store ≡ queued_bytes units
  pub right : any unit_wrong units ≡ false

-- ---- the operations
-- add: "Refusals: 50 queue full, 51 unit not accepted by reading or a time above 33 bits, .. then 8 for store". The
-- units after it
unfoldable pub adding : TimedUnit → ℕ → List TimedUnit → Verdict (List TimedUnit)
adding u room units = do
  given 50 (leb most_units (length units))
  given 51 (unit_wrong u)
  given 8 (ltb room (length (queued_bytes (units ++ (u ∷ [])))))
  passed (units ++ (u ∷ []))

-- drop oldest; "drop on an empty queue says so and changes nothing"
unfoldable pub is_empty : List TimedUnit → Bool
is_empty [] = true
is_empty (u ∷ us) = false

unfoldable pub dropping : List TimedUnit → List TimedUnit
dropping [] = []
dropping (u ∷ us) = us

-- "a refusal changes neither queue, store, .."
unfoldable pub units_after : Verdict (List TimedUnit) → List TimedUnit → List TimedUnit
units_after (passed after) units = after
units_after (refused number place) units = units

-- the store after an operation that leaves these units: their bytes "stand back to back from the front", and the rest
-- keeps its old bytes
abbrev pub store_with : List TimedUnit → Bytes → Bytes
store_with units store = over (queued_bytes units) store

unfoldable pub store_after : Verdict (List TimedUnit) → Bytes → Bytes
store_after (passed units) store = store_with units store
store_after (refused number place) store = store
