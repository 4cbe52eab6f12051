-- The replay of a trace through the transport buffer of 000, 3.6.2. The words of document 02, request 2026-11, stand
-- over each definition. Assumes nothing.
use Rattle.refusal.specs.declared.Refused.{Refused}
use Rattle.std.specs.Prelude.{ℕ, zero, suc, ◌+◌, ◌-◌, ◌*◌, max, Bool, false, not, ◌&&◌, ◌||◌, List, [], ◌∷◌, eqb, leb}
use Rattle.std.specs.Prelude.{ltb}
use Rattle.std.specs.Prelude.{length, Result, Ok, Err, Option, Some, None}
use Rattle.lists.specs.Lists.{pick}
use Rattle.refusal.specs.Verdict.{Verdict, passed, refused, ◌>>◌, NoValue, given}
use Rattle.refusal.specs.Number.{refused_by, says}
use Rattle.ticks.specs.declared.Ticks27.{Ticks27}
use Rattle.replay.specs.declared.state.State.{State}

-- ---- the figures
-- "27,000,000": the ticks of 27 MHz in a second
abbrev pub second : ℕ
second = 27000000

-- "a byte count up to 188"
abbrev pub most_bytes : ℕ
most_bytes = 188

-- "a drain rate in whole bits per second, 1 to 1,000,000,000"
abbrev pub most_rate : ℕ
most_rate = 1000000000

-- "an arrival past the 1,000,000th since the fresh state"
abbrev pub most_arrivals : ℕ
most_arrivals = 1000000

-- "Fill is kept exactly in bits times 27,000,000": what so many bytes fill
abbrev pub fill_of : ℕ → ℕ
fill_of bytes = bytes * 8 * second

-- "4,096 times 27,000,000": the 512 bytes of the buffer
abbrev pub buffer : ℕ
buffer = 4096 * second

-- ---- the input
-- "arrivals, each a 27 MHz time and a byte count"
pub record Arrival : Type 0 where
  pub time : Ticks27
  pub bytes : ℕ

abbrev pub arrival : ℕ → ℕ → Arrival
arrival time bytes = record { time = record { 0 = time }; bytes = bytes }

-- the trace of these times and byte counts, in turn
unfoldable pub trace : List ℕ → List ℕ → List Arrival
trace [] counts = []
trace (t ∷ times) [] = []
trace (t ∷ times) (n ∷ counts) = arrival t n ∷ trace times counts

-- 47: "for the rate"
unfoldable pub rate_wrong : ℕ → Bool
rate_wrong rate = ltb rate 1 || ltb most_rate rate

-- ---- one arrival
-- "A fresh state has fill and highest fill 0, no last time and no arrivals." None was above.
abbrev pub fresh : State
fresh = record { fill = 0; highest = 0; last = None; arrivals = 0; above = None }

-- 46: "for a time that goes back or over 27,000,000 ticks since the last"
abbrev pub time_wrong : (Option Ticks27) → Ticks27 → Bool
time_wrong None t = false
time_wrong (Some l) t = ltb t.0 l.0 || ltb second (t.0 - l.0)

-- 47: "for a byte count outside these bounds or an arrival past the 1,000,000th since the fresh state"
unfoldable pub arrival_wrong : ℕ → ℕ → Bool
arrival_wrong arrivals bytes = ltb most_bytes bytes || leb most_arrivals arrivals

-- the ticks since the last time; none where there is no last time
abbrev pub elapsed : (Option Ticks27) → Ticks27 → ℕ
elapsed None t = 0
elapsed (Some l) t = t.0 - l.0

-- "each elapsed tick takes off the rate, never below zero": the difference of natural numbers is never below zero
unfoldable pub drained : ℕ → ℕ → ℕ → ℕ
drained rate zero fill = fill
drained rate (suc ticks) fill = drained rate ticks (fill - rate)

-- "then the bytes are added"
unfoldable pub filled : ℕ → State → Arrival → ℕ
filled rate s a = drained rate (elapsed s.last a.time) s.fill + fill_of a.bytes

-- "the index of the first arrival above 4,096 times 27,000,000, or none": after an arrival of this index with this fill
abbrev pub first_above : (Option ℕ) → ℕ → ℕ → (Option ℕ)
first_above (Some i) index fill = Some i
first_above None index fill = pick (ltb buffer fill) (Some index) None

-- the state after an arrival. "As counted since the fresh state": the first arrival since then has index 0
unfoldable pub after : ℕ → State → Arrival → State
after rate s a =
    record {
      fill = filled rate s a;
      highest = max s.highest (filled rate s a);
      last = Some a.time;
      arrivals = s.arrivals + 1;
      above = first_above s.above s.arrivals (filled rate s a);
    }

-- "then at each arrival 46 .., 47 .."
unfoldable pub arriving : ℕ → State → Arrival → Verdict State
arriving rate s a = do
  given 46 (time_wrong s.last a.time)
  given 47 (arrival_wrong s.arrivals a.bytes)
  passed (after rate s a)

-- what an arrival returned, and the state that it left
abbrev pub arrived_says : Result NoValue Refused → State → Verdict State
arrived_says (Ok tt) t = passed t
arrived_says (Err r) t = refused_by r

-- ---- a run
-- what a run says, and the state that it hands back: its highest fill and first arrival above are the report
pub record Replayed : Type 0 where
  pub verdict : Verdict NoValue
  pub state : State

abbrev pub refused_at : ℕ → ℕ → State → Replayed
refused_at number place s = record { verdict = refused number place; state = s }

-- "the run stops, with the arrival's index in that run's trace as place and the state as before that arrival"
abbrev pub going_on : ℕ → State → (State → Replayed) → Verdict State → Replayed
going_on index s next (passed t) = next t
going_on index s next (refused number place) = refused_at number index s

-- the arrivals in turn, of which the first has this index in the run's trace
unfoldable pub replay_from : ℕ → ℕ → State → List Arrival → Replayed
replay_from index rate s [] = record { verdict = passed tt; state = s }
replay_from index rate s (a ∷ rest) = going_on index s (λ t. replay_from (suc index) rate t rest) (arriving rate s a)

-- "Refusals: 47 at place 0 for the rate, or for times and byte counts unlike in number, before any arrival"
unfoldable pub replay : State → ℕ → List ℕ → List ℕ → Replayed
replay s rate times counts =
    pick (rate_wrong rate || not (eqb (length times) (length counts))) (refused_at 47 0 s)
    (replay_from 0 rate s (trace times counts))

-- ---- the states that runs speak of
-- there is a last time exactly where there were arrivals
abbrev pub last_right : (Option Ticks27) → ℕ → Bool
last_right None arrivals = eqb arrivals 0
last_right (Some t) arrivals = ltb 0 arrivals

-- there is a first arrival above exactly where the highest fill is above, and it is one of the arrivals
abbrev pub above_right : (Option ℕ) → ℕ → ℕ → Bool
above_right None arrivals highest = leb highest buffer
above_right (Some i) arrivals highest = ltb i arrivals && ltb buffer highest

-- No more arrivals than are allowed, no more fill than the highest, no higher fill than the arrivals can have brought,
-- and a last time and a first arrival above that go with them. The fresh state is valid, and every run keeps it:
-- `ReachedValid` in Runs.antt.
unfoldable pub valid : State → Bool
valid s =
    leb s.arrivals most_arrivals
    && (leb s.fill s.highest
    && (leb s.highest (s.arrivals * fill_of most_bytes)
    && (last_right s.last s.arrivals
    && above_right s.above s.arrivals s.highest)))

-- a run from any state: the papers leave one that is not valid free; here it is 47 at place 0, and handed back
unfoldable pub running : State → ℕ → List ℕ → List ℕ → Replayed
running s rate times counts = pick (valid s) (replay s rate times counts) (refused_at 47 0 s)

-- what a run returned, and the state that it left
pub record RunResult : Type 0 where
  pub answer : Result NoValue Refused
  pub state : State

abbrev pub ran_says : RunResult → Replayed
ran_says r = record { verdict = says r.answer; state = r.state }
