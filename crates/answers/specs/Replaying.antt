-- The C structs of a replay: its state, handed in and handed back, and its answer. Assumes nothing.
use Rattle.ticks.specs.declared.Ticks27.{Ticks27}
use Rattle.std.specs.Prelude.{ℕ, Bool, ◌&&◌, ◌||◌, List, eqb, Option, Some, None}
use Rattle.lists.specs.Lists.{pick}
use Rattle.refusal.specs.Verdict.{Verdict, passed, refused, NoValue}
use Rattle.replay.specs.declared.state.State.{State}
use Rattle.replay.specs.Replay.{Replayed, running}
use Rattle.answers.specs.declared.replaying.ReplayState.{ReplayState}
use Rattle.answers.specs.declared.replaying.ReplayAnswer.{ReplayAnswer}

-- ---- a state that is handed in
-- what there is none of is 0: «has_last» and last, «has_above» and above
unfoldable pub pair_right : ℕ → ℕ → Bool
pair_right has value = eqb has 1 || (eqb has 0 && eqb value 0)

unfoldable pub state_right : ReplayState → Bool
state_right c = pair_right c.has_last c.last && pair_right c.has_above c.above

unfoldable pub last_from : ℕ → ℕ → (Option Ticks27)
last_from has time = pick (eqb has 0) None (Some (record { 0 = time }))

unfoldable pub above_from : ℕ → ℕ → (Option ℕ)
above_from has index = pick (eqb has 0) None (Some index)

abbrev pub state_from : ReplayState → State
state_from c =
    record {
      fill = c.fill;
      highest = c.highest;
      last = last_from c.has_last c.last;
      arrivals = c.arrivals;
      above = above_from c.has_above c.above;
    }

-- ---- a state that is handed back
abbrev pub has_last : (Option Ticks27) → ℕ
has_last None = 0
has_last (Some t) = 1

abbrev pub last_time : (Option Ticks27) → ℕ
last_time None = 0
last_time (Some t) = t.0

abbrev pub has_above : (Option ℕ) → ℕ
has_above None = 0
has_above (Some i) = 1

abbrev pub above_index : (Option ℕ) → ℕ
above_index None = 0
above_index (Some i) = i

abbrev pub state_answer : State → ReplayState
state_answer s =
    record {
      fill = s.fill;
      highest = s.highest;
      has_last = has_last s.last;
      last = last_time s.last;
      arrivals = s.arrivals;
      has_above = has_above s.above;
      above = above_index s.above;
    }

-- ---- the answer, and the state beside it
abbrev pub answer_with : ReplayState → Verdict NoValue → ReplayAnswer
answer_with c (passed _) = record { number = 0; place = 0; state = c }
answer_with c (refused number place) = record { number = number; place = place; state = c }

abbrev pub replay_answer : Replayed → ReplayAnswer
replay_answer r = answer_with (state_answer r.state) r.verdict

-- a struct that is no state is 47 at place 0, and handed back
abbrev pub no_state : ReplayState → ReplayAnswer
no_state c = answer_with c (refused 47 0)

unfoldable pub replaying : ReplayState → ℕ → List ℕ → List ℕ → ReplayAnswer
replaying c rate times counts =
    pick (state_right c) (replay_answer (running (state_from c) rate times counts)) (no_state c)
