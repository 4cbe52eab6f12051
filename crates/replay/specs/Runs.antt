-- What holds of runs, as statements: of a trace in two runs, of the states that runs lead to, and of the ticks of a
-- drain. They are proved in proofs/. Assumes nothing.
use Rattle.std.specs.Prelude.{ℕ, ◌-◌, ◌*◌, ◌^◌, ◌<◌, true, ◌≡◌, List, ◌++◌, length}
use Rattle.refusal.specs.Verdict.{passed}
use Rattle.replay.specs.declared.state.State.{State}
use Rattle.replay.specs.Replay.{fresh, drained, replay, valid}

-- a run of these times and byte counts refuses nothing, and hands back this state
abbrev pub Ends : State → ℕ → List ℕ → List ℕ → State → Type 0
Ends s rate times counts t = replay s rate times counts ≡ record { verdict = passed tt; state = t }

-- "The same trace, nothing refused, in two runs at one rate, the first's end state handed to the second, reports as
-- one": the end states are one, so the highest fill and the first arrival above are
abbrev pub TwoRuns : Type 0
TwoRuns =
    (s : State) (rate : ℕ) (ts us ns ms : List ℕ) (t u : State) → Ends s rate ts ns t → Ends t rate us ms u
    → Ends s rate (ts ++ us) (ns ++ ms) u

-- and where nothing of the whole is refused, nothing of the two parts is
abbrev pub OneRun : Type 0
OneRun =
    (s : State) (rate : ℕ) (ts us ns ms : List ℕ) (u : State) → length ts ≡ length ns
    → Ends s rate (ts ++ us) (ns ++ ms) u → (t : State) × Ends s rate ts ns t × Ends t rate us ms u

-- the states that runs lead to from the fresh state, refused ones too, at any rates
pub data Reached : State → Type 0 where
  at_first : Reached fresh
  by_run : {s : State} → Reached s → (rate : ℕ) (times counts : List ℕ) → Reached (replay s rate times counts).state

-- each of them is valid
abbrev pub ReachedValid : Type 0
ReachedValid = (s : State) → Reached s → valid s ≡ true

-- and its fills fit 64 bits
abbrev pub ValidFits : Type 0
ValidFits = (s : State) → valid s ≡ true → (s.fill < 2 ^ 64) × (s.highest < 2 ^ 64)

-- draining so many ticks at once is draining them one by one
abbrev pub AtOnce : Type 0
AtOnce = (rate ticks fill : ℕ) → drained rate ticks fill ≡ fill - rate * ticks
