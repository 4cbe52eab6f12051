-- What holds of a state and is kept by rules in sequence. Assumes nothing.
use Prim.Native.Nat.{ℕ}
use mathlib.Core.Bool.{Bool, true, false}
use mathlib.Core.Path.{◌≡◌, refl}
use mathlib.Core.List.{List, [], ◌∷◌}
use Rattle.lists.specs.Lists.{Bytes, pick}
use Rattle.refusal.specs.Verdict.{Verdict, passed, refused, ◌>>=◌, ◌>>◌, at_place}
use Rattle.refusal.proofs.Verdicts.{All, never}
use Rattle.segment_rules.specs.State.{Tables, Extraction, State}
use Rattle.segment_rules.specs.Rules.{Rule, in_sequence, on_tables, on_units, rule, unless_repeat}

-- a verdict that passed with a place passed
pub passed_at : {A : Type 0} (place : ℕ) (v : Verdict A) (a : A) → at_place place v ≡ passed a → v ≡ passed a
unfolding at_place
passed_at place (passed b) a e = e
passed_at place (refused number _) a e = never e

-- ---- what holds of a verdict's value, if it has one
abbrev pub Holds : {A : Type 0} → (A → Type 0) → Verdict A → Type 0
Holds P (passed a) = P a
Holds P (refused number place) = Unit {0}

module _ {A : Type 0} (P : A → Type 0) where
  pub holds_where : (v : Verdict A) → ((a : A) → v ≡ passed a → P a) → Holds P v
  holds_where (passed a) h = h a refl
  holds_where (refused number place) h = tt

  pub holds_at : (place : ℕ) (v : Verdict A) → Holds P v → Holds P (at_place place v)
  unfolding at_place
  holds_at place (passed a) h = h
  holds_at place (refused number _) h = tt

  pub holds_pick : (b : Bool) (v w : Verdict A) → Holds P v → Holds P w → Holds P (pick b v w)
  unfolding pick
  holds_pick true v w h k = h
  holds_pick false v w h k = k

  -- a first step that gave a value, and a second
  pub holds_then : {B : Type 0} (v : Verdict B) (w : Verdict A) → ((b : B) → v ≡ passed b → Holds P w) → Holds P (v >> w)
  unfolding ◌>>◌
  holds_then (passed b) w h = h b refl
  holds_then (refused number place) w h = tt

  -- the same where the first hands its value on, of which something holds, or nothing
  pub holds_after : {B : Type 0} (Q : B → Type 0) (v : Verdict B) (f : B → Verdict A) → Holds Q v → ((b : B) → Q b → Holds P (f b))
      → Holds P (v >>= f)
  unfolding ◌>>=◌
  holds_after Q (passed b) f h k = k b h
  holds_after Q (refused number place) f h k = tt

  pub holds_each : {B : Type 0} (v : Verdict B) (f : B → Verdict A) → ((b : B) → v ≡ passed b → Holds P (f b)) → Holds P (v >>= f)
  unfolding ◌>>=◌
  holds_each (passed b) f k = k b refl
  holds_each (refused number place) f k = tt

-- ---- what a rule keeps
abbrev pub Keeps : (State → Type 0) → Rule → Type 0
Keeps P r = (st : State) → P st → Holds P (r st)

module _ (P : State → Type 0) where
  pub sequence_keeps : (rules : List Rule) → All (Keeps P) rules → Keeps P (in_sequence rules)
  unfolding in_sequence
  sequence_keeps [] k st h = h
  sequence_keeps (r ∷ rules) k st h = holds_after P P (r st) (in_sequence rules) (k.0 st h) (sequence_keeps rules k.1)

  -- a rule that only may refuse
  pub rule_keeps : (i : ℕ) (p : Bytes) (number : ℕ) (given_when : State → Bool) → Keeps P (rule i p number given_when)
  unfolding rule
  rule_keeps i p number given_when st h = holds_then P _ _ (λ _ _. h)

-- the rest is left out for a repeated packet
pub holds_unless : (P : State → Type 0) (p : Bytes) (rest : Rule) (st : State) → P st → Holds P (rest st) → Holds P
    (unless_repeat p rest st)
unfolding unless_repeat
holds_unless P p rest st h k = holds_pick P _ _ _ h k

pub repeat_keeps : (P : State → Type 0) (p : Bytes) (rest : Rule) → Keeps P rest → Keeps P (unless_repeat p rest)
repeat_keeps P p rest k st h = holds_unless P p rest st h (k st h)

-- a rule on the tables keeps what holds of the units, and one on the units what holds of the tables
pub units_kept : (Q : Extraction → Type 0) (f : Tables → Verdict Tables) → Keeps (λ st. Q st.extraction) (on_tables f)
unfolding on_tables
units_kept Q f st h = holds_each (λ (st : State). Q st.extraction) _ _ (λ _ _. h)

pub tables_kept : (Q : Tables → Type 0) (f : Extraction → Verdict Extraction) → Keeps (λ st. Q st.tables) (on_units f)
unfolding on_units
tables_kept Q f st h = holds_each (λ (st : State). Q st.tables) _ _ (λ _ _. h)

-- a rule on the tables keeps what its step keeps
pub tables_step : (Q : Tables → Type 0) (f : Tables → Verdict Tables) → ((t : Tables) → Q t → Holds Q (f t))
    → Keeps (λ st. Q st.tables) (on_tables f)
unfolding on_tables
tables_step Q f k st h = holds_after (λ (st : State). Q st.tables) Q _ _ (k st.tables h) (λ _ q. q)
