-- A replay's state as a C struct: a state that was handed back is, handed in, the same state, and a struct that is right is
-- handed back as it was. So what is proved of two runs holds of two calls. Assumes nothing.
use Rattle.ticks.specs.declared.Ticks27.{Ticks27}
use Rattle.std.specs.Prelude.{Option, Some, None}
use Prim.Native.Nat.{ℕ}
use mathlib.Core.Bool.{true}
use mathlib.Core.Path.{◌≡◌, refl, sym, subst}
use borrow.Author.Tests.{eqb-true}
use lib.Dec.{eqb}
use Rattle.lists.specs.Lists.{pick}
use Rattle.lists.proofs.Tests.{case, and_both}
use Rattle.replay.specs.declared.state.State.{State}
use Rattle.answers.specs.declared.replaying.ReplayState.{ReplayState}
use Rattle.answers.specs.Replaying.{pair_right, state_right, last_from, above_from, state_from, has_last, last_time}
use Rattle.answers.specs.Replaying.{has_above, above_index, state_answer}

-- ---- out and in again
last_again : (l : Option Ticks27) → last_from (has_last l) (last_time l) ≡ l
unfolding last_from pick
last_again None = refl
last_again (Some t) = refl

above_again : (a : Option ℕ) → above_from (has_above a) (above_index a) ≡ a
unfolding above_from pick
above_again None = refl
above_again (Some i) = refl

last_right : (l : Option Ticks27) → pair_right (has_last l) (last_time l) ≡ true
unfolding pair_right
last_right None = refl
last_right (Some t) = refl

above_right : (a : Option ℕ) → pair_right (has_above a) (above_index a) ≡ true
unfolding pair_right
above_right None = refl
above_right (Some i) = refl

pub state_again : (s : State) → (state_right (state_answer s) ≡ true) × (state_from (state_answer s) ≡ s)
unfolding state_right
state_again s =
    (rw (last_right s.last) (above_right s.above), rw (last_again s.last, above_again s.above))

-- ---- in and out again
-- a pair that is right has 1, or 0 and 0
right_pair : (P : ℕ → ℕ → Type 0) (has value : ℕ) → pair_right has value ≡ true → ((v : ℕ) → P 1 v) → P 0 0 → P has value
unfolding pair_right
right_pair P has value e f g =
    case (eqb has 1) (λ t. subst (λ (h : ℕ). P h value) (sym (eqb-true has 1 t)) (f value))
    (λ t.
    let zeros = and_both (eqb has 0) (eqb value 0) (rw t at e) in
    subst (λ (h : ℕ). P h value) (sym (eqb-true has 0 zeros.0))
    (subst (λ (v : ℕ). P 0 v) (sym (eqb-true value 0 zeros.1)) g))

last_same : (has time : ℕ) → pair_right has time ≡ true → (has_last (last_from has time) ≡ has) × (last_time (last_from has time) ≡ time)
unfolding last_from pick
last_same has time e =
    right_pair (λ h t. (has_last (last_from h t) ≡ h) × (last_time (last_from h t) ≡ t)) has time e (λ t. (refl, refl)) (refl, refl)

above_same : (has index : ℕ) → pair_right has index ≡ true
    → (has_above (above_from has index) ≡ has) × (above_index (above_from has index) ≡ index)
unfolding above_from pick
above_same has index e =
    right_pair (λ h i. (has_above (above_from h i) ≡ h) × (above_index (above_from h i) ≡ i)) has index e (λ i. (refl, refl)) (refl, refl)

pub state_back : (c : ReplayState) → state_right c ≡ true → state_answer (state_from c) ≡ c
unfolding state_right
state_back c e =
    let right = and_both (pair_right c.has_last c.last) (pair_right c.has_above c.above) e in
    let l = last_same c.has_last c.last right.0 in
    let a = above_same c.has_above c.above right.1 in
    rw (l.0, l.1, a.0, a.1)
