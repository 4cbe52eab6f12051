-- What holds of the number of a verdict, if it refuses, step by step. Assumes nothing.
use Prim.Native.Nat.{ℕ, suc}
use mathlib.Core.Bool.{Bool, true, false}
use mathlib.Core.Path.{◌≡◌, refl}
use mathlib.Core.List.{List, [], ◌∷◌}
use Rattle.lists.specs.Lists.{pick}
use Rattle.refusal.specs.Verdict.{Verdict, NoValue, passed, refused, ◌>>=◌, ◌>>◌, given, at_place, in_turn}

abbrev pub Refuses : {A : Type 0} → (ℕ → Type 0) → Verdict A → Type 0
Refuses P (passed a) = Unit {0}
Refuses P (refused number place) = P number

module _ (P : ℕ → Type 0) where
  pub refuses_given : (number : ℕ) (b : Bool) → P number → Refuses P (given number b)
  unfolding given pick
  refuses_given number true h = h
  refuses_given number false h = tt

  module _ {A : Type 0} where
    pub refuses_at : (place : ℕ) (v : Verdict A) → Refuses P v → Refuses P (at_place place v)
    unfolding at_place
    refuses_at place (passed a) h = tt
    refuses_at place (refused number _) h = h

    pub refuses_pick : (b : Bool) (v w : Verdict A) → Refuses P v → Refuses P w → Refuses P (pick b v w)
    unfolding pick
    refuses_pick true v w h k = h
    refuses_pick false v w h k = k

    -- two steps, the second from what the first gave
    pub refuses_then : {B : Type 0} (v : Verdict B) (w : Verdict A) → Refuses P v → ((b : B) → v ≡ passed b → Refuses P w)
        → Refuses P (v >> w)
    unfolding ◌>>◌
    refuses_then (passed b) w h k = k b refl
    refuses_then (refused number place) w h k = h

    pub refuses_bind : {B : Type 0} (v : Verdict B) (f : B → Verdict A) → Refuses P v → ((b : B) → v ≡ passed b → Refuses P (f b))
        → Refuses P (v >>= f)
    unfolding ◌>>=◌
    refuses_bind (passed b) f h k = k b refl
    refuses_bind (refused number place) f h k = h

  pub refuses_turn : {A : Type 0} (judge : A → Verdict NoValue) (index : ℕ) (l : List A) → ((a : A) → Refuses P (judge a))
      → Refuses P (in_turn judge index l)
  unfolding in_turn
  refuses_turn judge index [] h = tt
  refuses_turn judge index (a ∷ l) h = refuses_then _ _ (refuses_at index (judge a) (h a)) (λ _ _. refuses_turn judge (suc index) l h)
