-- Of a verdict that refused: which of several tries did, and which of several elements in turn. Assumes nothing.
use Prim.Native.Nat.{ℕ, suc, ◌+◌}
use mathlib.Core.Path.{◌≡◌, refl, sym, ap, ap₂, ◌∙◌}
use mathlib.Core.List.{List, [], ◌∷◌, ◌++◌}
use native.Mathlib.Omega.{arith}
use lib.ListN.{length}
use Rattle.refusal.specs.Verdict.{Verdict, passed, refused, ◌>>=◌, ◌>>◌, NoValue, at_place, in_turn}
use Rattle.refusal.proofs.Verdicts.{All, never}
use Rattle.refusal.proofs.Refusing.{Refuses}

-- one refusal has one number and one place
pub same_number : {A : Type 0} {m n i j : ℕ} → ◌≡◌ {A = Verdict A} (refused m i) (refused n j) → m ≡ n
same_number e = cc

pub same_place : {A : Type 0} {m n i j : ℕ} → ◌≡◌ {A = Verdict A} (refused m i) (refused n j) → i ≡ j
same_place e = cc

-- ---- of two tries
-- it is refused, if at all, with another number
abbrev pub Without : {A : Type 0} → ℕ → Verdict A → Type 0
Without number v = Refuses (λ n. n ≡ number → ⊥) v

pub not_so : {A P : Type 0} (number place : ℕ) (v : Verdict A) → Without number v → v ≡ refused number place → P
not_so number place (passed a) h e = never (sym e)
not_so number place (refused m i) h e = absurd (h (same_number e))

module _ {B : Type 0} (number place : ℕ) where
  -- the first does not refuse so: it passed, and the second refused
  pub refused_later : (v : Verdict NoValue) (w : Verdict B) → Without number v → (v >> w) ≡ refused number place
      → (v ≡ passed tt) × (w ≡ refused number place)
  unfolding ◌>>◌
  refused_later (passed a) w h e = (refl, e)
  refused_later (refused m i) w h e = absurd (h (same_number e))

  -- the second does not refuse so: the first refused
  pub refused_here : (v : Verdict NoValue) (w : Verdict B) → Without number w → (v >> w) ≡ refused number place → v ≡ refused number place
  unfolding ◌>>◌
  refused_here (passed a) w h e = not_so number place w h e
  refused_here (refused m i) w h e = ap₂ refused (same_number e) (same_place e)

  pub bind_refused : {A : Type 0} (v : Verdict A) (f : A → Verdict B) → ((a : A) → Without number (f a)) → (v >>= f) ≡ refused number place
      → v ≡ refused number place
  unfolding ◌>>=◌
  bind_refused (passed a) f h e = not_so number place (f a) (h a) e
  bind_refused (refused m i) f h e = ap₂ refused (same_number e) (same_place e)

-- ---- for each in turn: those before passed, and this one refused
pub record TurnRefused {A : Type 0} (judge : A → Verdict NoValue) (index : ℕ) (l : List A) (number place : ℕ) : Type 0 where
  pub front : List A
  pub one : A
  pub back : List A
  pub whole : l ≡ front ++ (one ∷ back)
  pub before : All (λ a. judge a ≡ passed tt) front
  pub refusal : (inner : ℕ) × (judge one ≡ refused number inner)
  pub at : place ≡ index + length front

module _ {A : Type 0} (judge : A → Verdict NoValue) where
  pub turns_refused : (index : ℕ) (l : List A) (number place : ℕ) → in_turn judge index l ≡ refused number place
      → TurnRefused judge index l number place
  unfolding in_turn at_place ◌>>◌
  turns_refused index [] number place e = never (sym e)
  turns_refused index (a ∷ l) number place e = by (judge a) refl (turns_refused (suc index) l number place) e
    where
      by : (v : Verdict NoValue) → judge a ≡ v
          → (in_turn judge (suc index) l ≡ refused number place → TurnRefused judge (suc index) l number place)
          → (at_place index v >> in_turn judge (suc index) l) ≡ refused number place → TurnRefused judge index (a ∷ l) number place
      by (passed tt) k later h =
          let r = later h in
          record {
            front = a ∷ r.front;
            one = r.one;
            back = r.back;
            whole = ap (λ (x : List A). a ∷ x) r.whole;
            before = (k, r.before);
            refusal = r.refusal;
            at = omega (arith, r.at);
          }
      by (refused m i) k later h =
          record {
            front = [];
            one = a;
            back = l;
            whole = refl;
            before = tt;
            refusal = (i, k ∙ ap (λ (n : ℕ). refused n i) (same_number h));
            at = omega (arith, same_place h);
          }
