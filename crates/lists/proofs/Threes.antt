-- Tests that ask for three bytes at the head of a string (`AsksThree`): such a test near the end, where it holds, and at a place, by the
-- three bytes there. Assumes nothing.
use Prim.Native.Nat.{ℕ, ◌+◌, ◌-◌, ◌≤◌, ◌<◌}
use mathlib.Core.Bool.{Bool, true, false}
use mathlib.Core.Path.{◌≡◌, ap, ◌∙◌}
use mathlib.Core.List.{[], ◌∷◌}
use native.Mathlib.Omega.{arith}
use lib.ListN.{length, drop, get_or, length-drop}
use Rattle.lists.specs.Lists.{Bytes}
use Rattle.lists.proofs.Tests.{clash}
use Rattle.lists.proofs.Parts.{next3}

pub record AsksThree (test : Bytes → Bool) : Type 0 where
  pub none : test [] ≡ false
  pub one : (a : ℕ) → test (a ∷ []) ≡ false
  pub two : (a b : ℕ) → test (a ∷ b ∷ []) ≡ false

pub three_short : {test : Bytes → Bool} → AsksThree test → (l : Bytes) → length l < 3 → test l ≡ false
three_short t [] h = t.none
three_short t (a ∷ []) h = t.one a
three_short t (a ∷ b ∷ []) h = t.two a b
three_short t (a ∷ b ∷ c ∷ s) h = absurd (omega arith)

-- what holds wherever three bytes are there, holds where the test does
pub by_three : {test : Bytes → Bool} → AsksThree test → (P : Bytes → Type 0)
    → ((a b c : ℕ) (s : Bytes) → test (a ∷ b ∷ c ∷ s) ≡ true → P (a ∷ b ∷ c ∷ s)) → (l : Bytes) → test l ≡ true → P l
by_three t P f [] e = clash e t.none
by_three t P f (a ∷ []) e = clash e (t.one a)
by_three t P f (a ∷ b ∷ []) e = clash e (t.two a b)
by_three t P f (a ∷ b ∷ c ∷ s) e = f a b c s e

pub three_long : {test : Bytes → Bool} → AsksThree test → (l : Bytes) → test l ≡ true → 3 ≤ length l
three_long t = by_three t (λ l. 3 ≤ length l) (λ a b c s e. omega arith)

-- ---- at the code's place i
pub three_end : {test : Bytes → Bool} → AsksThree test → (s : Bytes) (i : ℕ) → length s - i < 3 → test (drop i s) ≡ false
three_end t s i h = three_short t (drop i s) (rw length-drop h)

pub three_fits : {test : Bytes → Bool} → AsksThree test → (s : Bytes) (i : ℕ) → i ≤ length s → test (drop i s) ≡ true → i + 3 ≤ length s
three_fits t s i h e = omega (arith, three_long t (drop i s) e, length-drop i s)

pub three_at : (test : Bytes → Bool) (of : ℕ → ℕ → ℕ → Bool) → ((a b c : ℕ) (s : Bytes) → test (a ∷ b ∷ c ∷ s) ≡ of a b c)
    → (s : Bytes) (i : ℕ) → i + 2 < length s → test (drop i s) ≡ of (get_or s i 0) (get_or s (i + 1) 0) (get_or s (i + 2) 0)
three_at test of e s i h = ap test (next3 s i h) ∙ e (get_or s i 0) (get_or s (i + 1) 0) (get_or s (i + 2) 0) (drop (i + 3) s)
