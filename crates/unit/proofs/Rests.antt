-- OBUs that stand back to back, with their lengths, taken one by one: those that are left where some are done. Assumes nothing.
use Prim.Native.Nat.{ℕ, ◌+◌, ◌-◌, ◌≤◌, ◌<◌}
use mathlib.Core.Path.{◌≡◌, sym, ap, ◌∙◌}
use mathlib.Core.List.{List, [], ◌∷◌}
use native.Mathlib.Omega.{arith}
use borrow.Author.Tests.{eq-eqb, ne_eqb, eqb-true, eqb-false}
use lib.Dec.{eqb}
use lib.ListN.{length, take, drop, get_or, length-drop, drop_of_length-le}
use lib.Seq.{drop-drop, length-take-le}
use Rattle.lists.specs.Lists.{Bytes}
use Rattle.lists.proofs.Parts.{next}
use Rattle.lists.proofs.Tests.{case}
use Rattle.unit.specs.Unit.{sum, obus_of}

-- the OBUs that are left where i of them, of `at` bytes, are done
abbrev pub left : List ℕ → Bytes → ℕ → ℕ → List Bytes
left lens bytes i at = obus_of (drop i lens) (drop at bytes)

-- the next of them
abbrev pub next_obu : List ℕ → Bytes → ℕ → ℕ → Bytes
next_obu lens bytes i at = take (get_or lens i 0) (drop at bytes)

-- the same as a part of the bytes that is lent to a call
abbrev pub lent_obu : List ℕ → Bytes → ℕ → ℕ → Bytes
lent_obu lens bytes i at = take (at + get_or lens i 0 - at) (drop at bytes)

-- i OBUs have `at` bytes, and those that are left have all the others
abbrev pub At : List ℕ → Bytes → ℕ → ℕ → Type 0
At lens bytes i at = (i ≤ length lens) × (at + sum (drop i lens) ≡ length bytes)

-- ---- the lengths
pub sum_next : (lens : List ℕ) (i : ℕ) → i < length lens → sum (drop i lens) ≡ get_or lens i 0 + sum (drop (i + 1) lens)
unfolding sum
sum_next lens i h = rw (next lens i h)

pub sum_end : (lens : List ℕ) (i : ℕ) → length lens ≤ i → sum (drop i lens) ≡ 0
unfolding sum
sum_end lens i h = rw (drop_of_length-le lens h)

-- what a sum leaves of n is nothing exactly where the sum is n
pub sum_is : (total n rest : ℕ) → total + rest ≡ n → eqb rest 0 ≡ eqb total n
sum_is total n rest e =
    case (eqb rest 0)
    (λ t. t ∙ sym (eq-eqb total n (omega (arith, eqb-true rest 0 t))))
    (λ t. t ∙ sym (ne_eqb total n (λ h. eqb-false rest 0 t (omega arith))))

-- ---- the next OBU, and the end
module _ (lens : List ℕ) (bytes : Bytes) (i at : ℕ) where
  pub left_next : i < length lens → left lens bytes i at ≡ next_obu lens bytes i at ∷ left lens bytes (i + 1) (at + get_or lens i 0)
  unfolding obus_of
  left_next h =
      rw (next lens i h)
      (ap (λ (s : Bytes). next_obu lens bytes i at ∷ obus_of (drop (i + 1) lens) s) (drop-drop (get_or lens i 0) at bytes))

  pub left_end : length lens ≤ i → left lens bytes i at ≡ []
  unfolding obus_of
  left_end h = rw (drop_of_length-le lens h)

  pub lent_obu_lem : lent_obu lens bytes i at ≡ next_obu lens bytes i at
  lent_obu_lem = let e : at + get_or lens i 0 - at ≡ get_or lens i 0 = omega arith in ap (λ (n : ℕ). take n (drop at bytes)) e

  pub at_next : At lens bytes i at → i < length lens → At lens bytes (i + 1) (at + get_or lens i 0)
  at_next a h = omega (arith, sum_next lens i h)

  -- the next one ends within the bytes
  pub at_within : At lens bytes i at → i < length lens → at + get_or lens i 0 ≤ length bytes
  at_within a h = omega (arith, sum_next lens i h)

  pub next_long : At lens bytes i at → i < length lens → length (next_obu lens bytes i at) ≡ get_or lens i 0
  next_long a h = length-take-le (get_or lens i 0) (drop at bytes) (omega (arith, at_within a h, length-drop at bytes))
