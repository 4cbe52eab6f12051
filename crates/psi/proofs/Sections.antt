-- A section in its payload: one that was found is what `section_of` returns. Assumes nothing.
use Rattle.std.specs.Prelude.{Option, Some, None}
use Prim.Native.Nat.{ℕ, ◌+◌, ◌≤◌}
use mathlib.Core.Bool.{Bool, true, false, not, ◌||◌}
use mathlib.Core.Path.{◌≡◌, sym, ap, ◌∙◌}
use native.Mathlib.Omega.{arith}
use borrow.Author.Tests.{ltb-false}
use lib.Dec.{eqb, ltb}
use lib.ListN.{length, take, drop, length-drop}
use lib.Seq.{length-take-le}
use Rattle.lists.specs.Lists.{Bytes, pick}
use Rattle.lists.specs.Bytes.{byte}
use Rattle.lists.proofs.Tests.{case, or_neither}
use Rattle.psi.specs.Section.{behind_pointer, section_size, misplaced, section_of, found_in}

-- ---- a section that was found
not_both : {P : Type 0} {n : ℕ} → None ≡ Some n → P
not_both e = let z : ◌≡◌ {A = ℕ} 0 1 = cc in absurd (omega arith)

one_size : {m n : ℕ} → Some m ≡ Some n → m ≡ n
one_size e = cc

-- it is not misplaced, it lies in the payload, and n bytes behind the pointer are it
pub record Lies (start : Bool) (payload : Bytes) (n : ℕ) : Type 0 where
  pub placed : misplaced start payload ≡ false
  pub within : 1 + n ≤ length payload
  pub part : take n (drop 1 payload) ≡ section_of payload
  pub long : length (section_of payload) ≡ n

module _ (start : Bool) (payload : Bytes) where
  fits : misplaced start payload ≡ false → section_size (behind_pointer payload) ≤ length (behind_pointer payload)
  unfolding misplaced
  fits e =
      let size = ltb (length (behind_pointer payload)) (section_size (behind_pointer payload)) in
      let head = not start || not (eqb (byte payload 0) 0) in
      ltb-false (length (behind_pointer payload)) (section_size (behind_pointer payload))
      (or_neither head size (or_neither (head || size) _ e).0).1

  -- what was found, by the value of the test
  at : (f : Option ℕ) → found_in start payload ≡ f → (t : Bool) → misplaced start payload ≡ t
      → pick t None (Some (section_size (behind_pointer payload))) ≡ f
  unfolding found_in
  at f e t m = ap (λ (x : Bool). pick x None (Some (section_size (behind_pointer payload)))) (sym m) ∙ e

  pub found_lies : (n : ℕ) → found_in start payload ≡ Some n → Lies start payload n
  unfolding pick
  found_lies n e =
      case (misplaced start payload)
      (λ m. not_both (at (Some n) e true m))
      (λ m.
      let size = one_size (at (Some n) e false m) in
      let room = fits m in
      record {
        placed = m;
        within = omega (arith, room, size, length-drop 1 payload);
        part = ap (λ (k : ℕ). take k (drop 1 payload)) (sym size);
        long = length-take-le (section_size (behind_pointer payload)) (behind_pointer payload) room ∙ size;
      })

  -- and one that was not
  pub found_misplaced : found_in start payload ≡ None → misplaced start payload ≡ true
  unfolding pick
  found_misplaced e = case (misplaced start payload) (λ m. m) (λ m. not_both (sym (at None e false m)))
