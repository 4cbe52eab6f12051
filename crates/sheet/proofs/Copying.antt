-- The loop that copies numbers of a sheet to the front of an output. Assumes nothing.
use Prim.Native.Nat.{ℕ, ◌+◌, ◌-◌, ◌≤◌, ◌<◌}
use mathlib.Core.Path.{◌≡◌, ap, subst, ◌∙◌}
use mathlib.Core.List.{List, ◌∷◌}
use native.Mathlib.Omega.{arith}
use lib.ListN.{length, set}
use Rattle.lists.specs.Lists.{Bytes, over}
use Rattle.lists.proofs.Writing.{Part, start, room, put, done}
use Rattle.sheet.specs.Reading.{number}
use Rattle.sheet.specs.Passing.{numbers_from}
use Rattle.sheet.proofs.RowByRow.{rows_next, rows_none, length_rows}

-- k of the numbers are copied
abbrev pub Copied : Bytes → ℕ → ℕ → List ℕ → List ℕ → ℕ → Type 0
Copied s i count out₀ out k = Part out₀ (numbers_from s count i) k (numbers_from s (count - k) (i + k)) out

module _ (s : Bytes) (i count : ℕ) (out₀ : List ℕ) where
  pub none_copied : Copied s i count out₀ out₀ 0
  none_copied =
      let m : count ≡ count - 0 = omega arith in
      let n : i ≡ i + 0 = omega arith in
      subst (λ (l : List ℕ). Part out₀ (numbers_from s count i) 0 l out₀)
      (ap (λ (x : ℕ). numbers_from s x i) m ∙ ap (λ (x : ℕ). numbers_from s (count - 0) x) n)
      (start out₀ (numbers_from s count i))

  module _ (out : List ℕ) (k : ℕ) (h : Copied s i count out₀ out k) where
    module _ (l : k < count) (fits : count ≤ length out₀) where
      opened : Part out₀ (numbers_from s count i) k (number s (i + k) ∷ numbers_from s (count - k - 1) (i + k + 1)) out
      opened =
          subst (λ (x : List ℕ). Part out₀ (numbers_from s count i) k x out) (rows_next (number s) 1 (count - k) (i + k) (omega arith)) h

      long : length (numbers_from s count i) ≤ length out₀
      long = omega (arith, length_rows (number s) 1 count i)

      pub has_room : k < length out
      has_room = room opened long

      pub one_copied : Copied s i count out₀ (set out k (number s (i + k))) (k + 1)
      one_copied =
          let m : count - k - 1 ≡ count - (k + 1) = omega arith in
          let n : i + k + 1 ≡ i + (k + 1) = omega arith in
          subst (λ (l : List ℕ). Part out₀ (numbers_from s count i) (k + 1) l (set out k (number s (i + k))))
          (ap (λ (x : ℕ). numbers_from s x (i + k + 1)) m ∙ ap (λ (x : ℕ). numbers_from s (count - (k + 1)) x) n)
          (put opened long)

    pub all_copied : count ≤ k → out ≡ over (numbers_from s count i) out₀
    all_copied l =
        done
        (subst (λ (x : List ℕ). Part out₀ (numbers_from s count i) k x out) (rows_none (number s) 1 (count - k) (i + k) (omega arith)) h)
