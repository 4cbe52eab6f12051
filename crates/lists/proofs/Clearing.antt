-- A loop that clears an output from the front: the first i elements are 0, the others as they were. Assumes nothing.
use Prim.Native.Nat.{ℕ, ◌+◌, ◌≤◌, ◌<◌}
use mathlib.Core.Path.{◌≡◌, refl, ap, ◌∙◌}
use mathlib.Core.List.{List, ◌++◌, append-nil}
use native.Mathlib.Nat.{le_antisymm}
use native.Mathlib.Omega.{arith}
use lib.ListN.{length, set, drop, replicate, length-set}
use lib.Seq.{drop-length}
use borrow.Author.Fill.{fill_more}
use Rattle.lists.specs.Lists.{zeros}

pub record Cleared (out₀ : List ℕ) (i : ℕ) (out : List ℕ) : Type 0 where
  pub within : i ≤ length out₀
  pub front : out ≡ replicate i 0 ++ drop i out₀
  pub long : length out ≡ length out₀

pub cleared_none : (out₀ : List ℕ) → Cleared out₀ 0 out₀
cleared_none out₀ = record { within = omega arith; front = refl; long = refl }

pub cleared_more : {out₀ out : List ℕ} {i : ℕ} → Cleared out₀ i out → i < length out → Cleared out₀ (i + 1) (set out i 0)
cleared_more {out₀} {out} {i} h r =
    record {
      within = omega (arith, h.long);
      front = ap (λ (l : List ℕ). set l i 0) h.front ∙ fill_more i 0 out₀ (omega (arith, h.long));
      long = length-set out i 0 ∙ h.long;
    }

pub cleared_all : {out₀ out : List ℕ} {i : ℕ} → Cleared out₀ i out → length out ≤ i → out ≡ zeros out₀
cleared_all {out₀} {out} {i} h r =
    let n : i ≡ length out₀ = le_antisymm h.within (omega (arith, h.long)) in
    h.front ∙ ap (λ (k : ℕ). replicate k 0 ++ drop k out₀) n
    ∙ ap (λ (l : List ℕ). replicate (length out₀) 0 ++ l) (drop-length out₀)
    ∙ append-nil (replicate (length out₀) 0)
