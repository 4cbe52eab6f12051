-- Two kinds that are found to be the same, and the numbers that no kind has. Assumes nothing.
use Prim.Native.Nat.{ℕ, ◌≤◌, ◌<◌}
use mathlib.Core.Bool.{Bool, true, false, true≢false}
use mathlib.Core.Path.{◌≡◌, sym, ◌∙◌}
use mathlib.Core.Logic.{◌⊎◌, inl, inr}
use mathlib.Core.List.{[], ◌∷◌}
use native.Mathlib.Omega.{arith}
use borrow.Author.Tests.{ne_eqb}
use lib.Dec.{eqb}
use Rattle.lists.specs.Lists.{any}
use Rattle.lists.proofs.Tests.{case}
use Rattle.obu.specs.Order.{Kind, Kind-discrete, is, kind_of_number}

-- two kinds that the test finds equal are equal
same_by : (a b : Kind) (d : Dec (a ≡ b)) → (elim d as (λ x. Bool) [ yes e ↦ true | no e ↦ false ]) ≡ true → a ≡ b
same_by a b (yes e) h = e
same_by a b (no e) h = absurd (true≢false (sym h))

pub same_kind : (a b : Kind) → is a b ≡ true → a ≡ b
same_kind a b h = same_by a b (Kind-discrete a b) h

pub one_of_two : (k a b : Kind) → any (is k) (a ∷ b ∷ []) ≡ true → (k ≡ a) ⊎ (k ≡ b)
unfolding any
one_of_two k a b h =
    case (is k a)
    (λ e. inl (same_kind k a e))
    (λ e. case (is k b)
    (λ f. inr (same_kind k b f))
    (λ f. absurd (true≢false (sym h ∙ rw (e, f)))))

-- a number above those of the kinds is reserved, as 0 is
pub above_kinds : (n : ℕ) → 16 < n → kind_of_number n ≡ kind_of_number 0
unfolding kind_of_number
above_kinds n h =
    let no : (m : ℕ) → m ≤ 16 → eqb n m ≡ false = λ m l. ne_eqb n m (λ e. omega arith) in
    rw (no 1 (omega arith), no 2 (omega arith), no 3 (omega arith), no 4 (omega arith), no 5 (omega arith))
    (rw (no 6 (omega arith), no 7 (omega arith), no 8 (omega arith), no 15 (omega arith), no 16 (omega arith)))
