-- A number's decimal digits are those that the kit's `io::decimal` gives, and a number of 64 bits has at most 20. Assumes nothing.
use Prim.Native.Nat.{ℕ, zero, suc, ◌+◌, ◌-◌, ◌^◌, ◌≤◌, ◌<◌}
use mathlib.Core.Path.{◌≡◌, refl, ap, subst}
use native.Mathlib.Omega.{arith}
use native.Mathlib.Nat.{le_antisymm, le_trans, pow-succ', pow-le-pow_right}
use borrow.Author.Tests.{ltb-true, ltb-false}
use lib.Dec.{ltb, lit<}
use Rattle.lists.proofs.Tests.{case}
use Rattle.io.specs.Digits.{last_digits, IsDigitCount}
use Rattle.listing.specs.Text.{places_from, places, decimal}

sub_one_suc : (k : ℕ) → suc k - 1 ≡ k
sub_one_suc k = omega arith

-- `places` gives the fewest digits
places_from_lem : (turns k m n : ℕ) → m ≡ k + turns → 1 ≤ k → (1 < k → 10 ^ (k - 1) ≤ n) → n < 10 ^ m → IsDigitCount 10 1 n
    (places_from turns k n)
unfolding places_from
places_from_lem zero k m n e one least holds = (one, subst (λ (j : ℕ). n < 10 ^ j) (let f : m ≡ k = omega arith in f) holds, least)
places_from_lem (suc turns) k m n e one least holds =
    case (ltb n (10 ^ k)) (λ t. rw (t, places_from) (one, ltb-true n (10 ^ k) t, least))
    (λ t. rw (t, places_from) (places_from_lem turns (suc k) m n (omega arith) (omega arith)
    (λ _. rw (sub_one_suc k) (ltb-false n (10 ^ k) t)) holds))

below_power : (n : ℕ) → n < 10 ^ n
below_power zero = omega arith
below_power (suc n) = rw (pow-succ' 10 n) (let h = below_power n in omega arith)

pub places_fewest : (n : ℕ) → IsDigitCount 10 1 n (places n)
places_fewest n = places_from_lem n 1 (1 + n) n refl (omega arith) (λ h. absurd (omega arith))
    (le_trans (below_power n) (pow-le-pow_right (lit< tt) (omega arith)))

-- no more digits than some that hold the number
fewest_le : (n k m : ℕ) → IsDigitCount 10 1 n k → 1 ≤ m → n < 10 ^ m → k ≤ m
fewest_le n k m f one holds =
    case (ltb m k)
    (λ t.
    let h = ltb-true m k t in
    let p : 10 ^ m ≤ 10 ^ (k - 1) = pow-le-pow_right (lit< tt) (omega arith) in
    let q = f.2 (omega arith) in
    absurd (omega arith))
    (λ t. ltb-false m k t)

pub fewest_is : (n k : ℕ) → IsDigitCount 10 1 n k → k ≡ places n
fewest_is n k f =
    let g = places_fewest n in
    le_antisymm (fewest_le n k (places n) f g.0 g.1) (fewest_le n (places n) k g f.0 f.1)

pub decimal_is : (n k : ℕ) → IsDigitCount 10 1 n k → last_digits 10 k n ≡ decimal n
unfolding decimal
decimal_is n k f = ap (λ (j : ℕ). last_digits 10 j n) (fewest_is n k f)
