-- The rounding of the writer: no half can arise, the number is the nearest, and only 50,000 is written as another; where 49
-- begins. Each is linear arithmetic with a division by a numeral. Assumes nothing.
use Prim.Native.Nat.{ℕ, ◌≤◌, ◌<◌}
use mathlib.Core.Path.{◌≡◌, refl, sym, ◌∙◌}
use native.Mathlib.Omega.{arith}
use lib.Dec.{ltb}
use borrow.Author.Tests.{ltb-true, ltb-false, lt-ltb, le-ltb}
use Rattle.lists.proofs.Tests.{case}
use Rattle.mastering.specs.Steps.{chromaticity_steps, luminance_steps, nearest_chromaticity, chromaticity_number}
use Rattle.mastering.specs.Steps.{maximum_number, minimum_number, greatest}
use Rattle.mastering.specs.Exact.{Rounds, PastFrom}

-- ---- "rounds to the content's nearest whole number (no half can arise)"
pub chromaticity_rounds : Rounds chromaticity_steps 65536 nearest_chromaticity
chromaticity_rounds n = (λ w e. omega arith, λ w d. omega arith)

pub maximum_rounds : Rounds luminance_steps 256 maximum_number
maximum_rounds n = (λ w e. omega arith, λ w d. omega arith)

pub minimum_rounds : Rounds luminance_steps 16384 minimum_number
minimum_rounds n = (λ w e. omega arith, λ w d. omega arith)

-- ---- "50,000 would become 65,536 and is written as 65,535"; each one below is written as its nearest number
pub fifty_thousand : (nearest_chromaticity 50000 ≡ 65536) × (chromaticity_number 50000 ≡ 65535)
fifty_thousand = (refl, refl)

pub below_fifty_thousand : (n : ℕ) → n < 50000 → chromaticity_number n ≡ nearest_chromaticity n
below_fifty_thousand n h = omega arith

pub chromaticity_within : (n : ℕ) → chromaticity_number n < 65536
chromaticity_within n = omega arith

-- ---- where 49 begins: the greatest luminances that round to 32 bits
past_from : (number : ℕ → ℕ) (most : ℕ) → ((n : ℕ) → most < n → greatest < number n) → ((n : ℕ) → n ≤ most → number n ≤ greatest)
    → PastFrom number most
past_from number most above within n =
    case (ltb most n) (λ t. t ∙ sym (lt-ltb greatest (number n) (above n (ltb-true most n t))))
    (λ t. t ∙ sym (le-ltb greatest (number n) (within n (ltb-false most n t))))

pub maximum_past : PastFrom maximum_number 167772159980
maximum_past = past_from maximum_number 167772159980 (λ n h. omega arith) (λ n h. omega arith)

pub minimum_past : PastFrom minimum_number 2621439999
minimum_past = past_from minimum_number 2621439999 (λ n h. omega arith) (λ n h. omega arith)
