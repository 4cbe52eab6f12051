-- Laws of the exclusive or that `lib.Bits` leaves out. Assumes nothing.
use Prim.Native.Nat.{ℕ, zero, suc, ◌+◌, ◌*◌, ◌/◌, ◌%◌, ◌^◌, ◌<◌}
use mathlib.Core.Bool.{Bool, true}
use mathlib.Core.Path.{◌≡◌, refl, sym, ap, ap₂, ◌∙◌}
use native.Mathlib.Nat.{add-zero}
use native.Mathlib.Omega.{arith}
use borrow.Author.Tests.{eqb-true}
use lib.Arith.{bin_ind}
use lib.Bits.{bit_xor, differ, xor_step, xor_shr, xor_block, xor_comm}
use lib.Dec.{eqb}
use lib.Pow.{pow_pos}
use Rattle.lists.proofs.Tables.{all_below, below}

-- an equation of four bits that antt computes at all of them holds of each
module _ (f g : ℕ → ℕ → ℕ → ℕ → ℕ) where
  abbrev at1 : ℕ → ℕ → ℕ → ℕ → Bool
  at1 x y z w = eqb (f x y z w) (g x y z w)

  abbrev at2 : ℕ → ℕ → ℕ → Bool
  at2 x y z = all_below (at1 x y z) 2

  abbrev at3 : ℕ → ℕ → Bool
  at3 x y = all_below (at2 x y) 2

  abbrev at4 : ℕ → Bool
  at4 x = all_below (at3 x) 2

  pub at_bits : all_below at4 2 ≡ true → (x y z w : ℕ) → x < 2 → y < 2 → z < 2 → w < 2 → f x y z w ≡ g x y z w
  at_bits e x y z w hx hy hz hw =
      eqb-true (f x y z w) (g x y z w) (below (at1 x y z) 2 (below (at2 x y) 2 (below (at3 x) 2 (below at4 2 e x hx) y hy) z hz) w hw)

-- ---- of two bits
pub differ_zero : (x : ℕ) → differ x 0 ≡ x
differ_zero zero = refl
differ_zero (suc x) = refl

pub differ_self : (x : ℕ) → differ x x ≡ 0
differ_self zero = refl
differ_self (suc x) = differ_self x

differ_assoc : (x y z : ℕ) → x < 2 → y < 2 → z < 2 → differ (differ x y) z ≡ differ x (differ y z)
unfolding all_below
differ_assoc x y z hx hy hz =
    at_bits (λ x y z w. differ (differ x y) z) (λ x y z w. differ x (differ y z)) refl x y z 0 hx hy hz (omega arith)

differ_bit : (x y : ℕ) → x < 2 → y < 2 → differ x y % 2 ≡ differ x y
unfolding all_below
differ_bit x y hx hy = at_bits (λ x y z w. differ x y % 2) (λ x y z w. differ x y) refl x y 0 0 hx hy (omega arith) (omega arith)

-- ---- of two numbers
xor_half : (a b : ℕ) → bit_xor a b / 2 ≡ bit_xor (a / 2) (b / 2)
xor_half a b = xor_shr a b 1

xor_odd : (a b : ℕ) → bit_xor a b % 2 ≡ differ (a % 2) (b % 2)
xor_odd a b =
    let bit = differ_bit (a % 2) (b % 2) (omega arith) (omega arith) in
    ap (λ (n : ℕ). n % 2) (xor_step a b) ∙ omega arith

pub xor_assoc : (a b c : ℕ) → bit_xor (bit_xor a b) c ≡ bit_xor a (bit_xor b c)
xor_assoc =
    bin_ind (λ (n : ℕ). (b c : ℕ) → bit_xor (bit_xor n b) c ≡ bit_xor n (bit_xor b c))
    (λ b c. refl)
    (λ n ih b c.
    xor_step (bit_xor n b) c
    ∙ ap₂ (λ (x y : ℕ). x * 2 + y)
    (ap (λ (x : ℕ). bit_xor x (c / 2)) (xor_half n b) ∙ ih (b / 2) (c / 2) ∙ ap (bit_xor (n / 2)) (sym (xor_half b c)))
    (ap (λ (x : ℕ). differ x (c % 2)) (xor_odd n b)
    ∙ differ_assoc (n % 2) (b % 2) (c % 2) (omega arith) (omega arith) (omega arith)
    ∙ ap (differ (n % 2)) (sym (xor_odd b c)))
    ∙ sym (xor_step n (bit_xor b c)))

-- two sums, their middle terms exchanged
pub xor_swap : (a b c d : ℕ) → bit_xor (bit_xor a b) (bit_xor c d) ≡ bit_xor (bit_xor a c) (bit_xor b d)
xor_swap a b c d =
    xor_assoc a b (bit_xor c d)
    ∙ ap (bit_xor a) (sym (xor_assoc b c d) ∙ ap (λ (x : ℕ). bit_xor x d) (xor_comm b c) ∙ xor_assoc c b d)
    ∙ sym (xor_assoc a c (bit_xor b d))

-- both shifted up by k places
pub xor_up : (k a b : ℕ) → bit_xor a b * 2 ^ k ≡ bit_xor (a * 2 ^ k) (b * 2 ^ k)
xor_up k a b =
    let e : bit_xor (a * 2 ^ k + 0) (b * 2 ^ k + 0) ≡ bit_xor a b * 2 ^ k + 0 = xor_block k a b 0 0 (pow_pos k) (pow_pos k) in
    sym (add-zero (bit_xor a b * 2 ^ k)) ∙ sym e ∙ ap₂ bit_xor (add-zero (a * 2 ^ k)) (add-zero (b * 2 ^ k))
