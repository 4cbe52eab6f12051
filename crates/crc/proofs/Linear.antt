-- The register's step is linear over the exclusive or. So a byte's eight steps are those of zero bits from what the byte makes of the
-- register's highest byte, which is a table's entry, and a shift of the others. Assumes nothing.
use Prim.Native.Nat.{ℕ, ◌*◌, ◌/◌, ◌%◌, ◌^◌, ◌<◌}
use mathlib.Core.Bool.{Bool, true, false}
use mathlib.Core.Path.{◌≡◌, refl, sym, ap, ap₂, ◌∙◌}
use mathlib.Core.List.{List, [], ◌∷◌}
use native.Mathlib.Omega.{arith}
use borrow.Author.Tests.{eq-eqb, eqb-true}
use lib.Bits.{bit_xor, differ, xor_shr, xor_mod, xor_lt, xor_zero_r, xor_shifted, xor_comm}
use lib.Dec.{eqb}
use lib.Pow.{split}
use Rattle.lists.specs.Lists.{pick}
use Rattle.lists.proofs.Tables.{all_below, below}
use Rattle.crc.specs.Crc.{polynomial, bit_step, bits_step, bits_of, byte_step}
use Rattle.crc.specs.Parts.{zero_bits, entry}
use Rattle.crc.proofs.Xor.{at_bits, differ_zero, differ_self, xor_swap, xor_up}

-- ---- one bit
-- what a step adds, where t falls out and b comes in
abbrev added : ℕ → ℕ → ℕ
added t b = pick (eqb t b) 0 polynomial

added_linear : (t u p q : ℕ) → t < 2 → u < 2 → p < 2 → q < 2 → added (bit_xor t u) (differ p q) ≡ bit_xor (added t p) (added u q)
unfolding all_below pick
added_linear = at_bits (λ t u p q. added (bit_xor t u) (differ p q)) (λ t u p q. bit_xor (added t p) (added u q)) refl

step_linear : (a b p q : ℕ) → a < 2 ^ 32 → b < 2 ^ 32 → p < 2 → q < 2
    → bit_step (bit_xor a b) (differ p q) ≡ bit_xor (bit_step a p) (bit_step b q)
unfolding bit_step
step_linear a b p q ha hb hp hq =
    ap₂ bit_xor
    (ap (λ (n : ℕ). n * 2) (xor_mod a b 31) ∙ xor_up 1 (a % 2 ^ 31) (b % 2 ^ 31))
    (ap (λ (n : ℕ). added n (differ p q)) (xor_shr a b 31)
    ∙ added_linear (a / 2 ^ 31) (b / 2 ^ 31) p q (omega arith) (omega arith) hp hq)
    ∙ xor_swap (a % 2 ^ 31 * 2) (b % 2 ^ 31 * 2) (added (a / 2 ^ 31) p) (added (b / 2 ^ 31) q)

added_lt : (t : Bool) → pick t 0 polynomial < 2 ^ 32
unfolding pick
added_lt true = omega arith
added_lt false = omega arith

-- the register keeps to 32 bits
pub step_lt : (r b : ℕ) → bit_step r b < 2 ^ 32
unfolding bit_step
step_lt r b = xor_lt 32 (r % 2 ^ 31 * 2) (added (r / 2 ^ 31) b) (omega arith) (added_lt (eqb (r / 2 ^ 31) b))

-- ---- some bits, by two lists of one length
abbrev Pairs : List ℕ → List ℕ → Type 0
Pairs [] [] = Unit {0}
Pairs [] (q ∷ qs) = ⊥
Pairs (p ∷ ps) [] = ⊥
Pairs (p ∷ ps) (q ∷ qs) = (p < 2) × ((q < 2) × Pairs ps qs)

abbrev mix : List ℕ → List ℕ → List ℕ
mix [] qs = []
mix (p ∷ ps) [] = []
mix (p ∷ ps) (q ∷ qs) = differ p q ∷ mix ps qs

steps_linear : (ps qs : List ℕ) → Pairs ps qs → (a b : ℕ) → a < 2 ^ 32 → b < 2 ^ 32
    → bits_step (bit_xor a b) (mix ps qs) ≡ bit_xor (bits_step a ps) (bits_step b qs)
unfolding bits_step
steps_linear [] [] h a b ha hb = refl
steps_linear [] (q ∷ qs) h a b ha hb = absurd h
steps_linear (p ∷ ps) [] h a b ha hb = absurd h
steps_linear (p ∷ ps) (q ∷ qs) h a b ha hb =
    ap (λ (r : ℕ). bits_step r (mix ps qs)) (step_linear a b p q ha hb h.0 h.1.0)
    ∙ steps_linear ps qs h.1.1 (bit_step a p) (bit_step b q) (step_lt a p) (step_lt b q)

abbrev zeros : List ℕ → List ℕ
zeros [] = []
zeros (p ∷ ps) = 0 ∷ zeros ps

mix_zeros : (ps : List ℕ) → mix ps (zeros ps) ≡ ps
mix_zeros [] = refl
mix_zeros (p ∷ ps) = ap₂ (λ (x : ℕ) (l : List ℕ). x ∷ l) (differ_zero p) (mix_zeros ps)

mix_self : (ps : List ℕ) → mix ps ps ≡ zeros ps
mix_self [] = refl
mix_self (p ∷ ps) = ap₂ (λ (x : ℕ) (l : List ℕ). x ∷ l) (differ_self p) (mix_self ps)

-- ---- the 24 low bits only move up
step_low : (r : ℕ) → r < 2 ^ 31 → bit_step r 0 ≡ r * 2
unfolding bit_step pick
step_low r h =
    let top : r / 2 ^ 31 ≡ 0 = omega arith in
    let rest : r % 2 ^ 31 ≡ r = omega arith in
    ap (λ (b : Bool). bit_xor (r % 2 ^ 31 * 2) (pick b 0 polynomial)) (eq-eqb (r / 2 ^ 31) 0 top)
    ∙ xor_zero_r (r % 2 ^ 31 * 2) ∙ ap (λ (n : ℕ). n * 2) rest

low_steps : (r : ℕ) → r < 2 ^ 24 → bits_step r zero_bits ≡ r * 256
unfolding bits_step
low_steps r h =
    let next : (n m : ℕ) → n ≡ m → m < 2 ^ 31 → bit_step n 0 ≡ m * 2 = λ n m e k. ap (λ (x : ℕ). bit_step x 0) e ∙ step_low m k in
    let s4 = next _ _ (next _ _ (next _ _ (step_low r (omega arith)) (omega arith)) (omega arith)) (omega arith) in
    next _ _ (next _ _ (next _ _ (next _ _ s4 (omega arith)) (omega arith)) (omega arith)) (omega arith) ∙ omega arith

-- ---- a byte against its own bits leaves nothing: a test at each of the 256 bytes
leaves_nothing : ℕ → Bool
leaves_nothing x = eqb (bits_step (x * 2 ^ 24) (bits_of x)) 0

cancels : (x : ℕ) → x < 256 → bits_step (x * 2 ^ 24) (bits_of x) ≡ 0
unfolding leaves_nothing all_below bits_step bit_step pick
cancels x h = eqb-true (bits_step (x * 2 ^ 24) (bits_of x)) 0 (below leaves_nothing 256 refl x h)

-- ---- a zero byte
pub byte_lt : (r x : ℕ) → byte_step r x < 2 ^ 32
unfolding byte_step bits_step
byte_lt r x = step_lt _ _

pub zero_linear : (a b : ℕ) → a < 2 ^ 32 → b < 2 ^ 32 → byte_step (bit_xor a b) 0 ≡ bit_xor (byte_step a 0) (byte_step b 0)
unfolding byte_step
zero_linear a b ha hb = steps_linear zero_bits zero_bits (omega arith) a b ha hb

pub zero_low : (r : ℕ) → r < 2 ^ 24 → byte_step r 0 ≡ r * 256
unfolding byte_step
zero_low r h = low_steps r h

-- ---- a byte at once
module _ (r x : ℕ) (hr : r < 2 ^ 32) (hx : x < 256) where
  parted : r ≡ bit_xor (r / 2 ^ 24 * 2 ^ 24) (r % 2 ^ 24)
  parted = sym (xor_shifted (r / 2 ^ 24) 24 (r % 2 ^ 24) (omega arith) ∙ split r 24)

  upper : bits_step (r / 2 ^ 24 * 2 ^ 24) (bits_of x) ≡ entry (bit_xor (r / 2 ^ 24) x)
  unfolding entry
  upper =
      sym (xor_zero_r (bits_step (r / 2 ^ 24 * 2 ^ 24) (bits_of x)))
      ∙ ap (bit_xor (bits_step (r / 2 ^ 24 * 2 ^ 24) (bits_of x))) (sym (cancels x hx))
      ∙ sym (steps_linear (bits_of x) (bits_of x) (omega arith) (r / 2 ^ 24 * 2 ^ 24) (x * 2 ^ 24) (omega arith) (omega arith))
      ∙ ap₂ bits_step (sym (xor_up 24 (r / 2 ^ 24) x)) (mix_self (bits_of x))

  pub byte_entry : byte_step r x ≡ bit_xor (r % 2 ^ 24 * 256) (entry (bit_xor (r / 2 ^ 24) x))
  unfolding byte_step
  byte_entry =
      ap₂ bits_step parted (sym (mix_zeros (bits_of x)))
      ∙ steps_linear (bits_of x) zero_bits (omega arith) (r / 2 ^ 24 * 2 ^ 24) (r % 2 ^ 24) (omega arith) (omega arith)
      ∙ ap₂ bit_xor upper (low_steps (r % 2 ^ 24) (omega arith))
      ∙ xor_comm (entry (bit_xor (r / 2 ^ 24) x)) (r % 2 ^ 24 * 256)
