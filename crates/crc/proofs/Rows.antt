-- What a byte leaves is what its bits leave, added up, so that the bytes of one bit are enough. What these leave stands here as numbers, a
-- row for each k; antt computes each row from the one before it. Assumes nothing.
use Prim.Native.Nat.{ℕ, zero, suc, ◌+◌, ◌*◌, ◌/◌, ◌%◌, ◌^◌, ◌<◌}
use mathlib.Core.Bool.{Bool, true, ◌&&◌}
use mathlib.Core.Path.{◌≡◌, refl, sym, ap, ap₂, ◌∙◌}
use mathlib.Core.List.{List, [], ◌∷◌, map}
use native.Mathlib.Omega.{arith}
use native.Mathlib.Nat.{pow-suc}
use lib.Bits.{bit_xor, xor_comm, xor_shifted}
use lib.Dec.{eqb}
use lib.ListN.{length, get_or}
use borrow.Author.Tests.{eqb-true, eqb-false}
use Rattle.lists.specs.Lists.{pick, same}
use Rattle.lists.proofs.Picks.{by_true, by_false}
use Rattle.lists.proofs.Tests.{case, and_both, same_bytes}
use Rattle.crc.specs.Crc.{bit_step, bits_step, byte_step}
use Rattle.crc.specs.Parts.{zeros_step, left}
use Rattle.crc.proofs.Xor.{xor_up}
use Rattle.crc.proofs.Slicing.{left_linear, left_zero}

-- the bits of x, the lowest first, each add what stands in its place
unfoldable pub spread : List ℕ → ℕ → ℕ
spread [] x = 0
spread (p ∷ ps) x = bit_xor (pick (eqb (x % 2) 0) 0 p) (spread ps (x / 2))

-- f of 1, 2, 4 and so on
abbrev ones : (ℕ → ℕ) → ℕ → List ℕ
ones f zero = []
ones f (suc n) = f 1 ∷ ones (λ x. f (x * 2)) n

abbrev Linear : (ℕ → ℕ) → ℕ → Type 0
Linear f n = (f 0 ≡ 0) × ((a b : ℕ) → a < 2 ^ n → b < 2 ^ n → f (bit_xor a b) ≡ bit_xor (f a) (f b))

-- ---- such a function is given by its values at the bytes of one bit
spread_linear : (n : ℕ) (f : ℕ → ℕ) → Linear f n → (x : ℕ) → x < 2 ^ n → spread (ones f n) x ≡ f x
unfolding spread
spread_linear zero f l x h = sym l.0 ∙ ap f (let e : 0 ≡ x = omega arith in e)
spread_linear (suc n) f l x h =
    let twice : 2 ^ suc n ≡ 2 ^ n * 2 = pow-suc 2 n in
    let upper = spread_linear n (λ y. f (y * 2)) (
      l.0,
      λ a b ha hb. ap f (xor_up 1 a b) ∙ l.1 (a * 2) (b * 2) (omega arith) (omega arith),
    ) (x / 2) (omega arith) in
    let lowest : pick (eqb (x % 2) 0) 0 (f 1) ≡ f (x % 2) =
    case (eqb (x % 2) 0)
    (λ t. sym (by_true (f 1) t (ap f (eqb-true (x % 2) 0 t) ∙ l.0)))
    (λ t. sym (by_false 0 t (let ne = eqb-false (x % 2) 0 t in let e : x % 2 ≡ 1 = omega arith in ap f e))) in
    ap₂ bit_xor lowest upper ∙ sym (l.1 (x % 2) (x / 2 * 2) (omega arith) (omega arith))
    ∙ ap f (xor_comm (x % 2) (x / 2 * 2) ∙ xor_shifted (x / 2) 1 (x % 2) (omega arith) ∙ omega arith)

-- ---- the rows
abbrev first_row : List ℕ
first_row = 0x04C1_1DB7 ∷ 0x0982_3B6E ∷ 0x1304_76DC ∷ 0x2608_EDB8 ∷ 0x4C11_DB70 ∷ 0x9823_B6E0 ∷ 0x3486_7077 ∷ 0x690C_E0EE ∷ []

abbrev later_rows : List (List ℕ)
later_rows =
    (0xD219_C1DC ∷ 0xA0F2_9E0F ∷ 0x4524_21A9 ∷ 0x8A48_4352 ∷ 0x1051_9B13 ∷ 0x20A3_3626 ∷ 0x4146_6C4C ∷ 0x828C_D898 ∷ [])
    ∷ (0x01D8_AC87 ∷ 0x03B1_590E ∷ 0x0762_B21C ∷ 0x0EC5_6438 ∷ 0x1D8A_C870 ∷ 0x3B15_90E0 ∷ 0x762B_21C0 ∷ 0xEC56_4380 ∷ [])
    ∷ (0xDC6D_9AB7 ∷ 0xBC1A_28D9 ∷ 0x7CF5_4C05 ∷ 0xF9EA_980A ∷ 0xF714_2DA3 ∷ 0xEAE9_46F1 ∷ 0xD113_9055 ∷ 0xA6E6_3D1D ∷ [])
    ∷ (0x490D_678D ∷ 0x921A_CF1A ∷ 0x20F4_8383 ∷ 0x41E9_0706 ∷ 0x83D2_0E0C ∷ 0x0365_01AF ∷ 0x06CA_035E ∷ 0x0D94_06BC ∷ [])
    ∷ (0x1B28_0D78 ∷ 0x3650_1AF0 ∷ 0x6CA0_35E0 ∷ 0xD940_6BC0 ∷ 0xB641_CA37 ∷ 0x6842_89D9 ∷ 0xD085_13B2 ∷ 0xA5CB_3AD3 ∷ [])
    ∷ (0x4F57_6811 ∷ 0x9EAE_D022 ∷ 0x399C_BDF3 ∷ 0x7339_7BE6 ∷ 0xE672_F7CC ∷ 0xC824_F22F ∷ 0x9488_F9E9 ∷ 0x2DD0_EE65 ∷ [])
    ∷ (0x5BA1_DCCA ∷ 0xB743_B994 ∷ 0x6A46_6E9F ∷ 0xD48C_DD3E ∷ 0xADD8_A7CB ∷ 0x5F70_5221 ∷ 0xBEE0_A442 ∷ 0x7900_5533 ∷ [])
    ∷ (0xF200_AA66 ∷ 0xE0C0_497B ∷ 0xC541_8F41 ∷ 0x8E42_0335 ∷ 0x1845_1BDD ∷ 0x308A_37BA ∷ 0x6114_6F74 ∷ 0xC228_DEE8 ∷ [])
    ∷ (0x8090_A067 ∷ 0x05E0_5D79 ∷ 0x0BC0_BAF2 ∷ 0x1781_75E4 ∷ 0x2F02_EBC8 ∷ 0x5E05_D790 ∷ 0xBC0B_AF20 ∷ 0x7CD6_43F7 ∷ [])
    ∷ (0xF9AC_87EE ∷ 0xF798_126B ∷ 0xEBF1_3961 ∷ 0xD323_6F75 ∷ 0xA287_C35D ∷ 0x41CE_9B0D ∷ 0x839D_361A ∷ 0x03FB_7183 ∷ [])
    ∷ (0x07F6_E306 ∷ 0x0FED_C60C ∷ 0x1FDB_8C18 ∷ 0x3FB7_1830 ∷ 0x7F6E_3060 ∷ 0xFEDC_60C0 ∷ 0xF979_DC37 ∷ 0xF632_A5D9 ∷ [])
    ∷ (0xE8A4_5605 ∷ 0xD589_B1BD ∷ 0xAFD2_7ECD ∷ 0x5B65_E02D ∷ 0xB6CB_C05A ∷ 0x6956_9D03 ∷ 0xD2AD_3A06 ∷ 0xA19B_69BB ∷ [])
    ∷ (0x47F7_CEC1 ∷ 0x8FEF_9D82 ∷ 0x1B1E_26B3 ∷ 0x363C_4D66 ∷ 0x6C78_9ACC ∷ 0xD8F1_3598 ∷ 0xB523_7687 ∷ 0x6E87_F0B9 ∷ [])
    ∷ (0xDD0F_E172 ∷ 0xBEDE_DF53 ∷ 0x797C_A311 ∷ 0xF2F9_4622 ∷ 0xE133_91F3 ∷ 0xC6A6_3E51 ∷ 0x898D_6115 ∷ 0x17DB_DF9D ∷ [])
    ∷ (0x2FB7_BF3A ∷ 0x5F6F_7E74 ∷ 0xBEDE_FCE8 ∷ 0x797C_E467 ∷ 0xF2F9_C8CE ∷ 0xE132_8C2B ∷ 0xC6A4_05E1 ∷ 0x8989_1675 ∷ [])
    ∷ []

unfoldable pub rows : List (List ℕ)
rows = first_row ∷ later_rows

abbrev after : ℕ → ℕ
after r = byte_step r 0

-- each row, after one zero byte, is the next
unfoldable chained : List ℕ → List (List ℕ) → Bool
chained p [] = true
chained p (q ∷ qs) = same (map after p) q && chained q qs

after_ones : (k : ℕ) → map after (ones (left k) 8) ≡ ones (left (suc k)) 8
unfolding zeros_step
after_ones k = let e : suc (k + 1) ≡ suc k + 1 = omega arith in ap (λ (n : ℕ). ones (λ (x : ℕ). zeros_step n (x * 2 ^ 24)) 8) e

follow : (p : List ℕ) (qs : List (List ℕ)) (k : ℕ) → p ≡ ones (left k) 8 → chained p qs ≡ true
    → (j : ℕ) → j < length (p ∷ qs) → get_or (p ∷ qs) j [] ≡ ones (left (j + k)) 8
unfolding chained
follow p qs k e t zero h = e ∙ (let z : k ≡ 0 + k = omega arith in ap (λ (n : ℕ). ones (left n) 8) z)
follow p [] k e t (suc j) h = absurd (omega arith)
follow p (q ∷ qs) k e t (suc j) h =
    let both = and_both (same (map after p) q) (chained q qs) t in
    follow q qs (suc k) (sym (same_bytes (map after p) q both.0) ∙ ap (map after) e ∙ after_ones k) both.1 j (omega arith)
    ∙ (let z : j + suc k ≡ suc j + k = omega arith in ap (λ (n : ℕ). ones (left n) 8) z)

row_is : (k : ℕ) → k < 16 → get_or rows k [] ≡ ones (left k) 8
unfolding rows chained same byte_step bits_step bit_step pick zeros_step
row_is k h = follow first_row later_rows 0 refl refl k h ∙ (let z : k + 0 ≡ k = omega arith in ap (λ (n : ℕ). ones (left n) 8) z)

-- ---- what a byte leaves, by the row of k
pub by_row : (k x : ℕ) → k < 16 → x < 256 → spread (get_or rows k []) x ≡ left k x
by_row k x small h = ap (λ (l : List ℕ). spread l x) (row_is k small) ∙ spread_linear 8 (left k) (left_zero k, left_linear k) x h
