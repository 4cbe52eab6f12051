-- The value of each figure is exactly the whole number divided by the power of two: a number of at most 53 bits is converted
-- with no rounding, and a power of two divides a double with no rounding. Assumes nothing.
use Prim.Native.Nat.{ℕ, ◌+◌, ◌-◌, ◌*◌, ◌^◌, ◌≤◌, ◌<◌}
use mathlib.Core.Bool.{true, false, true≢false}
use mathlib.Core.Path.{◌≡◌, sym, ap, ◌∙◌}
use native.Mathlib.Nat.{mul_assoc, mul_right_comm, one-mul, mul-pos, eq_of_mul-eq-mul_right, le_trans, lt_trans, le_of_lt}
use native.Mathlib.Omega.{arith}
use lib.Dec.{lit<}
use lib.Pow.{pow-add, pow_pos, pow_mono, shl_lt}
use lib.IntN.{pos}
use lib.Ieee.{Float, nan, inf, fin, binary64, up, down, round, div, of_int}
use lib.Ieee.Exact.{HasValue, round_exact}
use lib.Ieee.Back.{round_whole}
use lib.Ieee.Fits.{down_pos}
use Rattle.mastering.specs.Figures.{figure, power}
use Rattle.mastering.specs.Exact.{ExactFigure}

-- ---- products
spread : (n d a b : ℕ) → n * d * (a * b) ≡ n * a * (1 * b * d)
spread n d a b =
    mul_right_comm n d (a * b)
    ∙ ap (λ (x : ℕ). x * d) (sym (mul_assoc n a b))
    ∙ mul_assoc (n * a) b d
    ∙ ap (λ (x : ℕ). n * a * (x * d)) (sym (one-mul b))

gather : (x b d n y num : ℕ) → 0 < d → num ≡ n * d → x * (1 * b * d) ≡ num * y → x * b ≡ n * y
gather x b d n y num p h v =
    eq_of_mul-eq-mul_right d p (x * b) (n * y)
    (mul_assoc x b d ∙ ap (λ (z : ℕ). x * (z * d)) (sym (one-mul b)) ∙ v ∙ ap (λ (z : ℕ). z * y) h ∙ mul_right_comm n d y)

-- ---- a fraction that a common factor is taken out of
reduced : (x : Float) (b d n num : ℕ) → 0 < d → num ≡ n * d → HasValue x false num (1 * b * d) → HasValue x false n b
reduced nan b d n num p h v = v
reduced (inf t) b d n num p h v = v
reduced (fin t m e) b d n num p h v = (v.0, gather (m * up e) b d n (down e) num p h v.1)

-- ---- a whole number of at most 53 bits, divided by a power of two
module _ (k n : ℕ) (small : n < 2 ^ 53) (reach : k ≤ 1074) where
  within : n * 2 ^ (1074 - k) < 2 ^ 2098
  within =
      let fits : 53 + (1074 - k) ≤ 2098 = omega arith in
      le_trans (shl_lt 53 (1074 - k) small) (pow_mono fits)

  power_of : 2 ^ 1074 ≡ 2 ^ (1074 - k) * 2 ^ k
  power_of =
      let whole : 1074 ≡ 1074 - k + k = omega arith in
      ap (λ (x : ℕ). 2 ^ x) whole ∙ pow-add 2 (1074 - k) k

  divided : (x : Float) → HasValue x false n 1 → HasValue (div binary64 x (power k)) false n (2 ^ k)
  unfolding div
  divided nan v = v
  divided (inf t) v = absurd v
  divided (fin true m e) v = absurd (true≢false v.0)
  divided (fin false m e) v =
      let den-above : 0 < 1 * 2 ^ k * down e = mul-pos (mul-pos (omega arith) (pow_pos k)) (down_pos e) in
      reduced (round binary64 false (m * up e * 1) (1 * 2 ^ k * down e)) (2 ^ k) (down e) n (m * up e * 1) (down_pos e) v.1
      (round_exact binary64 false (m * up e * 1) (1 * 2 ^ k * down e) n (1074 - k) den-above small within
      (ap (λ (x : ℕ). x * 2 ^ 1074) v.1 ∙ ap (λ (x : ℕ). n * down e * x) power_of ∙ spread n (down e) (2 ^ (1074 - k)) (2 ^ k)))

  converted : HasValue (of_int binary64 (pos n)) false n 1
  unfolding of_int
  converted = round_whole binary64 false n (le_of_lt small)

  exact : HasValue (of_int binary64 (pos n)) false n 1 × HasValue (figure k n) false n (2 ^ k)
  exact = (converted, divided (of_int binary64 (pos n)) converted)

-- ---- "each the whole number converted and divided once by 65,536, 256 or 16,384"
pub chromaticity_exact : ExactFigure 16 16
chromaticity_exact n h = exact 16 n (lt_trans h (lit< tt)) (omega arith)

pub maximum_exact : ExactFigure 32 8
maximum_exact n h = exact 8 n (lt_trans h (lit< tt)) (omega arith)

pub minimum_exact : ExactFigure 32 14
minimum_exact n h = exact 14 n (lt_trans h (lit< tt)) (omega arith)
