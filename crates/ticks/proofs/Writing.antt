-- Reading gives back the ticks that were written: a time stamp of 33 bits (`stamp_back`), a PCR's base and extension (`base_back`,
-- `extension_back`), and the PCR itself (`clock_back`). Assumes nothing.
use Prim.Native.Nat.{ℕ, ◌+◌, ◌*◌, ◌/◌, ◌%◌, ◌^◌, ◌<◌}
use mathlib.Core.Path.{◌≡◌, ap, ap₂, ◌∙◌}
use native.Mathlib.Omega.{arith}
use Rattle.lists.specs.Bytes.{byte, bits}
use Rattle.ticks.specs.declared.Ticks27.{Ticks27}
use Rattle.ticks.specs.declared.Ticks90.{Ticks90}
use Rattle.ticks.specs.Ticks.{clock, pcr_base, pcr_extension, time_stamp}
use Rattle.ticks.specs.Writing.{base, extension, pcr_bytes}

-- ---- a PCR
-- a number from its digits, each of which is what the one before leaves
gather : (b b1 b9 b17 b25 r r1 r9 r17 : ℕ) → b ≡ b1 * 2 + r → b1 ≡ b9 * 256 + r1 → b9 ≡ b17 * 256 + r9 → b17 ≡ b25 * 256 + r17
    → b25 * 2 ^ 25 + r17 * 2 ^ 17 + r9 * 2 ^ 9 + r1 * 2 + r ≡ b
gather b b1 b9 b17 b25 r r1 r9 r17 e e1 e9 e17 = omega arith

base_digits : (b : ℕ) → b / 2 ^ 25 * 2 ^ 25 + b / 2 ^ 17 % 256 * 2 ^ 17 + b / 2 ^ 9 % 256 * 2 ^ 9 + b / 2 % 256 * 2 + b % 2 ≡ b
base_digits b =
    gather b (b / 2) (b / 2 ^ 9) (b / 2 ^ 17) (b / 2 ^ 25) (b % 2) (b / 2 % 256) (b / 2 ^ 9 % 256) (b / 2 ^ 17 % 256) (omega arith)
    (omega arith)
    (omega arith) (omega arith)

low_bit : (b e : ℕ) → e < 300 → bits 7 7 (b % 2 * 2 ^ 7 + 0b111111 * 2 + e / 256) ≡ b % 2
low_bit b e h = omega arith

in_300 : (n : ℕ) → n / 300 * 300 + n % 300 ≡ n
in_300 n = omega arith

module _ (t : Ticks27) where
  pub extension_back : pcr_extension (byte (pcr_bytes t) 4) (byte (pcr_bytes t) 5) ≡ extension t
  extension_back = omega arith

  pub base_back : pcr_base (byte (pcr_bytes t) 0) (byte (pcr_bytes t) 1) (byte (pcr_bytes t) 2) (byte (pcr_bytes t) 3)
      (byte (pcr_bytes t) 4)
      ≡ base t
  base_back =
      ap (λ (x : ℕ). base t / 2 ^ 25 * 2 ^ 25 + base t / 2 ^ 17 % 256 * 2 ^ 17 + base t / 2 ^ 9 % 256 * 2 ^ 9 + base t / 2 % 256 * 2 + x)
      (low_bit (base t) (extension t) (omega arith)) ∙ base_digits (base t)

  pub clock_back : clock
      (pcr_base (byte (pcr_bytes t) 0) (byte (pcr_bytes t) 1) (byte (pcr_bytes t) 2) (byte (pcr_bytes t) 3) (byte (pcr_bytes t) 4))
      (pcr_extension (byte (pcr_bytes t) 4) (byte (pcr_bytes t) 5)) ≡ t
  clock_back = ap (λ (x : ℕ). record { 0 = x }) (ap₂ (λ (x y : ℕ). x * 300 + y) base_back extension_back ∙ in_300 t.0)

-- ---- a time stamp
gather_time : (b b7 b15 b22 b30 r r7 r15 r22 : ℕ) → b ≡ b7 * 128 + r → b7 ≡ b15 * 256 + r7 → b15 ≡ b22 * 128 + r15 → b22 ≡ b30 * 256 + r22
    → b30 * 2 ^ 30 + r22 * 2 ^ 22 + r15 * 2 ^ 15 + r7 * 2 ^ 7 + r ≡ b
gather_time b b7 b15 b22 b30 r r7 r15 r22 e e7 e15 e22 = omega arith

time_digits : (b : ℕ) → b / 2 ^ 30 * 2 ^ 30 + b / 2 ^ 22 % 256 * 2 ^ 22 + b / 2 ^ 15 % 128 * 2 ^ 15 + b / 2 ^ 7 % 256 * 2 ^ 7 + b % 128 ≡ b
time_digits b =
    gather_time b (b / 2 ^ 7) (b / 2 ^ 15) (b / 2 ^ 22) (b / 2 ^ 30) (b % 128) (b / 2 ^ 7 % 256) (b / 2 ^ 15 % 128) (b / 2 ^ 22 % 256)
    (omega arith)
    (omega arith) (omega arith) (omega arith)

same_sum : (a b c a' b' c' x y : ℕ) → a ≡ a' → b ≡ b' → c ≡ c'
    → a * 2 ^ 30 + x * 2 ^ 22 + b * 2 ^ 15 + y * 2 ^ 7 + c ≡ a' * 2 ^ 30 + x * 2 ^ 22 + b' * 2 ^ 15 + y * 2 ^ 7 + c'
same_sum a b c a' b' c' x y e f g = omega arith

module _ (prefix : ℕ) (t : Ticks90) (hp : prefix < 16) (ht : t.0 < 2 ^ 33) where
  abbrev first : ℕ
  first = prefix * 2 ^ 4 + t.0 / 2 ^ 30 * 2 + 1

  abbrev third : ℕ
  third = t.0 / 2 ^ 15 % 128 * 2 + 1

  abbrev fifth : ℕ
  fifth = t.0 % 128 * 2 + 1

  -- the prefix and the three marker bits
  pub prefix_back : bits 7 4 first ≡ prefix
  prefix_back = omega arith

  pub markers_back : (bits 0 0 first ≡ 1) × (bits 0 0 third ≡ 1) × (bits 0 0 fifth ≡ 1)
  markers_back = (omega arith, omega arith, omega arith)

  pub stamp_back : time_stamp first (t.0 / 2 ^ 22 % 256) third (t.0 / 2 ^ 7 % 256) fifth ≡ t
  stamp_back =
      let v : bits 3 1 first * 2 ^ 30 + t.0 / 2 ^ 22 % 256 * 2 ^ 22 + bits 7 1 third * 2 ^ 15 + t.0 / 2 ^ 7 % 256 * 2 ^ 7 + bits 7 1 fifth
      ≡ t.0 =
      same_sum (bits 3 1 first) (bits 7 1 third) (bits 7 1 fifth) (t.0 / 2 ^ 30) (t.0 / 2 ^ 15 % 128) (t.0 % 128) (t.0 / 2 ^ 22 % 256)
      (t.0 / 2 ^ 7 % 256) (omega arith) (omega arith) (omega arith)
      ∙ time_digits t.0 in
      ap (λ (x : ℕ). record { 0 = x }) v
