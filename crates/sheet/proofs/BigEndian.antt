-- Numbers of eight bytes, and the i-th of a row of them. Assumes nothing.
use Prim.Native.Nat.{ℕ, zero, suc, ◌+◌, ◌*◌, ◌/◌, ◌%◌, ◌<◌}
use mathlib.Core.Path.{◌≡◌, refl, ap, ◌∙◌}
use mathlib.Core.List.{List, [], ◌∷◌, ◌++◌, flatten}
use native.Mathlib.Omega.{arith}
use lib.ListN.{length, take, drop, get_or, length-append}
use lib.Seq.{drop-append-add, take_at}
use Rattle.refusal.proofs.Verdicts.{All}
use Rattle.sheet.specs.Sheet.{big_endian, in_bytes}
use Rattle.sheet.specs.Reading.{value_from, number}

-- digits to the base 256, put together again
joined : (n a1 a2 a3 a4 a5 a6 a7 b0 b1 b2 b3 b4 b5 b6 b7 : ℕ) → n ≡ a1 * 256 + b0 → a1 ≡ a2 * 256 + b1 → a2 ≡ a3 * 256 + b2
    → a3 ≡ a4 * 256 + b3 → a4 ≡ a5 * 256 + b4 → a5 ≡ a6 * 256 + b5 → a6 ≡ a7 * 256 + b6 → b7 ≡ a7
    → (((((((0 * 256 + b7) * 256 + b6) * 256 + b5) * 256 + b4) * 256 + b3) * 256 + b2) * 256 + b1) * 256 + b0 ≡ n
joined n a1 a2 a3 a4 a5 a6 a7 b0 b1 b2 b3 b4 b5 b6 b7 e1 e2 e3 e4 e5 e6 e7 e8 = omega arith

-- a number below 2^64 comes back out of its eight bytes
pub eight_back : (n : ℕ) → n < 18446744073709551616 → value_from 0 (big_endian 8 n) ≡ n
unfolding value_from big_endian
eight_back n h =
    let q2 : n / 256 ≡ n / 65536 * 256 + n / 256 % 256 = omega arith in
    let q3 : n / 65536 ≡ n / 16777216 * 256 + n / 65536 % 256 = omega arith in
    let q4 : n / 16777216 ≡ n / 4294967296 * 256 + n / 16777216 % 256 = omega arith in
    let q5 : n / 4294967296 ≡ n / 1099511627776 * 256 + n / 4294967296 % 256 = omega arith in
    let q6 : n / 1099511627776 ≡ n / 281474976710656 * 256 + n / 1099511627776 % 256 = omega arith in
    let q7 : n / 281474976710656 ≡ n / 72057594037927936 * 256 + n / 281474976710656 % 256 = omega arith in
    let q8 : n / 72057594037927936 % 256 ≡ n / 72057594037927936 = omega arith in
    let q0 : n / 1 % 256 ≡ n % 256 = omega arith in
    joined n (n / 256) (n / 65536) (n / 16777216) (n / 4294967296) (n / 1099511627776) (n / 281474976710656) (n / 72057594037927936)
    (n / 1 % 256) (n / 256 % 256) (n / 65536 % 256) (n / 16777216 % 256) (n / 4294967296 % 256) (n / 1099511627776 % 256)
    (n / 281474976710656 % 256) (n / 72057594037927936 % 256) (omega arith) q2 q3 q4 q5 q6 q7 q8

pub eight_long : (n : ℕ) → length (big_endian 8 n) ≡ 8
unfolding big_endian
eight_long n = refl

pub bytes_long : (ns : List ℕ) → length (in_bytes ns) ≡ 8 * length ns
unfolding flatten
bytes_long [] = refl
bytes_long (n ∷ ns) = omega (arith, length-append (big_endian 8 n) (in_bytes ns), eight_long n, bytes_long ns)

bytes_at : (ns : List ℕ) (i : ℕ) → i < length ns → take 8 (drop (8 * i) (in_bytes ns)) ≡ big_endian 8 (get_or ns i 0)
unfolding flatten
bytes_at [] i h = absurd (omega arith)
bytes_at (n ∷ ns) zero h = take_at (big_endian 8 n) (in_bytes ns) 8 (eight_long n)
bytes_at (n ∷ ns) (suc i) h =
    let e : 8 * suc i ≡ length (big_endian 8 n) + 8 * i = omega (arith, eight_long n) in
    ap (λ (k : ℕ). take 8 (drop k (big_endian 8 n ++ in_bytes ns))) e
    ∙ ap (take 8) (drop-append-add (big_endian 8 n) (in_bytes ns) (8 * i))
    ∙ bytes_at ns i (omega arith)

-- the number with an index
abbrev pub Small : List ℕ → Type 0
Small ns = All (λ n. n < 18446744073709551616) ns

small_at : (ns : List ℕ) (i : ℕ) → Small ns → i < length ns → get_or ns i 0 < 18446744073709551616
small_at [] i a h = absurd (omega arith)
small_at (n ∷ ns) zero a h = a.0
small_at (n ∷ ns) (suc i) a h = small_at ns i a.1 (omega arith)

pub number_at : (ns : List ℕ) (i : ℕ) → Small ns → i < length ns → number (in_bytes ns) i ≡ get_or ns i 0
unfolding number
number_at ns i a h = ap (value_from 0) (bytes_at ns i h) ∙ eight_back (get_or ns i 0) (small_at ns i a h)
