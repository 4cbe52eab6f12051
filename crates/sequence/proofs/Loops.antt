-- Loops over bits: one bit more of a number, of a skip, and of a run of zeros. Assumes nothing.
use Prim.Native.Nat.{ℕ, zero, suc, ◌+◌, ◌-◌, ◌*◌, ◌^◌, ◌<◌, ◌≤◌, min}
use mathlib.Core.Bool.{true}
use mathlib.Core.Path.{◌≡◌, refl, ap}
use mathlib.Core.List.{List, [], ◌∷◌}
use native.Mathlib.Omega.{arith}
use native.Mathlib.Nat.{lt_of_lt_of_le, pow-suc}
use native.Mathlib.Numerals.{add-one}
use lib.Pow.{pow_mono}
use lib.Dec.{eqb, ltb}
use borrow.Author.Tests.{lt-ltb, le-ltb}
use Rattle.refusal.specs.Verdict.{NoValue}
use Rattle.sequence.specs.Bits.{Reader, Outcome, read, cut_short, after, ◌>>=◌, ◌>>◌, return, f, f_from, flag, skip, when, times}
use Rattle.sequence.specs.Bits.{zeros_from, uvlc}
use Rattle.sequence.specs.Parts.{Reads, CountsZeros}
use Rattle.sequence.specs.declared.reader.BitReader.{BitReader}
use Rattle.sequence.proofs.Steps.{said_read, alike, past, and_then, before, done, held, failed, reads}

-- ---- a number: one bit behind i bits
more_bits : (x i : ℕ) (l : List ℕ) → (f_from x i >>= (λ y. f 1 >>= (λ b. return (y * 2 + b)))) l ≡ f_from x (suc i) l
unfolding ◌>>=◌ f_from return
more_bits x zero [] = refl
more_bits x zero (b ∷ l) = ap (λ (n : ℕ). read n l) (omega arith)
more_bits x (suc i) [] = refl
more_bits x (suc i) (b ∷ l) = more_bits (2 * x + b) i l

pub no_bits : {r : BitReader} → Reads r (f 0) 0 r
unfolding f_from
no_bits {r} = record { same = refl; stays = λ h. h; says = λ e. said_read 0 r e }

pub one_bit : {r s t : BitReader} {x b : ℕ} (i : ℕ) → Reads r (f i) x s → Reads s (f 1) b t → Reads r (f (i + 1)) (x * 2 + b) t
one_bit {x = x} i p q =
    rw add-one (alike (more_bits 0 i) (and_then (λ y. f 1 >>= (λ c. return (y * 2 + c))) p (and_then (λ c. return (x * 2 + c)) q done)))

-- one bit more can double it, up to eight bits
pub byte_room : (x i : ℕ) → i < 8 → x < 2 ^ i → x < 128
byte_room x i h k = let small : i ≤ 7 = omega arith in lt_of_lt_of_le k (pow_mono small)

pub below_more : (x b i : ℕ) → x < 2 ^ i → b < 2 → x * 2 + b < 2 ^ (i + 1)
below_more x b i h k = let e : 2 ^ suc i ≡ 2 ^ i * 2 = pow-suc 2 i in rw add-one (omega (arith, e))

-- a loop that reads a number: `left` bits are to come behind `value`, and what they say is what the whole says
pub record Counting (r : BitReader) (n value : ℕ) (s : BitReader) (left : ℕ) : Type 0 where
  pub below : value < 2 ^ (n - left)
  pub fits : left ≤ n
  pub rest : (v : ℕ) (t : BitReader) → Reads s (f_from value left) v t → Reads r (f n) v t

module _ {r s : BitReader} {n value left : ℕ} (h : Counting r n value s left) where
  pub counting_room : n ≤ 8 → 0 < left → value < 128
  counting_room m p = byte_room value (n - left) (omega arith) h.below

-- ---- bits that are not looked at
more_skipped : (x y i : ℕ) (l : List ℕ)
    → ((f_from x i >> return {A = NoValue} tt) >> (f 1 >> return {A = NoValue} tt)) l ≡ (f_from y (suc i) >> return {A = NoValue} tt) l
unfolding ◌>>◌ f_from return
more_skipped x y zero [] = refl
more_skipped x y zero (b ∷ l) = refl
more_skipped x y (suc i) [] = refl
more_skipped x y (suc i) (b ∷ l) = more_skipped (2 * x + b) (2 * y + b) i l

pub none_skipped : {r : BitReader} → Reads r (skip 0) tt r
unfolding skip ◌>>◌ f_from return
none_skipped {r} = record { same = refl; stays = λ h. h; says = λ e. said_read tt r e }

pub one_skipped : {r s t : BitReader} {b : ℕ} (i : ℕ) → Reads r (skip i) tt s → Reads s (f 1) b t → Reads r (skip (i + 1)) tt t
unfolding skip
one_skipped i p q = rw add-one (alike (more_skipped 0 0 i) (before p (before q done)))

-- ---- reads of one form
module _ {A : Type 0} (m : Reader A) where
  further : (n k : Reader NoValue) (o : Outcome A) → ((l : List ℕ) → (n >> (m >> return {A = NoValue} tt)) l ≡ k l)
      → after (λ _. m >> return {A = NoValue} tt) (after (λ _. n) o) ≡ after (λ _. k) o
  unfolding ◌>>◌
  further n k (read a l) h = h l
  further n k cut_short h = refl

  more_times : (i : ℕ) (l : List ℕ) → (times i m >> (m >> return {A = NoValue} tt)) l ≡ times (suc i) m l
  unfolding ◌>>◌ return times
  more_times zero l = refl
  more_times (suc i) l = further (times i m) (times (suc i) m) (m l) (more_times i)

  pub no_times : {r : BitReader} → Reads r (times 0 m) tt r
  unfolding times
  no_times = done

  pub one_time : {r s t : BitReader} {v : A} (i : ℕ) → Reads r (times i m) tt s → Reads s m v t → Reads r (times (i + 1) m) tt t
  one_time i p q = rw add-one (alike (more_times i) (before p (before q done)))

-- a loop over reads of one form
pub record Repeating {A : Type 0} (r : BitReader) (n : ℕ) (m : Reader A) (s : BitReader) (left : ℕ) : Type 0 where
  pub rest : (t : BitReader) → Reads s (times left m) tt t → Reads r (times n m) tt t

pub repeating_start : {A : Type 0} (r : BitReader) (n : ℕ) (m : Reader A) → Repeating r n m r n
repeating_start r n m = record { rest = λ t h. h }

-- ---- a flag
pub flagged : {r s : BitReader} {b : ℕ} → Reads r (f 1) b s → Reads r flag (eqb b 1) s
unfolding flag
flagged p = and_then (λ x. return (eqb x 1)) p done

-- ---- zeros up to a one
zeros_open : (k b : ℕ) → Reader ℕ
zeros_open k zero = zeros_from (suc k)
zeros_open k (suc b) = return k

zeros_opens : (k : ℕ) (l : List ℕ) → (f 1 >>= zeros_open k) l ≡ zeros_from k l
unfolding ◌>>=◌ f_from zeros_from return zeros_open
zeros_opens k [] = refl
zeros_opens k (zero ∷ l) = refl
zeros_opens k (suc b ∷ l) = let e : 2 * 0 + suc b ≡ suc b = omega arith in ap (λ (n : ℕ). zeros_open k n l) e

zero_bit : {r s t : BitReader} {b n : ℕ} (k : ℕ) → b ≡ 0 → Reads r (f 1) b s → Reads s (zeros_from (suc k)) n t → Reads r (zeros_from k) n t
unfolding zeros_open
zero_bit k e p q = alike (zeros_opens k) (and_then (zeros_open k) p (rw e q))

one_ends : {r s : BitReader} {b : ℕ} (k : ℕ) → b ≡ 1 → Reads r (f 1) b s → Reads r (zeros_from k) k s
unfolding zeros_open
one_ends k e p = alike (zeros_opens k) (and_then (zeros_open k) p (rw e done))

-- ---- a loop over zeros: k of them were read, and `count` is k up to 32
pub record Zeroing (r : BitReader) (count : ℕ) (s : BitReader) : Type 0 where
  pub k : ℕ
  pub counted : count ≡ min k 32
  pub rest : (n : ℕ) (t : BitReader) → Reads s (zeros_from k) n t → Reads r (zeros_from 0) n t

pub zeroing_start : (r : BitReader) → Zeroing r 0 r
zeroing_start r = record { k = 0; counted = refl; rest = λ n t h. h }

module _ {r s : BitReader} {count : ℕ} (h : Zeroing r count s) where
  pub zeroing_next : {b : ℕ} {t : BitReader} → b < 2 → (b ≡ 1 → ⊥) → Reads s (f 1) b t → Zeroing r (min (count + 1) 32) t
  zeroing_next {b} small e p =
      let z : b ≡ 0 = omega arith in
      record {
        k = suc h.k;
        counted = omega (arith, h.counted);
        rest = λ n u q. h.rest n u (zero_bit h.k z p q);
      }

  pub zeroing_one : {b : ℕ} {t : BitReader} → b ≡ 1 → Reads s (f 1) b t → CountsZeros r count t
  zeroing_one {b} {t} e p = (h.k, h.rest h.k t (one_ends h.k e p), h.counted)

  pub zeroing_cut : s.cut ≡ true → CountsZeros r count s
  zeroing_cut e = (h.k, h.rest h.k s (past e e refl), h.counted)

-- ---- uvlc
module _ {r s : BitReader} {count : ℕ} (z : CountsZeros r count s) where
  pub uvlc_short : {t : BitReader} → count < 32 → Reads s (skip count) tt t → Reads r uvlc tt t
  unfolding uvlc
  uvlc_short h q =
      let exact : z.0 ≡ count = omega (arith, z.2) in
      and_then (λ n. when (ltb n 32) (skip n)) z.1 (rw exact (held (lt-ltb count 32 h) q))

  pub uvlc_long : 32 ≤ count → Reads r uvlc tt s
  unfolding uvlc
  uvlc_long h = and_then (λ n. when (ltb n 32) (skip n)) z.1 (failed _ (le-ltb z.0 32 (omega (arith, z.2))))

-- what proves that a reader's methods read as their definitions do
pub ruleset bit_reads =
    (reads, flagged, no_bits, byte_room, none_skipped, one_skipped, zeroing_start, zeroing_next, zeroing_cut, uvlc_short, uvlc_long)
