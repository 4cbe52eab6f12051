-- Sixteen bytes at once. A zero byte's step is linear over the exclusive or, so the register after sixteen bytes is what each of them
-- leaves, added up. Assumes nothing.
use Prim.Native.Nat.{ℕ, zero, suc, ◌+◌, ◌*◌, ◌/◌, ◌%◌, ◌^◌, ◌≤◌, ◌<◌}
use mathlib.Core.Path.{◌≡◌, refl, sym, ap, ap₂, ◌∙◌}
use mathlib.Core.List.{List, [], ◌∷◌}
use native.Mathlib.Omega.{arith}
use lib.Bits.{bit_xor, xor_shr, xor_mod, xor_lt, xor_zero_r, xor_shifted, xor_comm}
use lib.ListN.{length, get_or, drop, drop_of_length-le}
use Rattle.std.specs.Int.{w32, to_be_bytes, from_be_bytes}
use Rattle.lists.specs.Lists.{Bytes, pick}
use Rattle.lists.proofs.Parts.{next}
use Rattle.crc.specs.Crc.{bit_step, bits_step, byte_step, crc_from}
use Rattle.crc.specs.Parts.{entry, zeros_step, left, word, word_at}
use Rattle.crc.proofs.Xor.{xor_assoc, xor_up}
use Rattle.crc.proofs.Linear.{byte_lt, zero_linear, zero_low, byte_entry}

-- ---- zero bytes
zeros_lt : (n r : ℕ) → r < 2 ^ 32 → zeros_step n r < 2 ^ 32
unfolding zeros_step
zeros_lt zero r h = h
zeros_lt (suc n) r h = byte_lt (zeros_step n r) 0

zeros_linear : (n a b : ℕ) → a < 2 ^ 32 → b < 2 ^ 32 → zeros_step n (bit_xor a b) ≡ bit_xor (zeros_step n a) (zeros_step n b)
unfolding zeros_step
zeros_linear zero a b ha hb = refl
zeros_linear (suc n) a b ha hb =
    ap (λ (r : ℕ). byte_step r 0) (zeros_linear n a b ha hb)
    ∙ zero_linear (zeros_step n a) (zeros_step n b) (zeros_lt n a ha) (zeros_lt n b hb)

zeros_none : (n : ℕ) → zeros_step n 0 ≡ 0
unfolding zeros_step byte_step bits_step bit_step pick
zeros_none zero = refl
zeros_none (suc n) = ap (λ (r : ℕ). byte_step r 0) (zeros_none n)

-- the first of them first
zeros_first : (n r : ℕ) → zeros_step (suc n) r ≡ zeros_step n (byte_step r 0)
unfolding zeros_step
zeros_first zero r = refl
zeros_first (suc n) r = ap (λ (x : ℕ). byte_step x 0) (zeros_first n r)

zeros_more : (n m r : ℕ) → zeros_step n (zeros_step m r) ≡ zeros_step (m + n) r
unfolding zeros_step
zeros_more zero m r = let e : m ≡ m + 0 = omega arith in ap (λ (k : ℕ). zeros_step k r) e
zeros_more (suc n) m r =
    let e : suc (m + n) ≡ m + suc n = omega arith in
    ap (λ (x : ℕ). byte_step x 0) (zeros_more n m r) ∙ ap (λ (k : ℕ). zeros_step k r) e

-- a byte that is not the highest only moves up
zeros_up : (n r : ℕ) → r < 2 ^ 24 → zeros_step (suc n) r ≡ zeros_step n (r * 256)
zeros_up n r h = zeros_first n r ∙ ap (zeros_step n) (zero_low r h)

-- ---- a byte is added to the register's highest byte, and a zero byte follows
absorb : (r x : ℕ) → r < 2 ^ 32 → x < 256 → byte_step r x ≡ byte_step (bit_xor r (x * 2 ^ 24)) 0
absorb r x hr hx =
    let w : x * 2 ^ 24 < 2 ^ 32 = omega arith in
    let low : bit_xor r (x * 2 ^ 24) % 2 ^ 24 ≡ r % 2 ^ 24 =
    xor_mod r (x * 2 ^ 24) 24
    ∙ (let z : x * 2 ^ 24 % 2 ^ 24 ≡ 0 = omega arith in ap (bit_xor (r % 2 ^ 24)) z)
    ∙ xor_zero_r (r % 2 ^ 24) in
    let top : bit_xor r (x * 2 ^ 24) / 2 ^ 24 ≡ bit_xor (r / 2 ^ 24) x =
    xor_shr r (x * 2 ^ 24) 24 ∙ (let z : x * 2 ^ 24 / 2 ^ 24 ≡ x = omega arith in ap (bit_xor (r / 2 ^ 24)) z) in
    byte_entry r x hr hx
    ∙ sym
    (byte_entry (bit_xor r (x * 2 ^ 24)) 0 (xor_lt 32 r (x * 2 ^ 24) hr w) (omega arith)
    ∙ ap₂ (λ (m n : ℕ). bit_xor (m * 256) (entry n)) low (ap (λ (n : ℕ). bit_xor n 0) top ∙ xor_zero_r (bit_xor (r / 2 ^ 24) x)))

-- ---- four bytes are added to the register, and four zero bytes follow
-- one byte more, where n of its predecessors have gone in and `low`, moved up n bytes, is it in the highest byte
go_on : (n r x low : ℕ) → r < 2 ^ 32 → x < 256 → low < 2 ^ 32 → zeros_step n low ≡ x * 2 ^ 24
    → byte_step (zeros_step n r) x ≡ zeros_step (suc n) (bit_xor r low)
unfolding zeros_step
go_on n r x low hr hx hl e =
    absorb (zeros_step n r) x (zeros_lt n r hr) hx
    ∙ ap (λ (y : ℕ). byte_step (bit_xor (zeros_step n r) y) 0) (sym e)
    ∙ ap (λ (y : ℕ). byte_step y 0) (sym (zeros_linear n r low hr hl))

module _ (x : ℕ) (h : x < 256) where
  pub up_one : zeros_step 1 (x * 2 ^ 16) ≡ x * 2 ^ 24
  unfolding zeros_step
  up_one = zero_low (x * 2 ^ 16) (omega arith) ∙ omega arith

  pub up_two : zeros_step 2 (x * 2 ^ 8) ≡ x * 2 ^ 24
  up_two = zeros_up 1 (x * 2 ^ 8) (omega arith) ∙ (let e : x * 2 ^ 8 * 256 ≡ x * 2 ^ 16 = omega arith in ap (zeros_step 1) e) ∙ up_one

  pub up_three : zeros_step 3 x ≡ x * 2 ^ 24
  up_three = zeros_up 2 x (omega arith) ∙ (let e : x * 256 ≡ x * 2 ^ 8 = omega arith in ap (zeros_step 2) e) ∙ up_two

-- the register with four bytes added
module _ (r a b c d : ℕ) (hr : r < 2 ^ 32) (ha : a < 256) (hb : b < 256) (hc : c < 256) (hd : d < 256) where
  regroup : bit_xor (bit_xor (bit_xor (bit_xor r (a * 2 ^ 24)) (b * 2 ^ 16)) (c * 2 ^ 8)) d ≡ bit_xor r (word a b c d)
  regroup =
      xor_assoc (bit_xor (bit_xor r (a * 2 ^ 24)) (b * 2 ^ 16)) (c * 2 ^ 8) d
      ∙ ap (λ (x : ℕ). bit_xor x (bit_xor (c * 2 ^ 8) d)) (xor_assoc r (a * 2 ^ 24) (b * 2 ^ 16))
      ∙ xor_assoc r (bit_xor (a * 2 ^ 24) (b * 2 ^ 16)) (bit_xor (c * 2 ^ 8) d)

  pub four_bytes : byte_step (byte_step (byte_step (byte_step r a) b) c) d ≡ zeros_step 4 (bit_xor r (word a b c d))
  unfolding zeros_step
  four_bytes =
      let r1 : ℕ = bit_xor r (a * 2 ^ 24) in
      let r2 : ℕ = bit_xor r1 (b * 2 ^ 16) in
      let r3 : ℕ = bit_xor r2 (c * 2 ^ 8) in
      let h1 : r1 < 2 ^ 32 = xor_lt 32 r (a * 2 ^ 24) hr (omega arith) in
      let h2 : r2 < 2 ^ 32 = xor_lt 32 r1 (b * 2 ^ 16) h1 (omega arith) in
      let h3 : r3 < 2 ^ 32 = xor_lt 32 r2 (c * 2 ^ 8) h2 (omega arith) in
      ap (λ (x : ℕ). byte_step (byte_step (byte_step x b) c) d) (go_on 0 r a (a * 2 ^ 24) hr ha (omega arith) refl)
      ∙ ap (λ (x : ℕ). byte_step (byte_step x c) d) (go_on 1 r1 b (b * 2 ^ 16) h1 hb (omega arith) (up_one b hb))
      ∙ ap (λ (x : ℕ). byte_step x d) (go_on 2 r2 c (c * 2 ^ 8) h2 hc (omega arith) (up_two c hc))
      ∙ go_on 3 r3 d d h3 hd (omega arith) (up_three d hd)
      ∙ ap (zeros_step 4) regroup

-- ---- what four bytes leave after themselves and n zero bytes
module _ (n a b c d : ℕ) (ha : a < 256) (hb : b < 256) (hc : c < 256) (hd : d < 256) where
  moved : (m k x low : ℕ) → zeros_step m low ≡ x * 2 ^ 24 → m + (k + 1) ≡ n + 4 → zeros_step (n + 4) low ≡ left k x
  moved m k x low e f = ap (λ (j : ℕ). zeros_step j low) (sym f) ∙ sym (zeros_more (k + 1) m low) ∙ ap (zeros_step (k + 1)) e

  pub word_leaves : zeros_step (n + 4) (word a b c d)
      ≡ bit_xor (bit_xor (left (n + 3) a) (left (n + 2) b)) (bit_xor (left (n + 1) c) (left n d))
  unfolding zeros_step
  word_leaves =
      zeros_linear (n + 4) (bit_xor (a * 2 ^ 24) (b * 2 ^ 16)) (bit_xor (c * 2 ^ 8) d)
      (xor_lt 32 (a * 2 ^ 24) (b * 2 ^ 16) (omega arith) (omega arith))
      (xor_lt 32 (c * 2 ^ 8) d (omega arith) (omega arith))
      ∙ ap₂ bit_xor
      (zeros_linear (n + 4) (a * 2 ^ 24) (b * 2 ^ 16) (omega arith) (omega arith)
      ∙ ap₂ bit_xor (moved 0 (n + 3) a (a * 2 ^ 24) refl (omega arith)) (moved 1 (n + 2) b (b * 2 ^ 16) (up_one b hb) (omega arith)))
      (zeros_linear (n + 4) (c * 2 ^ 8) d (omega arith) (omega arith)
      ∙ ap₂ bit_xor (moved 2 (n + 1) c (c * 2 ^ 8) (up_two c hc) (omega arith)) (moved 3 n d d (up_three d hd) (omega arith)))

-- ---- the register's four bytes
pub word_of : (r : ℕ) → r < 2 ^ 32 → word (r / 2 ^ 24) (r / 2 ^ 16 % 256) (r / 2 ^ 8 % 256) (r % 256) ≡ r
word_of r h =
    let hi : bit_xor (r / 2 ^ 24 * 2 ^ 24) (r / 2 ^ 16 % 256 * 2 ^ 16) ≡ r / 2 ^ 16 * 2 ^ 16 =
    xor_shifted (r / 2 ^ 24) 24 (r / 2 ^ 16 % 256 * 2 ^ 16) (omega arith) ∙ omega arith in
    let lo : bit_xor (r / 2 ^ 8 % 256 * 2 ^ 8) (r % 256) ≡ r % 2 ^ 16 =
    xor_shifted (r / 2 ^ 8 % 256) 8 (r % 256) (omega arith) ∙ omega arith in
    ap₂ bit_xor hi lo ∙ xor_shifted (r / 2 ^ 16) 16 (r % 2 ^ 16) (omega arith) ∙ omega arith

-- what its four bytes leave after themselves and n zero bytes
pub four_leave : (n w : ℕ) → w < 2 ^ 32
    → zeros_step (n + 4) w
    ≡ bit_xor
    (bit_xor (left (n + 3) (w / 2 ^ 24)) (left (n + 2) (w / 2 ^ 16 % 256)))
    (bit_xor (left (n + 1) (w / 2 ^ 8 % 256)) (left n (w % 256)))
four_leave n w h =
    ap (zeros_step (n + 4)) (sym (word_of w h))
    ∙ word_leaves n (w / 2 ^ 24) (w / 2 ^ 16 % 256) (w / 2 ^ 8 % 256) (w % 256) (omega arith) (omega arith) (omega arith) (omega arith)

-- the same, of the bytes that the library gives
pub bytes_leave : (n w p q r s : ℕ) (l : List ℕ) → w < 2 ^ 32 → l ≡ to_be_bytes w32 w
    → (p ≡ left (n + 3) (get_or l 0 0)) × (q ≡ left (n + 2) (get_or l 1 0)) × (r ≡ left (n + 1) (get_or l 2 0))
    × (s ≡ left n (get_or l 3 0)) → bit_xor (bit_xor p q) (bit_xor r s) ≡ zeros_step (n + 4) w
bytes_leave n w p q r s l h is e =
    let byte : (k i b : ℕ) → get_or (to_be_bytes w32 w) i 0 ≡ b → left k (get_or l i 0) ≡ left k b =
    λ k i b f. ap (λ (t : List ℕ). left k (get_or t i 0)) is ∙ ap (left k) f in
    ap₂ bit_xor
    (ap₂ bit_xor (e.0 ∙ byte (n + 3) 0 (w / 2 ^ 24) (omega arith)) (e.1 ∙ byte (n + 2) 1 (w / 2 ^ 16 % 256) refl))
    (ap₂ bit_xor (e.2 ∙ byte (n + 1) 2 (w / 2 ^ 8 % 256) refl) (e.3 ∙ byte n 3 (w % 256) refl))
    ∙ sym (four_leave n w h)

-- the number that the library makes of four bytes
pub be_word : (a b c d : ℕ) → b < 256 → c < 256 → d < 256 → from_be_bytes w32 (a ∷ b ∷ c ∷ d ∷ []) ≡ word a b c d
be_word a b c d hb hc hd =
    let upper : bit_xor (a * 2 ^ 24) (b * 2 ^ 16) ≡ (a * 2 ^ 8 + b) * 2 ^ 16 = xor_shifted a 24 (b * 2 ^ 16) (omega arith) ∙ omega arith in
    let lower : bit_xor (c * 2 ^ 8) d ≡ c * 2 ^ 8 + d = xor_shifted c 8 d (omega arith) in
    sym (ap₂ bit_xor upper lower ∙ xor_shifted (a * 2 ^ 8 + b) 16 (c * 2 ^ 8 + d) (omega arith) ∙ omega arith)

-- ---- four bytes more
word_lt : (a b c d : ℕ) → a < 256 → b < 256 → c < 256 → d < 256 → word a b c d < 2 ^ 32
word_lt a b c d ha hb hc hd =
    xor_lt 32 (bit_xor (a * 2 ^ 24) (b * 2 ^ 16)) (bit_xor (c * 2 ^ 8) d) (xor_lt 32 (a * 2 ^ 24) (b * 2 ^ 16) (omega arith) (omega arith))
    (xor_lt 32 (c * 2 ^ 8) d (omega arith) (omega arith))

-- what they leave is added to what the register leaves
word_more : (m w : ℕ) → m < 2 ^ 32 → w < 2 ^ 32 → zeros_step 4 (bit_xor m w) ≡ bit_xor (zeros_step 4 w) (zeros_step 4 m)
word_more m w hm hw = ap (zeros_step 4) (xor_comm m w) ∙ zeros_linear 4 w m hw hm

-- ---- what bytes leave is linear
pub left_linear : (k a b : ℕ) → a < 256 → b < 256 → left k (bit_xor a b) ≡ bit_xor (left k a) (left k b)
left_linear k a b ha hb =
    ap (zeros_step (k + 1)) (xor_up 24 a b) ∙ zeros_linear (k + 1) (a * 2 ^ 24) (b * 2 ^ 24) (omega arith) (omega arith)

pub left_zero : (k : ℕ) → left k 0 ≡ 0
left_zero k = zeros_none (k + 1)

-- without a zero byte behind it
pub left_none : (x : ℕ) → left 0 x ≡ entry x
unfolding zeros_step byte_step entry
left_none x = refl

-- ---- bytes of a string
next4 : (s : Bytes) (i : ℕ) → i + 4 ≤ length s
    → drop i s ≡ get_or s i 0 ∷ get_or s (i + 1) 0 ∷ get_or s (i + 2) 0 ∷ get_or s (i + 3) 0 ∷ drop (i + 4) s
next4 s i h =
    let e2 : i + 1 + 1 ≡ i + 2 = omega arith in
    let e3 : i + 2 + 1 ≡ i + 3 = omega arith in
    let e4 : i + 3 + 1 ≡ i + 4 = omega arith in
    rw (next s i (omega arith), next s (i + 1) (omega arith), e2, next s (i + 2) (omega arith), e3, next s (i + 3) (omega arith), e4)

module _ (r : ℕ) (s : Bytes) (i : ℕ) (hr : r < 2 ^ 32) (byte : (j : ℕ) → get_or s j 0 < 256) where
  -- four bytes
  pub by_four : i + 4 ≤ length s → crc_from r (drop i s) ≡ crc_from (zeros_step 4 (bit_xor r (word_at s i))) (drop (i + 4) s)
  unfolding crc_from
  by_four h =
      ap (crc_from r) (next4 s i h)
      ∙ ap (λ (x : ℕ). crc_from x (drop (i + 4) s)) (four_bytes r _ _ _ _ hr (byte i) (byte (i + 1)) (byte (i + 2)) (byte (i + 3)))

-- sixteen bytes: the first four are added to the register, the others to nothing
module _ (r : ℕ) (s : Bytes) (i : ℕ) (hr : r < 2 ^ 32) (byte : (j : ℕ) → get_or s j 0 < 256) where
  word_at_lt : (j : ℕ) → word_at s j < 2 ^ 32
  word_at_lt j = word_lt _ _ _ _ (byte j) (byte (j + 1)) (byte (j + 2)) (byte (j + 3))

  -- the register with the first four, and the others, each four by themselves
  abbrev w0 : ℕ
  w0 = bit_xor r (word_at s i)

  abbrev w1 : ℕ
  w1 = word_at s (i + 4)

  abbrev w2 : ℕ
  w2 = word_at s (i + 8)

  abbrev w3 : ℕ
  w3 = word_at s (i + 12)

  w0_lt : w0 < 2 ^ 32
  w0_lt = xor_lt 32 r (word_at s i) hr (word_at_lt i)

  -- the register after eight, twelve and sixteen bytes
  eight : zeros_step 4 (bit_xor (zeros_step 4 w0) (word_at s (i + 4))) ≡ bit_xor (zeros_step 4 w1) (zeros_step 8 w0)
  eight =
      word_more (zeros_step 4 w0) (word_at s (i + 4)) (zeros_lt 4 w0 w0_lt) (word_at_lt (i + 4))
      ∙ ap (bit_xor (zeros_step 4 w1)) (zeros_more 4 4 w0)

  eight_lt : bit_xor (zeros_step 4 w1) (zeros_step 8 w0) < 2 ^ 32
  eight_lt = xor_lt 32 (zeros_step 4 w1) (zeros_step 8 w0) (zeros_lt 4 w1 (word_at_lt (i + 4))) (zeros_lt 8 w0 w0_lt)

  twelve : zeros_step 4 (bit_xor (bit_xor (zeros_step 4 w1) (zeros_step 8 w0)) (word_at s (i + 8)))
      ≡ bit_xor (zeros_step 4 w2) (bit_xor (zeros_step 8 w1) (zeros_step 12 w0))
  twelve =
      word_more (bit_xor (zeros_step 4 w1) (zeros_step 8 w0)) (word_at s (i + 8)) eight_lt (word_at_lt (i + 8))
      ∙ ap (bit_xor (zeros_step 4 w2))
      (zeros_linear 4 (zeros_step 4 w1) (zeros_step 8 w0) (zeros_lt 4 w1 (word_at_lt (i + 4))) (zeros_lt 8 w0 w0_lt)
      ∙ ap₂ bit_xor (zeros_more 4 4 w1) (zeros_more 4 8 w0))

  twelve_lt : bit_xor (zeros_step 4 w2) (bit_xor (zeros_step 8 w1) (zeros_step 12 w0)) < 2 ^ 32
  twelve_lt =
      xor_lt 32 (zeros_step 4 w2) (bit_xor (zeros_step 8 w1) (zeros_step 12 w0)) (zeros_lt 4 w2 (word_at_lt (i + 8)))
      (xor_lt 32 (zeros_step 8 w1) (zeros_step 12 w0) (zeros_lt 8 w1 (word_at_lt (i + 4))) (zeros_lt 12 w0 w0_lt))

  sixteen : zeros_step 4 (bit_xor (bit_xor (zeros_step 4 w2) (bit_xor (zeros_step 8 w1) (zeros_step 12 w0))) (word_at s (i + 12)))
      ≡ bit_xor (zeros_step 4 w3) (bit_xor (zeros_step 8 w2) (bit_xor (zeros_step 12 w1) (zeros_step 16 w0)))
  sixteen =
      word_more (bit_xor (zeros_step 4 w2) (bit_xor (zeros_step 8 w1) (zeros_step 12 w0))) (word_at s (i + 12)) twelve_lt
      (word_at_lt (i + 12))
      ∙ ap (bit_xor (zeros_step 4 w3))
      (zeros_linear 4 (zeros_step 4 w2) (bit_xor (zeros_step 8 w1) (zeros_step 12 w0)) (zeros_lt 4 w2 (word_at_lt (i + 8)))
      (xor_lt 32 (zeros_step 8 w1) (zeros_step 12 w0) (zeros_lt 8 w1 (word_at_lt (i + 4))) (zeros_lt 12 w0 w0_lt))
      ∙ ap₂ bit_xor (zeros_more 4 4 w2)
      (zeros_linear 4 (zeros_step 8 w1) (zeros_step 12 w0) (zeros_lt 8 w1 (word_at_lt (i + 4))) (zeros_lt 12 w0 w0_lt)
      ∙ ap₂ bit_xor (zeros_more 4 8 w1) (zeros_more 4 12 w0)))

  pub by_sixteen : i + 16 ≤ length s
      → crc_from r (drop i s)
      ≡ crc_from (bit_xor (bit_xor (bit_xor (zeros_step 4 w3) (zeros_step 8 w2)) (zeros_step 12 w1)) (zeros_step 16 w0)) (drop (i + 16) s)
  by_sixteen h =
      let four : (m n : ℕ) (j k : ℕ) → m < 2 ^ 32 → j + 4 ≡ k → k ≤ length s → zeros_step 4 (bit_xor m (word_at s j)) ≡ n
      → crc_from m (drop j s) ≡ crc_from n (drop k s) =
      λ m n j k hm e l f. by_four m s j hm byte (omega arith) ∙ ap₂ (λ (x y : ℕ). crc_from x (drop y s)) f e in
      four r (zeros_step 4 w0) i (i + 4) hr refl (omega arith) refl
      ∙ four (zeros_step 4 w0) _ (i + 4) (i + 8) (zeros_lt 4 w0 w0_lt) (omega arith) (omega arith) eight
      ∙ four _ _ (i + 8) (i + 12) eight_lt (omega arith) (omega arith) twelve
      ∙ four _ _ (i + 12) (i + 16) twelve_lt (omega arith) (omega arith) sixteen
      ∙ ap (λ (x : ℕ). crc_from x (drop (i + 16) s))
      (sym (xor_assoc (zeros_step 4 w3) (zeros_step 8 w2) (bit_xor (zeros_step 12 w1) (zeros_step 16 w0)))
      ∙ sym (xor_assoc (bit_xor (zeros_step 4 w3) (zeros_step 8 w2)) (zeros_step 12 w1) (zeros_step 16 w0)))

-- ---- no more bytes than these
module _ (r : ℕ) (s : Bytes) (hr : r < 2 ^ 32) (byte : (j : ℕ) → get_or s j 0 < 256) where
  all_gone : (n x : ℕ) → length s ≡ n → crc_from x (drop n s) ≡ x
  unfolding crc_from
  all_gone n x e = ap (crc_from x) (drop_of_length-le s (omega (arith, e)))

  pub four_all : length s ≡ 4 → zeros_step 4 (bit_xor r (word_at s 0)) ≡ crc_from r s
  four_all e = sym (by_four r s 0 hr byte (omega (arith, e)) ∙ all_gone 4 _ e)

  pub sixteen_all : length s ≡ 16
      → bit_xor (bit_xor (bit_xor (zeros_step 4 (word_at s 12)) (zeros_step 8 (word_at s 8))) (zeros_step 12 (word_at s 4)))
      (zeros_step 16 (bit_xor r (word_at s 0))) ≡ crc_from r s
  sixteen_all e = sym (by_sixteen r s 0 hr byte (omega (arith, e)) ∙ all_gone 16 _ e)
