-- leb128: one byte more, how large its parts are, and the bytes read so far beside those to come. Assumes nothing.
use Prim.Native.Nat.{ℕ, zero, suc, ◌+◌, ◌-◌, ◌*◌, ◌%◌, ◌^◌, ◌≤◌, ◌<◌}
use mathlib.Core.Bool.{Bool, true, false}
use mathlib.Core.Path.{◌≡◌, refl, sym, ap, ap₂, subst, ◌∙◌}
use mathlib.Core.List.{[], ◌∷◌, ◌++◌}
use native.Mathlib.Omega.{arith}
use native.Mathlib.Nat.{mul-add, mul_assoc, mul-le-mul_left, pow-le-pow_right, pow-suc}
use native.Mathlib.Numerals.{add-one}
use Rattle.std.specs.Prelude.{Option, Some, None}
use lib.Dec.{ltb}
use lib.ListN.{length, take, drop, get_or, drop_of_length-le}
use Rattle.lists.specs.Lists.{Bytes, pick}
use Rattle.lists.specs.Bytes.{bit, bits}
use Rattle.lists.proofs.Picks.{by_true, by_false, by_eq, by_ne}
use Rattle.lists.proofs.Tests.{case, apart}
use Rattle.lists.proofs.Parts.{next}
use Rattle.obu.specs.declared.leb128.Leb128.{Leb128}
use Rattle.obu.specs.Leb128.{leb_of, low_first, leb_within, in_range, leb128}

-- ---- one byte
seven_bits : (b : ℕ) → bits 6 0 b ≡ b % 128
seven_bits b = omega arith

last_byte : (n b : ℕ) (s : Bytes) → b < 128 → leb_of (b % 128) 1 ≡ leb_within (suc n) (b ∷ s)
unfolding leb_within
last_byte n b s h =
    let clear : (bits 7 7 b ≡ 1 → ⊥) = λ e. omega arith in
    by_ne _ clear (ap (λ (v : ℕ). leb_of v 1) (sym (seven_bits b)))

more_bytes : (n b : ℕ) (s : Bytes) → 128 ≤ b → b < 256 → low_first (b % 128) (leb_within n s) ≡ leb_within (suc n) (b ∷ s)
unfolding leb_within
more_bytes n b s h k =
    let set : bits 7 7 b ≡ 1 = omega arith in
    by_eq _ set (ap (λ (v : ℕ). low_first v (leb_within n s)) (sym (seven_bits b)))

-- ---- what the bytes read so far and the bytes to come say together: i bytes have given `value`, which is below `scale`
pub gathered : ℕ → ℕ → ℕ → Option Leb128 → Option Leb128
gathered value scale i (Some l) = leb_of (value + scale * l.value) (i + l.width)
gathered value scale i None = None

nothing_yet : (r : Option Leb128) → r ≡ gathered 0 1 0 r
unfolding gathered
nothing_yet (Some l) =
    let e : l.value ≡ 0 + 1 * l.value = omega arith in
    let f : l.width ≡ 0 + l.width = omega arith in
    ap₂ leb_of e f
nothing_yet None = refl

one_more : (value scale i low : ℕ) (r : Option Leb128)
    → gathered value scale i (low_first low r) ≡ gathered (value + scale * low) (scale * 128) (i + 1) r
unfolding gathered low_first
one_more value scale i low (Some l) =
    let e : value + scale * (low + 128 * l.value) ≡ value + scale * low + scale * 128 * l.value =
    omega (arith, mul-add scale low (128 * l.value), mul_assoc scale 128 l.value) in
    let f : i + suc l.width ≡ i + 1 + l.width = omega arith in
    ap₂ leb_of e f
one_more value scale i low None = refl

pub record SoFar (s : Bytes) (value scale i : ℕ) : Type 0 where
  pub within : i ≤ 8
  pub scaled : scale ≡ 128 ^ i
  pub small : value < scale
  pub same : leb_within 8 s ≡ gathered value scale i (leb_within (8 - i) (drop i s))

pub so_far_start : (s : Bytes) → SoFar s 0 1 0
so_far_start s = record { within = omega arith; scaled = refl; small = omega arith; same = nothing_yet (leb_within 8 s) }

-- seven bits of a byte
low_most : (b : ℕ) → b % 128 ≤ 127
low_most b = omega arith

module _ {s : Bytes} {value scale i : ℕ} (h : SoFar s value scale i) where
  -- eight bytes had their top bit set
  pub so_far_long : 8 ≤ i → None ≡ leb128 s
  unfolding leb128 gathered leb_within in_range
  so_far_long k =
      let e : 8 - i ≡ 0 = omega arith in
      sym (ap in_range (h.same ∙ ap (λ (n : ℕ). gathered value scale i (leb_within n (drop i s))) e))

  module _ (k : i < 8) where
    -- the scale, its product with seven bits and the new value fit
    pub scale_fits : scale ≤ 2 ^ 49
    scale_fits = subst (λ (n : ℕ). n ≤ 2 ^ 49) (sym h.scaled) (pow-le-pow_right (omega arith) {i = i} {j = 7} (omega arith))

    pub product_fits : (b : ℕ) → scale * (b % 128) < 2 ^ 64
    product_fits b = omega (arith, mul-le-mul_left scale (low_most b), scale_fits)

    pub value_fits : (b : ℕ) → value + scale * (b % 128) < 2 ^ 64
    value_fits b = omega (arith, mul-le-mul_left scale (low_most b), scale_fits)

    one_left : 8 - i ≡ suc (8 - (i + 1))
    one_left = omega arith

    -- the bytes end with the top bit set
    pub so_far_cut : length s ≤ i → None ≡ leb128 s
    unfolding leb128 gathered leb_within in_range
    so_far_cut l = sym (ap in_range
        (h.same ∙ ap₂ (λ (n : ℕ) (t : Bytes). gathered value scale i (leb_within n t)) one_left (drop_of_length-le s l)))

    module _ (l : i < length s) where
      -- the next byte, as the definition has it
      at_byte : leb_within 8 s ≡ gathered value scale i (leb_within (suc (8 - (i + 1))) (get_or s i 0 ∷ drop (i + 1) s))
      at_byte = h.same ∙ ap₂ (λ (n : ℕ) (t : Bytes). gathered value scale i (leb_within n t)) one_left (next s i l)

      -- a byte with its top bit clear is the last
      last_read : get_or s i 0 < 128 → in_range (leb_of (value + scale * (get_or s i 0 % 128)) (i + 1)) ≡ leb128 s
      unfolding leb128 gathered
      last_read m = sym (ap in_range
          (at_byte ∙ ap (gathered value scale i) (sym (last_byte (8 - (i + 1)) (get_or s i 0) (drop (i + 1) s) m))))

      -- a byte with its top bit set
      more_read : 128 ≤ get_or s i 0 → get_or s i 0 < 256 → SoFar s (value + scale * (get_or s i 0 % 128)) (scale * 128) (i + 1)
      more_read m n =
          let b : ℕ = get_or s i 0 in
          record {
            within = omega arith;
            scaled = ap (λ (x : ℕ). x * 128) h.scaled ∙ sym (rw (add-one i) (pow-suc 128 i));
            small = omega (arith, mul-le-mul_left scale (low_most b));
            same =
                at_byte ∙ ap (gathered value scale i) (sym (more_bytes (8 - (i + 1)) b (drop (i + 1) s) m n))
                ∙ one_more value scale i (b % 128) (leb_within (8 - (i + 1)) (drop (i + 1) s));
          }

      -- the same of the byte that was read
      pub so_far_last : (b : ℕ) → b ≡ get_or s i 0 → b < 128 → in_range (leb_of (value + scale * (b % 128)) (i + 1)) ≡ leb128 s
      so_far_last b e = subst (λ (x : ℕ). x < 128 → in_range (leb_of (value + scale * (x % 128)) (i + 1)) ≡ leb128 s) (sym e) last_read

      pub so_far_more : (b : ℕ) → b ≡ get_or s i 0 → 128 ≤ b → b < 256 → SoFar s (value + scale * (b % 128)) (scale * 128) (i + 1)
      so_far_more b e =
          subst (λ (x : ℕ). 128 ≤ x → x < 256 → SoFar s (value + scale * (x % 128)) (scale * 128) (i + 1)) (sym e) more_read

-- ---- a leb128 takes at most 8 bytes, and no more than there are
abbrev Taken : ℕ → Bytes → Option Leb128 → Type 0
Taken n s (Some l) = (l.width ≤ n) × (l.width ≤ length s)
Taken n s None = Unit {0}

taken_below : (low n b : ℕ) (s : Bytes) (r : Option Leb128) → Taken n s r → Taken (suc n) (b ∷ s) (low_first low r)
unfolding low_first
taken_below low n b s (Some l) h = omega arith
taken_below low n b s None h = tt

taken_pick : (n : ℕ) (s : Bytes) (t : Bool) (q r : Option Leb128) → Taken n s q → Taken n s r → Taken n s (pick t q r)
unfolding pick
taken_pick n s true q r h k = h
taken_pick n s false q r h k = k

taken : (n : ℕ) (s : Bytes) → Taken n s (leb_within n s)
unfolding leb_within
taken zero s = tt
taken (suc n) [] = tt
taken (suc n) (b ∷ s) = taken_pick (suc n) (b ∷ s) (bit 7 b) _ _ (taken_below (bits 6 0 b) n b s (leb_within n s) (taken n s)) (omega arith)

taken_range : (n : ℕ) (s : Bytes) (r : Option Leb128) → Taken n s r → Taken n s (in_range r)
unfolding in_range
taken_range n s (Some l) h = taken_pick n s (ltb 4294967295 l.value) None (Some l) tt h
taken_range n s None h = tt

pub leb_taken : (s : Bytes) (l : Leb128) → leb128 s ≡ Some l → (l.width ≤ 8) × (l.width ≤ length s)
unfolding leb128
leb_taken s l e = subst (Taken 8 s) e (taken_range 8 s (leb_within 8 s) (taken 8 s))

-- ---- of the bytes, those after the eighth change nothing
leb_take : (n k : ℕ) (s : Bytes) → n ≤ k → leb_within n (take k s) ≡ leb_within n s
unfolding leb_within
leb_take zero k s h = refl
leb_take (suc n) zero s h = absurd (omega arith)
leb_take (suc n) (suc k) [] h = refl
leb_take (suc n) (suc k) (b ∷ s) h =
    ap (λ (r : Option Leb128). pick (bit 7 b) (low_first (bits 6 0 b) r) (leb_of (bits 6 0 b) 1)) (leb_take n k s (omega arith))

pub first_eight : (k : ℕ) (s : Bytes) → 8 ≤ k → leb128 (take k s) ≡ leb128 s
unfolding leb128
first_eight k s h = ap in_range (leb_take 8 k s h)

-- ---- bytes behind a leb128 change nothing
low_bad : (low : ℕ) (r : Option Leb128) → (low_first low r ≡ None → ⊥) → r ≡ None → ⊥
unfolding low_first
low_bad low r h e = h (ap (low_first low) e)

leb_more : (n : ℕ) (s r : Bytes) → (leb_within n s ≡ None → ⊥) → leb_within n (s ++ r) ≡ leb_within n s
unfolding leb_within
leb_more zero s r h = refl
leb_more (suc n) [] r h = absurd (h refl)
leb_more (suc n) (b ∷ s) r h =
    case (bit 7 b)
    (λ e.
    let on : low_first (bits 6 0 b) (leb_within n s) ≡ leb_within (suc n) (b ∷ s) = by_true _ e refl in
    let k = low_bad (bits 6 0 b) (leb_within n s) (λ z. h (sym on ∙ z)) in
    ap (λ (l : Option Leb128). pick (bit 7 b) (low_first (bits 6 0 b) l) (leb_of (bits 6 0 b) 1)) (leb_more n s r k))
    (λ e.
    let last : (l : Option Leb128) → leb_of (bits 6 0 b) 1 ≡ pick (bit 7 b) (low_first (bits 6 0 b) l) (leb_of (bits 6 0 b) 1) =
    λ l. by_false _ e refl in
    sym (last (leb_within n (s ++ r))) ∙ last (leb_within n s))

pub leb_behind : (s r : Bytes) (l : Leb128) → leb128 s ≡ Some l → leb128 (s ++ r) ≡ Some l
unfolding leb128 in_range
leb_behind s r l e =
    let some : (leb_within 8 s ≡ None → ⊥) = λ z. let k : None ≡ Some l = sym (ap in_range z) ∙ e in apart cc in
    ap in_range (leb_more 8 s r some) ∙ e
