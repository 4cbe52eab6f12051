-- Two packets whose bytes are equal but for those of the PCR: they have the same header and flags (`same_front`), so that one with a PCR
-- and one without are never equal (`first_alone`, `second_alone`). Assumes nothing.
use Rattle.std.specs.Prelude.{Some}
use Prim.Native.Nat.{ℕ, ◌+◌, ◌%◌, ◌<◌, ◌≤◌}
use mathlib.Core.Bool.{Bool, true, false, not, ◌&&◌, and_assoc}
use mathlib.Core.Path.{◌≡◌, refl, sym, ap, ◌∙◌}
use mathlib.Core.List.{[], ◌∷◌, ◌++◌}
use native.Mathlib.Omega.{arith}
use borrow.Author.Tests.{ltb-true, ltb-false, ne_eqb, not-true}
use lib.Dec.{eqb, ltb}
use lib.ListN.{length, take, drop, get_or-append, get_or-eq_default}
use lib.Seq.{get_or-take, length-take-le}
use Rattle.lists.specs.Lists.{Bytes, pick, same}
use Rattle.lists.specs.Bytes.{byte, bit}
use Rattle.lists.proofs.Tests.{case, clash, and_both, same_bytes}
use Rattle.packet.specs.Header.{continuity_counter, has_payload, has_adaptation_field, adaptation_field_length}
use Rattle.packet.specs.Header.{adaptation_flags, discontinuity_indicator, pcr_flag}
use Rattle.packet.specs.Counter.{due, counter_right, without_pcr, bytes_same, copy_of}

-- ---- the first six bytes
-- a packet with the PCR flag has so many
no_flag : (b : Bool) → bit 4 (pick b 0 0) ≡ false
unfolding pick
no_flag true = refl
no_flag false = refl

flag_long : (p : Bytes) → pcr_flag p ≡ true → 6 ≤ length p
unfolding adaptation_flags
flag_long p e =
    case (ltb (length p) 6)
    (λ t. let z : byte p 5 ≡ 0 = get_or-eq_default p 0 (omega (arith, ltb-true (length p) 6 t)) in
    clash e (ap (λ (n : ℕ). bit 4 (pick (has_adaptation_field p && ltb 0 (adaptation_field_length p)) n 0)) z ∙ no_flag _))
    (ltb-false (length p) 6)

front_bytes : (p : Bytes) (i : ℕ) → i < 6 → byte (without_pcr p) i ≡ byte p i
unfolding without_pcr pick
front_bytes p i h = go (pcr_flag p) refl
  where
    go : (b : Bool) → pcr_flag p ≡ b → byte (pick b (take 6 p ++ drop 12 p) p) i ≡ byte p i
    go true e = get_or-append (take 6 p) (drop 12 p) 0 i (omega (arith, length-take-le 6 p (flag_long p e))) ∙ get_or-take 6 p i 0 h
    go false e = refl

pub same_front : (p q : Bytes) → bytes_same p q ≡ true → (i : ℕ) → i < 6 → byte p i ≡ byte q i
same_front p q e i h = sym (front_bytes p i h) ∙ ap (λ (s : Bytes). byte s i) (same_bytes (without_pcr p) (without_pcr q) e)
    ∙ front_bytes q i h

-- so the flags are the same
pub same_flags : (p q : Bytes) → bytes_same p q ≡ true → adaptation_flags p ≡ adaptation_flags q
unfolding adaptation_flags
same_flags p q e =
    let three = same_front p q e 3 (omega arith) in
    let four = same_front p q e 4 (omega arith) in
    let five = same_front p q e 5 (omega arith) in
    rw (three, four, five)

-- ---- the comparison
same_append : (s t a b : Bytes) → length s ≡ length t → same (s ++ a) (t ++ b) ≡ (same s t && same a b)
unfolding same
same_append [] [] a b e = refl
same_append [] (y ∷ t) a b e = absurd (omega arith)
same_append (x ∷ s) [] a b e = absurd (omega arith)
same_append (x ∷ s) (y ∷ t) a b e = ap (λ (r : Bool). eqb x y && r) (same_append s t a b (omega arith))
    ∙ sym (and_assoc (eqb x y) (same s t) (same a b))

module _ (p q : Bytes) where
  pub first_alone : pcr_flag p ≡ true → pcr_flag q ≡ false → false ≡ bytes_same p q
  first_alone e f = case (bytes_same p q) (λ t. clash e (ap (bit 4) (same_flags p q t) ∙ f)) sym

  pub second_alone : pcr_flag p ≡ false → pcr_flag q ≡ true → false ≡ bytes_same p q
  second_alone e f = case (bytes_same p q) (λ t. clash f (ap (bit 4) (sym (same_flags p q t)) ∙ e)) sym

  pub neither_has : pcr_flag p ≡ false → pcr_flag q ≡ false → same p q ≡ bytes_same p q
  unfolding without_pcr pick
  neither_has e f = rw (e, f)

  -- both have: the front and the rest
  pub both_have : pcr_flag p ≡ true → pcr_flag q ≡ true → (same (take 6 p) (take 6 q) && same (drop 12 p) (drop 12 q)) ≡ bytes_same p q
  unfolding without_pcr pick
  both_have e f = rw (e, f)
      (sym (same_append (take 6 p) (take 6 q) (drop 12 p) (drop 12 q)
      (length-take-le 6 p (flag_long p e) ∙ sym (length-take-le 6 q (flag_long q f)))))

-- ---- a copy has not the counter that is due
pub copy_not_due : (last p : Bytes) → copy_of (Some last) p ≡ true → counter_right (Some last) p ≡ false
unfolding copy_of counter_right due pick
copy_not_due last p e =
    let k = and_both (has_payload p && not (discontinuity_indicator p)) (bytes_same last p) e in
    let l = and_both (has_payload p) (not (discontinuity_indicator p)) k.0 in
    let three = same_front last p k.1 3 (omega arith) in
    let due-not : eqb (continuity_counter p) ((continuity_counter last + 1) % 16) ≡ false =
    ne_eqb (continuity_counter p) ((continuity_counter last + 1) % 16) (λ z. omega (arith, three, z)) in
    rw (not-true (discontinuity_indicator p) l.1, l.0, due-not)
