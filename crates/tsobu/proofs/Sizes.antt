-- The size that an OBU's header says, read where the OBU is carried. Unescaping leaves a leb128 as it is, since a byte with more behind it
-- is not 00. So a payload that passes has at least as many bytes as its OBU says (`size_within`), and a search for its end may
-- begin behind these (`search_behind`). Assumes nothing.
use Prim.Native.Nat.{ℕ, zero, suc, ◌+◌, ◌≤◌, ◌<◌}
use mathlib.Core.Bool.{true, false}
use mathlib.Core.Path.{◌≡◌, refl, sym, ap, ap₂, subst, ◌∙◌}
use mathlib.Core.List.{[], ◌∷◌, ◌++◌}
use native.Mathlib.Omega.{arith}
use borrow.Author.Tests.{ltb-true, ltb-false}
use Rattle.std.specs.Prelude.{Option, Some, None}
use lib.Dec.{ltb}
use lib.ListN.{length, drop}
use Rattle.lists.specs.Lists.{Bytes, pick}
use Rattle.lists.specs.Bytes.{byte, bit, bits}
use Rattle.lists.proofs.Picks.{by_true, by_false}
use Rattle.lists.proofs.Tests.{case, clash, apart}
use Rattle.refusal.specs.Verdict.{Verdict, passed}
use Rattle.refusal.proofs.Verdicts.{never, passed_same}
use Rattle.emulation.specs.Payload.{unescape}
use Rattle.emulation.specs.Parts.{marked}
use Rattle.emulation.proofs.Steps.{marked_zeros, unescape_marked, unescape_plain, unescaped_first, given_or_dropped}
use Rattle.obu.specs.declared.leb128.Leb128.{Leb128}
use Rattle.obu.specs.declared.header.Header.{Header}
use Rattle.obu.specs.Leb128.{leb_of, low_first, leb_within, in_range, leb128}
use Rattle.obu.specs.Header.{extension_bit, has_size_bit, fixed_bytes, size_said, size_of, size_bytes, header_of}
use Rattle.obu.proofs.Lebs.{leb_behind}
use Rattle.obu.proofs.Headers.{judged_header, header_sized, size_right}
use Rattle.tsobu.specs.StartCodes.{at_start_code}
use Rattle.tsobu.specs.TsObu.{tsobu_refusal}
use Rattle.tsobu.proofs.Places.{before, before_code, before_byte, before_end}
use Rattle.tsobu.proofs.TsObus.{obu_judged}

-- ---- what unescaping leaves of a leb128
-- a last byte decides, whatever stands behind it
leb_last : (n b : ℕ) (s t : Bytes) → bit 7 b ≡ false → leb_within n (b ∷ s) ≡ leb_within n (b ∷ t)
unfolding leb_within
leb_last zero b s t e = refl
leb_last (suc n) b s t e =
    let last : (l : Option Leb128) → leb_of (bits 6 0 b) 1 ≡ pick (bit 7 b) (low_first (bits 6 0 b) l) (leb_of (bits 6 0 b) 1) =
    λ l. by_false _ e refl in
    sym (last (leb_within n s)) ∙ last (leb_within n t)

leb_kept : (n : ℕ) (s : Bytes) → leb_within n (unescape s) ≡ leb_within n s
unfolding leb_within
leb_kept zero s = refl
leb_kept (suc n) [] = unfold unescape in refl
leb_kept (suc n) (b ∷ s) =
    case (marked (b ∷ s))
    (λ m.
    ap (leb_within (suc n)) (unescape_marked (b ∷ s) m) ∙ leb_last (suc n) 0 (0 ∷ unescape (drop 3 (b ∷ s))) s refl
    ∙ ap (λ (x : ℕ). leb_within (suc n) (x ∷ s)) (sym (marked_zeros b s m).0))
    (λ m.
    ap (leb_within (suc n)) (unescape_plain b s m)
    ∙ ap (λ (l : Option Leb128). pick (bit 7 b) (low_first (bits 6 0 b) l) (leb_of (bits 6 0 b) 1)) (leb_kept n s))

-- and behind a first byte
leb_second : (n : ℕ) (s : Bytes) → leb_within n (drop 1 (unescape s)) ≡ leb_within n (drop 1 s)
leb_second n [] = unfold unescape in refl
leb_second n (a ∷ t) =
    case (marked (a ∷ t))
    (λ m.
    let z = marked_zeros a t m in
    ap (λ (l : Bytes). leb_within n (drop 1 l)) (unescape_marked (a ∷ t) m) ∙ leb_last n 0 (unescape (drop 3 (a ∷ t))) z.1 refl
    ∙ ap (leb_within n) (sym z.2))
    (λ m. ap (λ (l : Bytes). leb_within n (drop 1 l)) (unescape_plain a t m) ∙ leb_kept n t)

-- ---- the size behind the fixed bytes
-- a first byte with has-size is not 00
sized_plain : (a : ℕ) (t : Bytes) → has_size_bit a ≡ true → marked (a ∷ t) ≡ false
sized_plain a t e =
    case (marked (a ∷ t))
    (λ m. clash e (ap has_size_bit (marked_zeros a t m).0))
    (λ m. m)

module _ (a : ℕ) (t : Bytes) (e : has_size_bit a ≡ true) where
  leb_fixed : leb128 (drop (fixed_bytes a) (unescape (a ∷ t))) ≡ leb128 (drop (fixed_bytes a) (a ∷ t))
  unfolding leb128 fixed_bytes
  leb_fixed =
      case (extension_bit a)
      (λ x.
      let two = by_true {x = 2} 1 x refl in
      subst (λ (k : ℕ). in_range (leb_within 8 (drop k (unescape (a ∷ t)))) ≡ in_range (leb_within 8 (drop k (a ∷ t)))) two
      (ap in_range
      (ap (λ (l : Bytes). leb_within 8 (drop 2 l)) (unescape_plain a t (sized_plain a t e)) ∙ leb_second 8 t)))
      (λ x.
      let one = by_false {y = 1} 2 x refl in
      subst (λ (k : ℕ). in_range (leb_within 8 (drop k (unescape (a ∷ t)))) ≡ in_range (leb_within 8 (drop k (a ∷ t)))) one
      (ap in_range (leb_second 8 (a ∷ t))))

  leb_there : (r : Bytes) (l : Leb128) → leb128 (drop (fixed_bytes a) (a ∷ t)) ≡ Some l
      → leb128 (drop (fixed_bytes a) (a ∷ t ++ r)) ≡ Some l
  unfolding fixed_bytes
  leb_there r l n =
      case (extension_bit a)
      (λ x.
      let two = by_true {x = 2} 1 x refl in
      subst (λ (k : ℕ). leb128 (drop k (a ∷ t ++ r)) ≡ Some l) two
      (behind_two t (subst (λ (k : ℕ). leb128 (drop k (a ∷ t)) ≡ Some l) (sym two) n)))
      (λ x.
      let one = by_false {y = 1} 2 x refl in
      subst (λ (k : ℕ). leb128 (drop k (a ∷ t ++ r)) ≡ Some l) one
      (leb_behind t r l (subst (λ (k : ℕ). leb128 (drop k (a ∷ t)) ≡ Some l) (sym one) n)))
    where
      behind_two : (s : Bytes) → leb128 (drop 1 s) ≡ Some l → leb128 (drop 1 (s ++ r)) ≡ Some l
      behind_two [] k =
          let none : leb128 [] ≡ None = unfold leb128 in unfold leb_within in unfold in_range in refl in
          let bad : None ≡ Some l = sym none ∙ k in
          apart cc
      behind_two (b ∷ s) k = leb_behind s r l k

-- the OBU says a size: its payload, with what comes behind it, says the same
sizes_same : (a : ℕ) (t r : Bytes) (y z : Option Leb128) → size_of a (drop (fixed_bytes a) (unescape (a ∷ t))) ≡ passed y
    → size_of a (drop (fixed_bytes a) (a ∷ t ++ r)) ≡ passed z → z ≡ y
unfolding size_of
sizes_same a t r y z ey ez =
    case (has_size_bit a)
    (λ e.
    let said : (l : Bytes) → size_said (leb128 l) ≡ pick (has_size_bit a) (size_said (leb128 l)) (passed None) = λ l. by_true _ e refl in
    go e (leb128 (drop (fixed_bytes a) (unescape (a ∷ t)))) refl (said _ ∙ ey) (said _ ∙ ez))
    (λ e.
    let none : (v : Verdict (Option Leb128)) → passed None ≡ pick (has_size_bit a) v (passed None) = λ v. by_false _ e refl in
    passed_same z y (sym ez ∙ sym (none _) ∙ none _ ∙ ey))
  where
    go : has_size_bit a ≡ true → (l : Option Leb128) → leb128 (drop (fixed_bytes a) (unescape (a ∷ t))) ≡ l
        → size_said (leb128 (drop (fixed_bytes a) (unescape (a ∷ t)))) ≡ passed y
        → size_said (leb128 (drop (fixed_bytes a) (a ∷ t ++ r))) ≡ passed z → z ≡ y
    go e (Some l) k p q =
        let there = leb_there a t e r l (sym (leb_fixed a t e) ∙ k) in
        passed_same z y (sym q ∙ ap size_said (there ∙ sym k) ∙ p)
    go e None k p q = never (sym (ap size_said k) ∙ p)

-- ---- a payload that passes has at least as many bytes as its OBU says
pub size_within : (p r : Bytes) → tsobu_refusal p ≡ passed tt → (h : Header) (l : Leb128) → header_of (p ++ r) ≡ passed h
    → h.size ≡ Some l → h.content + l.value ≤ length p
size_within [] r e h l f z = absurd (omega (arith, (obu_judged [] e).0))
size_within (a ∷ t) r e h l f z =
    let u = unescape (a ∷ t) in
    let j = obu_judged (a ∷ t) e in
    let obu = header_sized u j.1 (judged_header u (length u) j.1 j.2) in
    let here = header_sized (a ∷ t ++ r) h f in
    let first : byte u 0 ≡ a = unescaped_first (a ∷ t) in
    let same : h.size ≡ j.1.size =
    sizes_same a t r j.1.size h.size
    (subst (λ (b : ℕ). size_of b (drop (fixed_bytes b) u) ≡ passed j.1.size) first obu.said) here.said in
    let content : h.content ≡ j.1.content =
    here.content ∙ ap₂ (λ (b : ℕ) (k : Option Leb128). fixed_bytes b + size_bytes k) (sym first) same ∙ sym obu.content in
    omega (arith, size_right u j.1 l j.2 (sym same ∙ z), given_or_dropped (a ∷ t))

-- ---- a search may begin behind some of what stands before the next start code
pub search_behind : (n i : ℕ) (s : Bytes) → n ≤ before (drop i s) → i + n + before (drop (i + n) s) ≡ i + before (drop i s)
search_behind zero i s h = let e : i + 0 ≡ i = omega arith in ap (λ (k : ℕ). k + before (drop k s)) e
search_behind (suc n) i s h =
    let here : i < length s =
    case (ltb i (length s)) (λ e. ltb-true i (length s) e) (λ e. absurd (omega (arith, before_end s i (ltb-false i (length s) e)))) in
    let plain : at_start_code (drop i s) ≡ false =
    case (at_start_code (drop i s)) (λ e. absurd (omega (arith, before_code (drop i s) e))) (λ e. e) in
    let one = before_byte s i here plain in
    let rest = search_behind n (i + 1) s (omega (arith, one)) in
    let e : i + suc n ≡ i + 1 + n = omega arith in
    let k : i + 1 + before (drop (i + 1) s) ≡ i + before (drop i s) = omega (arith, one) in
    ap (λ (m : ℕ). m + before (drop m s)) e ∙ rest ∙ k
