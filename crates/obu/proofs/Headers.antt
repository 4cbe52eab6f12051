-- The header of an OBU lies within it, its first eleven bytes decide it (`judged_first`), and it gives the OBU's kind
-- (`header_kind`). Assumes nothing.
use Prim.Native.Nat.{ℕ, ◌+◌, ◌-◌, ◌≤◌, ◌<◌, zero-le}
use mathlib.Core.Bool.{Bool, true, false, not, ◌&&◌}
use mathlib.Core.Path.{◌≡◌, refl, sym, ap, subst, ◌∙◌}
use native.Mathlib.Omega.{arith}
use borrow.Author.Tests.{eqb-true, eqb-false, ne_eqb, leb-true, leb-false, not-false}
use Rattle.std.specs.Prelude.{Option, Some, None}
use lib.Dec.{eqb, leb}
use lib.ListN.{length, take, drop, length-drop}
use lib.Seq.{length-take-le, get_or-take, take_all}
use Rattle.lists.specs.Lists.{Bytes, pick}
use Rattle.lists.specs.Bytes.{byte}
use Rattle.lists.proofs.Tests.{case}
use Rattle.lists.proofs.Parts.{to_end, drop_take}
use Rattle.refusal.specs.Verdict.{Verdict, passed, refused, ◌>>=◌, given}
use Rattle.refusal.proofs.Verdicts.{passed_then, passed_after, passed_same, given_passed, never}
use Rattle.obu.specs.declared.leb128.Leb128.{Leb128}
use Rattle.obu.specs.declared.header.Header.{Header}
use Rattle.obu.specs.Leb128.{leb128}
use Rattle.obu.specs.Header.{forbidden_bit, type_bits, extension_bit, has_size_bit, fixed_bytes, extension_missing, size_said, size_of}
use Rattle.obu.specs.Header.{size_bytes}
use Rattle.obu.specs.Header.{header_with, sized_header, header_of, bytes_remaining, differs, size_wrong, judged, most_judged}
use Rattle.obu.specs.Order.{kind_of, kind_of_number, kind_number, number_said}
use Rattle.obu.specs.Table.{kind_meant}
use Rattle.obu.specs.declared.ordering.Kind as code_kind
use Rattle.obu.proofs.Lebs.{leb_taken, first_eight}

-- ---- the fixed bytes
pub fixed_most : (first : ℕ) → fixed_bytes first ≤ 2
unfolding fixed_bytes pick
fixed_most first = elim (extension_bit first) as (λ t. pick t 2 1 ≤ 2) [ true ↦ omega arith | false ↦ omega arith ]

fixed_by : (t : Bool) (n : ℕ) → (t && eqb n 1) ≡ false → (n ≡ 0 → ⊥) → pick t 2 1 ≤ n
unfolding pick
fixed_by true n e h = omega (arith, eqb-false n 1 e)
fixed_by false n e h = omega arith

pub fixed_within : (first n fixed : ℕ) → extension_missing first n ≡ false → (n ≡ 0 → ⊥) → fixed ≡ fixed_bytes first → fixed ≤ n
unfolding fixed_bytes
fixed_within first n fixed e h f = rw f (fixed_by (extension_bit first) n e h)

-- what is lent from behind them on
pub behind_fixed : (first fixed : ℕ) (obu : Bytes) → fixed ≡ fixed_bytes first
    → sized_header first (take (length obu - fixed) (drop fixed obu)) ≡ sized_header first (drop (fixed_bytes first) obu)
behind_fixed first fixed obu e = ap (sized_header first) (to_end obu fixed ∙ ap (λ (k : ℕ). drop k obu) e)

-- ---- the content begins within the OBU, so that none of the bytes that remain is lost in the difference
said_within : (leb : Option Leb128) (rest : Bytes) (size : Option Leb128) → leb128 rest ≡ leb → size_said leb ≡ passed size
    → size_bytes size ≤ length rest
said_within (Some l) rest size e p =
    subst (λ (z : Option Leb128). size_bytes z ≤ length rest) (passed_same (Some l) size p) (leb_taken rest l e).1
said_within None rest size e p = never p

size_within : (t : Bool) (rest : Bytes) (size : Option Leb128) → pick t (size_said (leb128 rest)) (passed None) ≡ passed size
    → size_bytes size ≤ length rest
unfolding pick
size_within true rest size e = said_within (leb128 rest) rest size refl e
size_within false rest size e = subst (λ (z : Option Leb128). size_bytes z ≤ length rest) (passed_same None size e) zero-le

sized_within : (first : ℕ) (rest : Bytes) (h : Header) → sized_header first rest ≡ passed h → h.content ≤ fixed_bytes first + length rest
unfolding sized_header header_with size_of
sized_within first rest h e =
    let p = passed_then (size_of first rest) (λ size. passed (header_with first size (byte rest (size_bytes size)))) h e in
    subst (λ (x : Header). x.content ≤ fixed_bytes first + length rest)
    (passed_same (header_with first p.0 (byte rest (size_bytes p.0))) h p.2)
    (omega (arith, size_within (has_size_bit first) rest p.0 p.1))

pub content_within : (s : Bytes) (h : Header) → header_of s ≡ passed h → h.content ≤ length s
unfolding header_of
content_within s h e =
    let first : ℕ = byte s 0 in
    let p = passed_after (given 3 (eqb (length s) 0)) _ h e in
    let q = passed_after (given 4 (forbidden_bit first)) _ h p.1 in
    let r = passed_after (given 4 (extension_missing first (length s))) _ h q.1 in
    let some = eqb-false (length s) 0 (given_passed 3 _ p.0) in
    let fixed = fixed_within first (length s) (fixed_bytes first) (given_passed 4 _ r.0) some refl in
    omega (arith, sized_within first (drop (fixed_bytes first) s) h r.1, length-drop (fixed_bytes first) s, fixed)

-- ---- of an OBU's first bytes, those after the eleventh change nothing
said_most : (leb : Option Leb128) (rest : Bytes) (size : Option Leb128) → leb128 rest ≡ leb → size_said leb ≡ passed size
    → size_bytes size ≤ 8
said_most (Some l) rest size e p =
    subst (λ (z : Option Leb128). size_bytes z ≤ 8) (passed_same (Some l) size p) (leb_taken rest l e).0
said_most None rest size e p = never p

size_most : (t : Bool) (rest : Bytes) (size : Option Leb128) → pick t (size_said (leb128 rest)) (passed None) ≡ passed size
    → size_bytes size ≤ 8
unfolding pick
size_most true rest size e = said_most (leb128 rest) rest size refl e
size_most false rest size e = subst (λ (z : Option Leb128). size_bytes z ≤ 8) (passed_same None size e) zero-le

content_first : (first k : ℕ) (rest : Bytes) → 9 ≤ k → (v : Verdict (Option Leb128)) → size_of first rest ≡ v
    → (v >>= (λ size. passed (header_with first size (byte (take k rest) (size_bytes size)))))
    ≡ (v >>= (λ size. passed (header_with first size (byte rest (size_bytes size)))))
unfolding size_of ◌>>=◌
content_first first k rest h (passed size) e =
    ap (λ (b : ℕ). passed (header_with first size b))
    (get_or-take k rest (size_bytes size) 0 (omega (arith, size_most (has_size_bit first) rest size e)))
content_first first k rest h (refused number place) e = refl

sized_first : (first k : ℕ) (rest : Bytes) → 9 ≤ k → sized_header first (take k rest) ≡ sized_header first rest
unfolding sized_header
sized_first first k rest h =
    let same : size_of first (take k rest) ≡ size_of first rest = unfold size_of in rw (first_eight k rest (omega arith)) in
    rw same (content_first first k rest h (size_of first rest) refl)

header_long : (k : ℕ) (s : Bytes) → most_judged ≤ k → k < length s → header_of (take k s) ≡ header_of s
unfolding header_of
header_long k s h j =
    let n : length (take k s) ≡ k = length-take-le k s (omega arith) in
    let b : byte (take k s) 0 ≡ byte s 0 = get_or-take k s 0 0 (omega arith) in
    let m : fixed_bytes (byte s 0) ≤ 2 = fixed_most (byte s 0) in
    let f : ℕ = fixed_bytes (byte s 0) in
    let d : drop f (take k s) ≡ take (k - f) (drop f s) = drop_take f k s (omega arith) in
    let not-k : (m : ℕ) → m < 2 → eqb k m ≡ false = λ m l. ne_eqb k m (λ e. omega arith) in
    let not-s : (m : ℕ) → m < 2 → eqb (length s) m ≡ false = λ m l. ne_eqb (length s) m (λ e. omega arith) in
    rw (n, b, d, not-k 0 (omega arith), not-k 1 (omega arith), not-s 0 (omega arith), not-s 1 (omega arith))
    (rw (sized_first (byte s 0) (k - f) (drop f s) (omega arith)))

pub header_first : (k : ℕ) (s : Bytes) → most_judged ≤ k → header_of (take k s) ≡ header_of s
header_first k s h =
    case (leb (length s) k)
    (λ e. ap header_of (take_all k s (leb-true (length s) k e)))
    (λ e. header_long k s h (leb-false (length s) k e))

pub judged_first : (k : ℕ) (s : Bytes) (n : ℕ) → most_judged ≤ k → judged (take k s) n ≡ judged s n
unfolding judged
judged_first k s n h = rw (header_first k s h)

-- ---- an OBU that passed has a header
pub judged_header : (s : Bytes) (n : ℕ) (h : Header) → judged s n ≡ passed h → header_of s ≡ passed h
unfolding judged
judged_header s n h e =
    let p = passed_then (header_of s) _ h e in
    let tile = (passed_after _ _ h (passed_after _ _ h (passed_after _ _ h p.2).1).1).1 in
    p.1 ∙ (passed_after _ _ h (passed_after _ _ h tile).1).1

-- ---- the size that a header says
-- what a header says of it, and where the content begins
pub record Sized (s : Bytes) (h : Header) : Type 0 where
  pub said : size_of (byte s 0) (drop (fixed_bytes (byte s 0)) s) ≡ passed h.size
  pub content : h.content ≡ fixed_bytes (byte s 0) + size_bytes h.size
  pub four_bits : h.obu_type ≡ type_bits (byte s 0)

pub header_sized : (s : Bytes) (h : Header) → header_of s ≡ passed h → Sized s h
unfolding header_of sized_header header_with
header_sized s h e =
    let first : ℕ = byte s 0 in
    let rest : Bytes = drop (fixed_bytes first) s in
    let q = (passed_after _ _ h (passed_after _ _ h (passed_after _ _ h e).1).1).1 in
    let p = passed_then (size_of first rest) (λ size. passed (header_with first size (byte rest (size_bytes size)))) h q in
    let same = passed_same (header_with first p.0 (byte rest (size_bytes p.0))) h p.2 in
    subst (Sized s) same (record { said = p.1; content = refl; four_bits = refl })

-- ---- the kind that a header gives
pub header_kind : (s : Bytes) (h : Header) (k : code_kind.Kind) → kind_meant k ≡ kind_of_number (kind_number h) → header_of s ≡ passed h
    → kind_meant k ≡ kind_of s
header_kind s h k is e = is ∙ sym (ap (λ v. kind_of_number (number_said v)) e)

-- "The value must equal the bytes that remain."
pub size_right : (s : Bytes) (h : Header) (l : Leb128) → judged s (length s) ≡ passed h → h.size ≡ Some l
    → h.content + l.value ≡ length s
unfolding judged
size_right s h l e z =
    let p = passed_then (header_of s) _ h e in
    let same = passed_same p.0 h (sym p.1 ∙ judged_header s (length s) h e) in
    let right = given_passed 5 _ (passed_after _ _ h p.2).0 in
    let value-is : not (eqb l.value (bytes_remaining h (length s))) ≡ false =
    sym (ap (λ (k : Option Leb128). differs k (bytes_remaining h (length s))) z)
    ∙ ap (λ (k : Header). size_wrong k (length s)) (sym same) ∙ right in
    omega (
      arith,
      eqb-true l.value (bytes_remaining h (length s)) (not-false _ value-is),
      content_within s h (judged_header s
          (length s) h e),
    )
