-- The next byte that a payload gives, the 03 of a 00 00 03 being passed over, and the next bit, from its byte. Assumes nothing.
use Prim.Native.Nat.{ℕ, zero, suc, ◌+◌, ◌-◌, ◌/◌, ◌%◌, ◌^◌, ◌≤◌, ◌<◌}
use mathlib.Core.Bool.{Bool, true, false, ◌&&◌}
use mathlib.Core.Path.{◌≡◌, refl, sym, ap, ap₂, ◌∙◌}
use mathlib.Core.List.{List, [], ◌∷◌, ◌++◌}
use native.Mathlib.Omega.{arith}
use native.Mathlib.Numerals.{add-one}
use native.Mathlib.Nat.{mod-lt}
use lib.ListN.{length, take, drop, get_or, drop_of_length-le, length-drop}
use borrow.Author.Tests.{eq-eqb, ne_eqb, eqb-true, eqb-false}
use lib.Dec.{eqb}
use lib.Seq.{drop-nil, drop-drop}
use Rattle.std.proofs.lemmas.List.{take_all}
use Rattle.std.specs.List.{starts_with}
use Rattle.lists.specs.Lists.{Bytes, pick}
use Rattle.lists.proofs.Tests.{case, clash}
use Rattle.lists.proofs.Parts.{next}
use Rattle.emulation.specs.Payload.{unescape}
use Rattle.emulation.specs.Parts.{marked}
use Rattle.emulation.proofs.Steps.{marked_is, marked_at, marked_fits, unescape_at_marked, unescape_at_plain}
use Rattle.sequence.specs.Bits.{bits_of, read, cut_short, f, f_from}
use Rattle.sequence.specs.Parts.{given, Follows, Starts, left, said, size, Reads, Falls}
use Rattle.sequence.specs.declared.place.Place.{Place}
use Rattle.sequence.specs.declared.reader.BitReader.{BitReader}
use Rattle.sequence.proofs.Steps.{said_read}

-- ---- the bits of a byte
bit_of : (b : ℕ) (s : Bytes) (n : ℕ) → n < 7 → drop n (bits_of (b ∷ s)) ≡ (b / 2 ^ (7 - n) % 2) ∷ drop (suc n) (bits_of (b ∷ s))
unfolding bits_of
bit_of b s zero h = refl
bit_of b s (suc zero) h = refl
bit_of b s (suc (suc zero)) h = refl
bit_of b s (suc (suc (suc zero))) h = refl
bit_of b s (suc (suc (suc (suc zero)))) h = refl
bit_of b s (suc (suc (suc (suc (suc zero))))) h = refl
bit_of b s (suc (suc (suc (suc (suc (suc zero)))))) h = refl
bit_of b s (suc (suc (suc (suc (suc (suc (suc n))))))) h = absurd (omega arith)

lowest_of : (b : ℕ) (s : Bytes) → drop 7 (bits_of (b ∷ s)) ≡ (b / 2 ^ 0 % 2) ∷ bits_of s
unfolding bits_of
lowest_of b s = refl

none_of : (n : ℕ) → drop n (bits_of []) ≡ []
unfolding bits_of
none_of zero = refl
none_of (suc n) = refl

-- ---- the bytes that are given
module _ (payload : Bytes) (p : Place) where
  paired_is : p.paired ≡ true → given payload p ≡ take 1 (drop p.byte payload) ++ unescape (drop (p.byte + 2) payload)
  unfolding given pick
  paired_is e = rw e

  single_is : p.paired ≡ false → given payload p ≡ unescape (drop p.byte payload)
  unfolding given pick
  single_is e = rw e

  pub none_given : length payload ≤ p.byte → given payload p ≡ []
  unfolding unescape
  none_given h =
      let here : drop p.byte payload ≡ [] = drop_of_length-le payload h in
      let there : drop (p.byte + 2) payload ≡ [] = drop_of_length-le payload {i = p.byte + 2} (omega arith) in
      case p.paired (λ e. paired_is e ∙ rw (here, there)) (λ e. single_is e ∙ rw here)

  pair_opens : p.byte < length payload → p.paired ≡ true
      → given payload p ≡ get_or payload p.byte 0 ∷ unescape (drop (p.byte + 2) payload)
  pair_opens h e =
      paired_is e ∙ ap (λ (l : Bytes). take 1 l ++ unescape (drop (p.byte + 2) payload)) (next payload p.byte h)

-- ---- 00 00 03, as `starts_with` tests it
neither : (x : Bool) → x && false ≡ false
neither true = refl
neither false = refl

regrouped : (x y z : Bool) → x && (y && (z && true)) ≡ x && y && z
regrouped true true true = refl
regrouped true true false = refl
regrouped true false z = refl
regrouped false y z = refl

turned : (a b : ℕ) → eqb a b ≡ eqb b a
turned a b = case (eqb b a)
    (λ e. let same : a ≡ b = sym (eqb-true b a e) in eq-eqb a b same ∙ sym e)
    (λ e. ne_eqb a b (λ k. eqb-false b a e (sym k)) ∙ sym e)

three_marked : (s : Bytes) → starts_with eqb s (0 ∷ 0 ∷ 3 ∷ []) ≡ marked s
unfolding marked
three_marked [] = refl
three_marked (a ∷ []) = neither (eqb 0 a)
three_marked (a ∷ b ∷ []) = ap (λ (x : Bool). eqb 0 a && x) (neither (eqb 0 b)) ∙ neither (eqb 0 a)
three_marked (a ∷ b ∷ c ∷ s) =
    regrouped (eqb 0 a) (eqb 0 b) (eqb 3 c)
    ∙ ap₂ (λ (x y : Bool). x && y) (ap₂ (λ (x y : Bool). x && y) (turned 0 a) (turned 0 b)) (turned 3 c)

pub starts_marked : (s : Bytes) (i : ℕ) → starts_with eqb (take (length s - i) (drop i s)) (0 ∷ 0 ∷ 3 ∷ []) ≡ marked (drop i s)
starts_marked s i =
    let all : take (length s - i) (drop i s) ≡ drop i s = take_all (length s - i) (drop i s) (omega (arith, length-drop i s)) in
    ap (λ (l : Bytes). starts_with eqb l (0 ∷ 0 ∷ 3 ∷ [])) all ∙ three_marked (drop i s)

-- ---- from one place to the next
module _ (payload : Bytes) (p : Place) (h : p.byte < length payload) where
  -- behind a pair the 03 is passed over
  pub pair_ends : p.paired ≡ true → Follows payload p (record { byte = p.byte + 2; paired = false })
  pair_ends e =
      pair_opens payload p h e
      ∙ ap (λ (l : Bytes). get_or payload p.byte 0 ∷ l) (sym (single_is payload (record { byte = p.byte + 2; paired = false }) refl))

  -- the second 00 of a 00 00 03 is the second of a pair
  pub goes_on : (m : Bool) → m ≡ marked (drop p.byte payload) → p.paired ≡ false
      → Follows payload p (record { byte = p.byte + 1; paired = m })
  goes_on true m e =
      let fits : p.byte + 3 ≤ length payload = marked_fits payload p.byte (omega arith) (sym m) in
      let zeros = marked_is (get_or payload p.byte 0) (get_or payload (p.byte + 1) 0) (get_or payload (p.byte + 2) 0)
      (sym (marked_at payload p.byte (omega arith)) ∙ sym m) in
      let same : p.byte + 1 + 2 ≡ p.byte + 3 = omega arith in
      let second = pair_opens payload (record { byte = p.byte + 1; paired = true }) (omega arith) refl in
      single_is payload p e
      ∙ unescape_at_marked payload p.byte (sym m)
      ∙ sym (ap₂ (λ (x : ℕ) (l : Bytes). x ∷ l) zeros.0
      (second ∙ ap₂ (λ (x : ℕ) (i : ℕ). x ∷ unescape (drop i payload)) zeros.1 same))
  goes_on false m e =
      single_is payload p e
      ∙ unescape_at_plain payload p.byte h (sym m)
      ∙ ap (λ (l : Bytes). get_or payload p.byte 0 ∷ l) (sym (single_is payload (record { byte = p.byte + 1; paired = false }) refl))

  pub some_place : (q : Place) × Follows payload p q
  some_place = case p.paired (λ e. (_, pair_ends e)) (λ e. (_, goes_on (marked (drop p.byte payload)) refl e))

-- ---- the way to the OBU's byte `at`
pub at_start : (payload : Bytes) → given payload (record { byte = 0; paired = false }) ≡ unescape payload
at_start payload = single_is payload (record { byte = 0; paired = false }) refl

module _ (payload : Bytes) (p : Place) (i : ℕ) (h : given payload p ≡ drop i (unescape payload)) where
  pub one_passed : (q : Place) → Follows payload p q → given payload q ≡ drop (i + 1) (unescape payload)
  one_passed q f = ap (drop 1) (sym f ∙ h) ∙ drop-drop 1 i (unescape payload)

  -- the payload ends before
  pub all_passed : (at : ℕ) → length payload ≤ p.byte → i ≤ at → given payload p ≡ drop at (unescape payload)
  all_passed at e less =
      let none = none_given payload p e in
      let there : i + (at - i) ≡ at = omega arith in
      none
      ∙ sym (drop-nil (at - i))
      ∙ ap (drop (at - i)) (sym none ∙ h)
      ∙ drop-drop (at - i) i (unescape payload)
      ∙ ap (λ (n : ℕ). drop n (unescape payload)) there

pub starts : (r : BitReader) (at : ℕ) → given r.payload.now r.place ≡ drop at (unescape r.payload.now) → r.bit ≡ 0 → r.cut ≡ false
    → Starts r.payload.now at r
unfolding left
starts r at e z u = record { uncut = u; behind = rw (z, e) }

-- what proves the steps from place to place
pub ruleset place_steps = (pair_ends, goes_on, at_start, one_passed, all_passed)

-- ---- the bits that are left
-- the bit that is next
abbrev pub bit_at : BitReader → ℕ
bit_at r = get_or r.payload.now r.place.byte 0 / 2 ^ (7 - r.bit) % 2

none_left : (r : BitReader) → length r.payload.now ≤ r.place.byte → left r ≡ []
unfolding left
none_left r h = ap (λ (s : Bytes). drop r.bit (bits_of s)) (none_given r.payload.now r.place h) ∙ none_of r.bit

module _ (r s : BitReader) (same : s.payload.now ≡ r.payload.now) where
  module _ (q : Place) (f : Follows r.payload.now r.place q) where
    opened : left r ≡ drop r.bit (bits_of (get_or r.payload.now r.place.byte 0 ∷ given r.payload.now q))
    unfolding left
    opened = ap (λ (s : Bytes). drop r.bit (bits_of s)) f

    within : r.bit < 7 → s.place ≡ r.place → s.bit ≡ r.bit + 1 → left r ≡ bit_at r ∷ left s
    unfolding left
    within b e k =
        opened
        ∙ bit_of (get_or r.payload.now r.place.byte 0) (given r.payload.now q) r.bit b
        ∙ ap (λ (l : List ℕ). bit_at r ∷ l)
        (ap (λ (n : ℕ). drop n (bits_of (get_or r.payload.now r.place.byte 0 ∷ given r.payload.now q))) (sym (k ∙ add-one r.bit))
        ∙ ap (λ (l : Bytes). drop s.bit (bits_of l)) (sym f)
        ∙ ap₂ (λ (l : Bytes) (p : Place). drop s.bit (bits_of (given l p))) (sym same) (sym e))

  pub in_byte_lem : r.place.byte < length r.payload.now → r.bit < 7 → s.place ≡ r.place → s.bit ≡ r.bit + 1 → left r ≡ bit_at r ∷ left s
  in_byte_lem h b e k = let p = some_place r.payload.now r.place h in within p.0 p.1 b e k

  last_of : Follows r.payload.now r.place s.place → r.bit ≡ 7 → s.bit ≡ 0 → left r ≡ bit_at r ∷ left s
  unfolding left
  last_of f b z =
      let zeroth : 7 - r.bit ≡ 0 = omega arith in
      opened s.place f
      ∙ ap (λ (n : ℕ). drop n (bits_of (get_or r.payload.now r.place.byte 0 ∷ given r.payload.now s.place))) b
      ∙ lowest_of (get_or r.payload.now r.place.byte 0) (given r.payload.now s.place)
      ∙ ap (λ (k : ℕ). (get_or r.payload.now r.place.byte 0 / 2 ^ k % 2) ∷ bits_of (given r.payload.now s.place)) (sym zeroth)
      ∙ rw (z, same) refl

-- ---- one bit read
one : (x : ℕ) (l : List ℕ) → f 1 (x ∷ l) ≡ read x l
unfolding f_from
one x l = ap (λ (y : ℕ). read y l) (omega arith)

no_bit : f 1 [] ≡ cut_short
unfolding f_from
no_bit = refl

size_cut : (r : BitReader) → r.cut ≡ true → size r ≡ 0
unfolding size pick
size_cut r e = ap (λ (t : Bool). pick t 0 (suc (length (left r)))) e

size_left : (r : BitReader) → r.cut ≡ false → size r ≡ suc (length (left r))
unfolding size pick
size_left r e = ap (λ (t : Bool). pick t 0 (suc (length (left r)))) e

abbrev pub ReadsBit : BitReader → ℕ → BitReader → Type 0
ReadsBit r b s = Reads r (f 1) b s × (b < 2) × Falls r s

-- the end was passed before
pub cut_before : {r : BitReader} → r.cut ≡ true → ReadsBit r 0 r
cut_before e = (record { same = refl; stays = λ u. u; says = λ u. clash e u }, omega arith, λ u. clash e u)

module _ (r s : BitReader) (same : s.payload.now ≡ r.payload.now) where
  -- no bit is left
  pub at_end : length r.payload.now ≤ r.place.byte → s.cut ≡ true → ReadsBit r 0 s
  unfolding said pick
  at_end h e = (
    record { same = same; stays = λ _. e; says = λ u. rw e (sym (ap (f 1) (none_left r h) ∙ no_bit)) },
    omega arith,
    λ u. omega (arith, size_cut s e, size_left r u),
  )

  -- one bit is taken
  module _ (u : r.cut ≡ false) (e : s.cut ≡ false) where
    taken : left r ≡ bit_at r ∷ left s → ReadsBit r (bit_at r) s
    taken l = (
      record {
        same = same;
        stays = λ t. clash t u;
        says = λ _. said_read (bit_at r) s e ∙ sym (ap (f 1) l ∙ one (bit_at r) (left s));
      },
      mod-lt _ (omega arith),
      λ _. omega (arith, size_left r u, size_left s e, ap length l),
    )

    pub in_byte : r.place.byte < length r.payload.now → r.bit < 7 → s.place ≡ r.place → s.bit ≡ r.bit + 1 → ReadsBit r (bit_at r) s
    in_byte h b p k = taken (in_byte_lem r s same h b p k)

    pub last_bit : Follows r.payload.now r.place s.place → r.bit ≡ 7 → s.bit ≡ 0 → ReadsBit r (bit_at r) s
    last_bit h b z = taken (last_of r s same h b z)
