-- The frame of a unit, by the first byte of its OBUs: that byte stands behind the start code; in a unit that reading accepts no sequence
-- header stands behind the first OBU of type 3 or 6 (`all_before_frame`). Assumes nothing.
use Prim.Native.Nat.{ℕ, suc, ◌+◌, ◌<◌}
use mathlib.Core.Bool.{Bool, true, false, not, ◌&&◌, ◌||◌, or-false}
use mathlib.Core.Path.{◌≡◌, refl, sym, ap, ap₂, subst, ◌∙◌}
use mathlib.Core.List.{List, [], ◌∷◌, ◌++◌, map, flatten}
use native.Mathlib.Nat.{add-zero}
use native.Mathlib.Omega.{arith}
use borrow.Author.Tests.{eqb-true, eqb-false, ne_eqb, not-true}
use lib.Dec.{eqb}
use lib.ListN.{length, drop}
use lib.Seq.{get_or-drop}
use Rattle.lists.specs.Lists.{Bytes, pick, any}
use Rattle.lists.specs.Bytes.{byte, bit}
use Rattle.lists.proofs.Tests.{case, clash, and_both}
use Rattle.lists.proofs.Tables.{all_below, below}
use Rattle.refusal.specs.Verdict.{passed, given}
use Rattle.refusal.proofs.Verdicts.{All, never, passed_then, passed_after, passed_same}
use Rattle.emulation.specs.Payload.{unescape}
use Rattle.emulation.proofs.Steps.{unescaped_first}
use Rattle.obu.specs.Header.{type_bits, forbidden_bit, extension_missing, fixed_bytes, size_bytes, size_of, header_with, sized_header}
use Rattle.obu.specs.Header.{header_of}
use Rattle.obu.specs.declared.header.Header.{Header}
use Rattle.obu.specs.Order.{Kind, temporal_delimiter, frame_header, is, head_kind, tile_kind, last_kind, kind_of_number, kind_number}
use Rattle.obu.specs.Order.{number_said}
use Rattle.obu.specs.Order.{kind_of, after_frame, in_tiles, at_frame, before_frame, order_refusal}
use Rattle.obu.proofs.Steps.{tiles_on, tiles_stop, one_frame_lem, one_header, no_frame, head_on, head_stop, delimited, not_delimited}
use Rattle.tsobu.specs.StartCodes.{start_code3, at_start_code, Split, split, payloads}
use Rattle.tsobu.specs.TsObu.{tsobu_refusal}
use Rattle.tsobu.proofs.TsObus.{header_there}
use Rattle.tsobu.proofs.Splits.{code_is, split_code, split_byte}
use Rattle.tsobu.proofs.Places.{payload_at, payload_is}
use Rattle.unit.specs.Unit.{read_unit, obus_in}
use Rattle.unit.proofs.Acceptance.{reads}
use Rattle.comparison.specs.Comparison.{sequence_content, headers_of, sequence_headers, frame_type, is_frame, until_frame}
use Rattle.comparison.specs.Comparison.{headers_before_frame}

-- ---- the first byte of an OBU
before_first : (s : Bytes) → byte (split s).before 0 ≡ byte s 0
unfolding split at_start_code
before_first [] = refl
before_first (a ∷ []) = refl
before_first (a ∷ b ∷ []) = refl
before_first (a ∷ b ∷ c ∷ s) =
    case (start_code3 a b c)
    (λ e. ap (λ (r : Split). byte r.before 0) (split_code a b c s e) ∙ sym (code_is a b c e).0)
    (λ e. ap (λ (r : Split). byte r.before 0) (split_byte a (b ∷ c ∷ s) e))

pub frame_first : (s : Bytes) → is_frame (unescape (split s).before) ≡ frame_type (byte s 0)
frame_first s = ap frame_type (unescaped_first (split s).before ∙ before_first s)

-- behind the start code at a place
pub frame_at : (s : Bytes) (code : ℕ) → is_frame (unescape (payload_at s code)) ≡ frame_type (byte s (code + 3))
frame_at s code =
    ap (λ (p : Bytes). is_frame (unescape p)) (payload_is s code) ∙ frame_first (drop (code + 3) s)
    ∙ ap frame_type (get_or-drop (code + 3) s 0 0 ∙ ap (byte s) (add-zero (code + 3)))

-- ---- the type that an OBU's first byte says, and its kind
sized_type : (first : ℕ) (rest : Bytes) (h : Header) → sized_header first rest ≡ passed h → h.obu_type ≡ type_bits first
unfolding sized_header header_with
sized_type first rest h e =
    let p = passed_then (size_of first rest) (λ size. passed (header_with first size (byte rest (size_bytes size)))) h e in
    sym (ap (λ (x : Header). x.obu_type) (passed_same (header_with first p.0 (byte rest (size_bytes p.0))) h p.2))

pub type_first : (obu : Bytes) (h : Header) → header_of obu ≡ passed h → h.obu_type ≡ type_bits (byte obu 0)
unfolding header_of
type_first obu h e =
    let p = passed_after (given 3 (eqb (length obu) 0)) _ h e in
    let q = passed_after (given 4 (forbidden_bit (byte obu 0))) _ h p.1 in
    let r = passed_after (given 4 (extension_missing (byte obu 0) (length obu))) _ h q.1 in
    sized_type (byte obu 0) (drop (fixed_bytes (byte obu 0)) obu) h r.1

-- the numbers of the kinds of a frame
abbrev frame_number : ℕ → Bool
frame_number n = eqb n 3 || (eqb n 6 || eqb n 16)

-- what the kinds are to a frame and to a sequence header, one number at a time
unfoldable fine : ℕ → Bool
fine n =
    let k = kind_of_number n in
    not (head_kind k && frame_number n)
    && (not (is k temporal_delimiter && frame_number n)
    && ((frame_number n || not (last_kind k || is k frame_header))
    && (not (tile_kind k && eqb n 1) && not (frame_number n && eqb n 1))))

all_fine : all_below fine 17 ≡ true
unfolding all_below fine kind_of_number any
all_fine = refl

module _ (t : ℕ) (small : t < 16) where
  -- the number is the type, or 16 for a type 3 whose frame is shown again
  numbered : (b : Bool) → (t ≡ 3 → ⊥) → pick (eqb t 3 && b) 16 t ≡ t
  unfolding pick
  numbered b n = rw (ne_eqb t 3 n)

  same_frame : (b : Bool) → (eqb t 3 || eqb t 6) ≡ frame_number (pick (eqb t 3 && b) 16 t)
  unfolding pick
  same_frame b =
      case (eqb t 3)
      (λ e. subst (λ (n : ℕ). (eqb n 3 || eqb n 6) ≡ frame_number (pick (eqb n 3 && b) 16 n)) (sym (eqb-true t 3 e)) (three b))
      (λ e.
      let last : eqb t 16 ≡ false = ne_eqb t 16 (λ k. omega arith) in
      sym (ap frame_number (numbered b (eqb-false t 3 e)) ∙ rw (e, last, or-false)))
    where
      three : (b : Bool) → true ≡ frame_number (pick b 16 3)
      three true = refl
      three false = refl

  same_one : (b : Bool) → eqb (pick (eqb t 3 && b) 16 t) 1 ≡ false → eqb t 1 ≡ false
  same_one b e = case (eqb t 1)
      (λ k. let n = eqb-true t 1 k in clash k (ap (λ (m : ℕ). eqb m 1) (sym (numbered b (λ q. omega arith))) ∙ e))
      (λ k. k)

  in_range : (b : Bool) → pick (eqb t 3 && b) 16 t < 17
  unfolding pick
  in_range b = go (eqb t 3 && b)
    where
      go : (c : Bool) → pick c 16 t < 17
      go true = omega arith
      go false = omega arith

-- an OBU that has a header
pub record Fine (obu : Bytes) : Type 0 where
  head : head_kind (kind_of obu) ≡ true → is_frame obu ≡ false
  delimiter : is (kind_of obu) temporal_delimiter ≡ true → is_frame obu ≡ false
  begins : (last_kind (kind_of obu) || is (kind_of obu) frame_header) ≡ true → is_frame obu ≡ true
  tile : tile_kind (kind_of obu) ≡ true → sequence_content (header_of obu) obu ≡ []
  none_in_frame : is_frame obu ≡ true → sequence_content (header_of obu) obu ≡ []

-- by a test that computes: two that exclude one another, and one that asks for another
not_both : (x y : Bool) → not (x && y) ≡ true → x ≡ true → y ≡ false
not_both true y e k = not-true y e
not_both false y e k = clash k refl

asks : (x y : Bool) → (y || not x) ≡ true → x ≡ true → y ≡ true
asks x true e k = refl
asks true false e k = e
asks false false e k = clash k refl

module _ (obu : Bytes) (h : Header) (e : header_of obu ≡ passed h) where
  abbrev t : ℕ
  t = h.obu_type

  abbrev shown : Bool
  shown = bit 7 h.first_content

  small : t < 16
  small = omega (arith, type_first obu h e)

  kind_is : kind_of obu ≡ kind_of_number (kind_number h)
  kind_is = ap (λ v. kind_of_number (number_said v)) e

  frame_is : is_frame obu ≡ frame_number (kind_number h)
  frame_is = ap (λ (n : ℕ). eqb n 3 || eqb n 6) (sym (type_first obu h e)) ∙ same_frame t small shown

  no_content : eqb (kind_number h) 1 ≡ false → sequence_content (header_of obu) obu ≡ []
  unfolding sequence_content pick
  no_content k = rw (e, same_one t small shown k)

  fine_obu : Fine obu
  unfolding fine
  fine_obu =
      let k = kind_of_number (kind_number h) in
      let n = kind_number h in
      let five = below fine 17 all_fine n (in_range t small shown) in
      let a = and_both _ _ five in
      let b = and_both _ _ a.1 in
      let c = and_both _ _ b.1 in
      let d = and_both _ _ c.1 in
      record {
        head = λ x. frame_is ∙ not_both (head_kind k) (frame_number n) a.0 (ap head_kind (sym kind_is) ∙ x);
        delimiter = λ x.
            frame_is ∙ not_both (is k temporal_delimiter) (frame_number n) b.0
            (ap (λ (y : Kind). is y temporal_delimiter) (sym kind_is) ∙ x);
        begins = λ x.
            frame_is ∙ asks (last_kind k || is k frame_header) (frame_number n) c.0
            (ap (λ (y : Kind). last_kind y || is y frame_header) (sym kind_is) ∙ x);
        tile = λ x. no_content (not_both (tile_kind k) (eqb n 1) d.0 (ap tile_kind (sym kind_is) ∙ x));
        none_in_frame = λ x. no_content (not_both (frame_number n) (eqb n 1) d.1 (sym frame_is ∙ x));
      }

-- ---- no sequence header behind the frame
module _ (o : Bytes) (obus : List Bytes) (f : Fine o) where
  stop : is_frame o ≡ true → headers_of obus ≡ [] → headers_of (until_frame (o ∷ obus)) ≡ headers_of (o ∷ obus)
  unfolding flatten until_frame pick
  stop e z = rw e (sym (ap₂ (λ (x y : List Bytes). x ++ y) (f.none_in_frame e) z))

  go_on : is_frame o ≡ false → headers_of (until_frame obus) ≡ headers_of obus → headers_of (until_frame (o ∷ obus)) ≡ headers_of (o ∷ obus)
  unfolding flatten until_frame pick
  go_on e z = rw e (ap (λ (x : List Bytes). sequence_content (header_of o) o ++ x) z)

tiles_none : (i : ℕ) (b : Bool) (obus : List Bytes) → All Fine obus → in_tiles i b (map kind_of obus) ≡ passed tt → headers_of obus ≡ []
unfolding flatten
tiles_none i b [] f e = refl
tiles_none i b (o ∷ obus) f e =
    case (tile_kind (kind_of o))
    (λ t.
    ap₂ (λ (x y : List Bytes). x ++ y) (f.0.tile t)
    (tiles_none (suc i) _ obus f.1 (sym (tiles_on i (kind_of o) (map kind_of obus) b t) ∙ e)))
    (λ t. never (sym (tiles_stop i (kind_of o) (map kind_of obus) b t) ∙ e))

after_none : (i : ℕ) (obus : List Bytes) → after_frame i (map kind_of obus) ≡ passed tt → headers_of obus ≡ []
unfolding after_frame flatten
after_none i [] e = refl
after_none i (o ∷ obus) e = never e

frame_last : (i : ℕ) (obus : List Bytes) → All Fine obus → at_frame i (map kind_of obus) ≡ passed tt
    → headers_of (until_frame obus) ≡ headers_of obus
unfolding at_frame
frame_last i [] f e = never e
frame_last i (o ∷ obus) f e =
    let k = kind_of o in
    let ks = map kind_of obus in
    case (last_kind k)
    (λ t. stop o obus f.0 (f.0.begins (rw t refl)) (after_none (suc i) obus (sym (one_frame_lem i k ks t) ∙ e)))
    (λ t. case (is k frame_header)
    (λ u. stop o obus f.0 (f.0.begins (rw (t, u) refl)) (tiles_none (suc i) false obus f.1 (sym (one_header i k ks t u) ∙ e)))
    (λ u. never (sym (no_frame i k ks t u) ∙ e)))

head_first : (i : ℕ) (obus : List Bytes) → All Fine obus → before_frame i (map kind_of obus) ≡ passed tt
    → headers_of (until_frame obus) ≡ headers_of obus
unfolding before_frame
head_first i [] f e = frame_last i [] f e
head_first i (o ∷ obus) f e =
    let k = kind_of o in
    let ks = map kind_of obus in
    case (head_kind k)
    (λ t. go_on o obus f.0 (f.0.head t) (head_first (suc i) obus f.1 (sym (head_on i k ks t) ∙ e)))
    (λ t. frame_last i (o ∷ obus) f (sym (head_stop i k ks t) ∙ e))

order_first : (obus : List Bytes) → All Fine obus → order_refusal (map kind_of obus) ≡ passed tt
    → headers_of (until_frame obus) ≡ headers_of obus
unfolding order_refusal
order_first [] f e = head_first 0 [] f e
order_first (o ∷ obus) f e =
    let k = kind_of o in
    let ks = map kind_of obus in
    case (is k temporal_delimiter)
    (λ t. go_on o obus f.0 (f.0.delimiter t) (head_first 1 obus f.1 (sym (delimited k ks t) ∙ e)))
    (λ t. head_first 0 (o ∷ obus) f (sym (not_delimited k ks t) ∙ e))

all_fine_obus : (ws : List Bytes) → All (λ w. tsobu_refusal w ≡ passed tt) ws → All Fine (map unescape ws)
all_fine_obus [] h = tt
all_fine_obus (w ∷ ws) h = let there = header_there w h.0 in (fine_obu (unescape w) there.0 there.1, all_fine_obus ws h.1)

-- "type 2 only as the first; then any of 0, 1, 5, 9 to 15; then" the frame: in a unit that reading accepts every sequence header stands
-- before it
pub all_before_frame : (s : Bytes) (l : List Bytes) → read_unit s ≡ passed l → headers_before_frame s ≡ sequence_headers s
all_before_frame s l e =
    let r = (reads s l e).0 in
    order_first (obus_in s) (all_fine_obus (payloads s) r.tsobus) r.order
