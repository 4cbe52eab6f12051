-- Checking, try by try. Assumes nothing.
use Prim.Native.Nat.{ℕ, ◌≤◌, ◌<◌}
use mathlib.Core.Bool.{Bool, true, false, not, ◌||◌, or-false}
use mathlib.Core.Path.{◌≡◌, refl, sym, ap, ◌∙◌}
use mathlib.Core.List.{List, [], ◌∷◌, map, flatten}
use native.Mathlib.Omega.{arith}
use borrow.Author.Tests.{lt-ltb, le-ltb, ltb-false}
use lib.Dec.{ltb}
use lib.ListN.{length, take, drop, length-map, length-append, take-append-drop}
use Rattle.lists.specs.Lists.{Bytes}
use Rattle.lists.proofs.Tests.{case, or_neither}
use Rattle.refusal.specs.Verdict.{Verdict, passed, refused, ◌>>=◌, ◌>>◌, given, in_turn}
use Rattle.refusal.proofs.Verdicts.{refuse, pass_on, follows, stops, then_bind, then_refused, never, passed_after, passed_same, passed_then}
use Rattle.refusal.proofs.Verdicts.{given_passed}
use Rattle.emulation.specs.Payload.{unescape}
use Rattle.obu.specs.Header.{size_width}
use Rattle.obu.specs.Order.{Kind, kind_of, order_refusal}
use Rattle.obu.specs.Table.{kind_meant}
use Rattle.obu.specs.declared.ordering.Kind as code_kind
use Rattle.unit.specs.Unit.{most_carried, most_obus, most_obu_bytes, obus_in, sum, read_unit}
use Rattle.tsobu.specs.StartCodes.{at_start_code, payloads}
use Rattle.tsobu.specs.TsObu.{tsobu_refusal}
use Rattle.unit.specs.Unit.{dropped_in}
use Rattle.unit.specs.Answer.{checking, reading, too_short, reading_widths}
use Rattle.unit.specs.Parts.{kind_in, ends_from, ends_of, widths_of, payload_counts, counted_payloads, whole_counts, Notes}
use Rattle.unit.specs.declared.reading.Counts.{Counts}
use Rattle.unit.specs.declared.reading.Note.{Note}
use Rattle.unit.proofs.Acceptance.{reads}
use Rattle.unit.proofs.Lengths.{sum_lengths}

abbrev pub counts : Bytes → Counts
counts s = record { obus = length (obus_in s); bytes = sum (map length (obus_in s)); dropped = dropped_in s }

-- the kinds of the OBUs, by their payloads
kinds : (ps : List Bytes) → map kind_in ps ≡ map kind_of (map unescape ps)
kinds [] = refl
kinds (p ∷ ps) = ap (λ (l : List Kind). kind_of (unescape p) ∷ l) (kinds ps)

module _ (s : Bytes) where
  -- the tries of checking in a row
  tries : Verdict Counts
  tries =
      given 2 (ltb most_carried (length s))
      >> given 9 (not (at_start_code s))
      >> given 1 (ltb most_obus (length (payloads s)))
      >> in_turn tsobu_refusal 0 (payloads s)
      >> given 2 (ltb most_obu_bytes (sum (map length (obus_in s))))
      >> order_refusal (map kind_of (obus_in s))
      >> passed (counts s)

  tries_are : tries ≡ checking s
  unfolding tries checking read_unit ◌>>=◌
  tries_are =
      sym
      (then_bind (given 2 (ltb most_carried (length s))) _ _
      ∙ ap (λ (v : Verdict Counts). given 2 (ltb most_carried (length s)) >> v)
      (then_bind (given 9 (not (at_start_code s))) _ _
      ∙ ap (λ (v : Verdict Counts). given 9 (not (at_start_code s)) >> v)
      (then_bind (given 1 (ltb most_obus (length (payloads s)))) _ _
      ∙ ap (λ (v : Verdict Counts). given 1 (ltb most_obus (length (payloads s))) >> v)
      (then_bind (in_turn tsobu_refusal 0 (payloads s)) _ _
      ∙ ap (λ (v : Verdict Counts). in_turn tsobu_refusal 0 (payloads s) >> v)
      (then_bind (given 2 (ltb most_obu_bytes (sum (map length (obus_in s))))) _ _
      ∙ ap (λ (v : Verdict Counts). given 2 (ltb most_obu_bytes (sum (map length (obus_in s)))) >> v)
      (then_bind (order_refusal (map kind_of (obus_in s))) _ _))))))

  pub check_long : most_carried < length s → refused 2 0 ≡ checking s
  unfolding tries
  check_long h = refuse 2 _ (lt-ltb most_carried (length s) h) ∙ tries_are

  pub check_headless : length s ≤ most_carried → at_start_code s ≡ false → refused 9 0 ≡ checking s
  unfolding tries
  check_headless h e = pass_on 2 (le-ltb most_carried (length s) h) (refuse 9 _ (ap not e)) ∙ tries_are

  pub check_many : length s ≤ most_carried → at_start_code s ≡ true → true ≡ ltb most_obus (length (payloads s)) → refused 1 0 ≡ checking s
  unfolding tries
  check_many h e m = pass_on 2 (le-ltb most_carried (length s) h) (pass_on 9 (ap not e) (refuse 1 _ (sym m))) ∙ tries_are

  module _ (h : length s ≤ most_carried) (e : at_start_code s ≡ true) (m : false ≡ ltb most_obus (length (payloads s))) where
    behind : {v : Verdict Counts}
        → v ≡ (in_turn tsobu_refusal 0 (payloads s) >> given 2 (ltb most_obu_bytes (sum (map length (obus_in s))))
        >> order_refusal (map kind_of (obus_in s)) >> passed (counts s))
        → v ≡ checking s
    unfolding tries
    behind k = pass_on 2 (le-ltb most_carried (length s) h) (pass_on 9 (ap not e) (pass_on 1 (sym m) k)) ∙ tries_are

    pub check_refused : (number place : ℕ) → refused number place ≡ payload_counts s → refused number place ≡ checking s
    unfolding payload_counts
    check_refused number place k = behind (stops _ (then_refused (in_turn tsobu_refusal 0 (payloads s)) _ number place (sym k)))

    -- the payloads passed
    pub counts_are : (c : Counts) → passed c ≡ payload_counts s → (in_turn tsobu_refusal 0 (payloads s) ≡ passed tt) × (c ≡ counts s)
    unfolding payload_counts
    counts_are c k =
        let p = passed_after (in_turn tsobu_refusal 0 (payloads s)) _ c (sym k) in
        let n : length (payloads s) ≡ length (obus_in s) = sym (length-map (payloads s) unescape) in
        (p.0, sym (passed_same _ c p.1) ∙ λ i. record { obus = n i; bytes = sum (map length (obus_in s)); dropped = dropped_in s })

    pub check_whole : (c : Counts) (noted : List code_kind.Kind) → passed c ≡ payload_counts s
        → map kind_meant (take (length (payloads s)) noted) ≡ map kind_in (payloads s) → whole_counts c noted ≡ checking s
    unfolding whole_counts
    check_whole c noted k t =
        let n = counts_are c k in
        let m : c.obus ≡ length (payloads s) = ap (λ (x : Counts). x.obus) n.1 ∙ length-map (payloads s) unescape in
        let o : map kind_meant (take c.obus noted) ≡ map kind_of (obus_in s) =
        ap (λ (i : ℕ). map kind_meant (take i noted)) m ∙ t ∙ kinds (payloads s) in
        behind
        (follows n.0
        (ap (λ (x : Counts). given 2 (ltb most_obu_bytes x.bytes) >> order_refusal (map kind_meant (take c.obus noted)) >> passed x)
        n.1
        ∙ ap (λ (l : List Kind). given 2 (ltb most_obu_bytes (sum (map length (obus_in s)))) >> order_refusal l >> passed (counts s)) o))

-- how many OBUs the payloads that passed have
pub counts_obus : (s : Bytes) (c : Counts) → passed c ≡ payload_counts s → c.obus ≡ length (payloads s)
unfolding payload_counts
counts_obus s c k = ap (λ (x : Counts). x.obus) (sym (passed_same _ c (passed_after (in_turn tsobu_refusal 0 (payloads s)) _ c (sym k)).1))

-- ---- 1, and the payloads
module _ (s : Bytes) where
  pub counted_refused : length s ≤ most_carried → at_start_code s ≡ true → (number place : ℕ) → refused number place ≡ counted_payloads s
      → refused number place ≡ checking s
  unfolding counted_payloads
  counted_refused h e number place k =
      case (ltb most_obus (length (payloads s)))
      (λ t. k ∙ sym (refuse 1 (payload_counts s) t) ∙ check_many s h e (sym t))
      (λ t. check_refused s h e (sym t) number place (k ∙ sym (pass_on 1 t refl)))

  pub counted_passed : (c : Counts) → passed c ≡ counted_payloads s
      → (false ≡ ltb most_obus (length (payloads s))) × (passed c ≡ payload_counts s)
  unfolding counted_payloads
  counted_passed c k =
      let p = passed_after (given 1 (ltb most_obus (length (payloads s)))) (payload_counts s) c (sym k) in
      (sym (given_passed 1 (ltb most_obus (length (payloads s))) p.0), sym p.1)

-- ---- the answer, and what is noted
whole_counts_lem : (c : Counts) (noted : List code_kind.Kind) (d : Counts) → whole_counts c noted ≡ passed d → d ≡ c
unfolding whole_counts
whole_counts_lem c noted d e = sym (passed_same c d (passed_after _ _ d (passed_after _ _ d e).1).1)

pub refused_notes : (s : Bytes) (notes : List Note) (number place : ℕ) → refused number place ≡ checking s → Notes s notes
refused_notes s notes number place k = record { ends = λ c p. never (k ∙ p); widths = λ c p. never (k ∙ p) }

pub whole_notes : (s : Bytes) (c : Counts) (noted : List code_kind.Kind) (notes : List Note) → whole_counts c noted ≡ checking s
    → c.obus ≡ length (payloads s) → ends_of (take (length (payloads s)) notes) ≡ ends_from 0 (payloads s)
    → widths_of (take (length (payloads s)) notes) ≡ map size_width (obus_in s) → Notes s notes
whole_notes s c noted notes k n a w =
    let obus : (d : Counts) → checking s ≡ passed d → d.obus ≡ length (payloads s) =
    λ d p. ap (λ (x : Counts). x.obus) (whole_counts_lem c noted d (k ∙ p)) ∙ n in
    record {
      ends = λ d p. ap (λ (m : ℕ). ends_of (take m notes)) (obus d p) ∙ a;
      widths = λ d p. ap (λ (m : ℕ). widths_of (take m notes)) (obus d p) ∙ w;
    }

-- ---- what an accepted unit is
pub record Checked (s : Bytes) (c : Counts) : Type 0 where
  pub headed : at_start_code s ≡ true
  pub obus : c.obus ≡ length (payloads s)
  pub few : c.obus ≤ 64
  pub bytes : c.bytes ≡ length (flatten (obus_in s))
  pub drops : c.dropped ≡ dropped_in s

pub checked : (s : Bytes) (c : Counts) → checking s ≡ passed c → Checked s c
unfolding checking
checked s c e =
    let k = passed_then (read_unit s) _ c e in
    let r = reads s k.0 k.1 in
    let same = passed_same _ c k.2 in
    let n : c.obus ≡ length (payloads s) = sym (ap (λ (x : Counts). x.obus) same) ∙ ap length (sym r.1)
    ∙ length-map (payloads s) unescape in
    record {
      headed = r.0.headed;
      obus = n;
      few = omega (arith, n, r.0.most);
      bytes = sym (ap (λ (x : Counts). x.bytes) same) ∙ ap (λ (l : List Bytes). sum (map length l)) (sym r.1) ∙ sum_lengths (obus_in s);
      drops = sym (ap (λ (x : Counts). x.dropped) same);
    }

-- there is a width for each of its OBUs
pub widths_long : (s : Bytes) (c : Counts) (notes : List Note) → Checked s c → widths_of (take c.obus notes) ≡ map size_width (obus_in s)
    → c.obus ≤ length notes
widths_long s c notes h e =
    let both = length-append (take c.obus notes) (drop c.obus notes) in
    let whole = ap length (take-append-drop c.obus notes) in
    omega (
      arith,
      h.obus,
      ap length e,
      length-map (take c.obus notes) (λ (n : Note). n.width),
      length-map
          (obus_in s) size_width,
      length-map (payloads s) unescape,
      both,
      whole,
    )

-- ---- reading, behind the verdict of checking
module _ (s : Bytes) (bytes lengths widths : ℕ) where
  pub reading_refused : (number place : ℕ) → checking s ≡ refused number place → refused number place ≡ reading_widths s bytes lengths
      widths
  unfolding reading_widths ◌>>=◌
  reading_refused number place e = rw e

  module _ (c : Counts) (e : checking s ≡ passed c) where
    pub reading_short : too_short c bytes lengths widths ≡ true → refused 8 0 ≡ reading_widths s bytes lengths widths
    unfolding reading_widths ◌>>=◌
    reading_short t = rw e (refuse 8 (passed c) t)

    pub reading_fits : too_short c bytes lengths widths ≡ false → passed c ≡ reading_widths s bytes lengths widths
    unfolding reading_widths ◌>>=◌
    reading_fits t = rw e (pass_on 8 t refl)

-- the rooms that are not too short
pub rooms : (c : Counts) (bytes lengths widths : ℕ) → too_short c bytes lengths widths ≡ false
    → (c.bytes ≤ bytes) × (c.obus ≤ lengths) × (c.obus ≤ widths)
rooms c bytes lengths widths t =
    let some = or_neither (ltb bytes c.bytes || ltb lengths c.obus) (ltb widths c.obus) t in
    let first = or_neither (ltb bytes c.bytes) (ltb lengths c.obus) some.0 in
    (ltb-false bytes c.bytes first.0, ltb-false lengths c.obus first.1, ltb-false widths c.obus some.1)

-- with room for 64 widths, reading is by the bytes and the lengths alone
widths_enough : (v : Verdict Counts) (bytes lengths widths : ℕ) → ((c : Counts) → v ≡ passed c → c.obus ≤ widths)
    → (v >>= λ c. given 8 (too_short c bytes lengths widths) >> passed c)
    ≡ (v >>= λ c. given 8 (ltb bytes c.bytes || ltb lengths c.obus) >> passed c)
unfolding ◌>>=◌
widths_enough (passed c) bytes lengths widths h =
    ap (λ (t : Bool). given 8 (ltb bytes c.bytes || ltb lengths c.obus || t) >> passed c) (le-ltb widths c.obus (h c refl))
    ∙ ap (λ (t : Bool). given 8 t >> passed c) (or-false (ltb bytes c.bytes || ltb lengths c.obus))
widths_enough (refused number place) bytes lengths widths h = refl

pub with_64 : (s : Bytes) (bytes lengths : ℕ) → reading_widths s bytes lengths 64 ≡ reading s bytes lengths
unfolding reading_widths reading
with_64 s bytes lengths = widths_enough (checking s) bytes lengths 64 (λ c e. (checked s c e).few)
