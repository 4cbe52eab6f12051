-- A PES opens, takes payload and closes: from what stands in the outputs and a test or a call's answer, what then follows. Assumes nothing.
use Rattle.std.specs.Prelude.{Result, Ok, Err, Option, Some, None}
use Prim.Native.Nat.{ℕ, ◌+◌, ◌*◌, ◌≤◌, ◌<◌}
use mathlib.Core.Bool.{Bool, true, false, not, ◌&&◌, ◌||◌}
use mathlib.Core.Path.{◌≡◌, refl, sym, ap, ap₂, subst, ◌∙◌}
use mathlib.Core.List.{List, [], ◌∷◌, ◌++◌}
use native.Mathlib.Omega.{arith}
use borrow.Author.Tests.{lt-ltb, le-ltb}
use lib.Dec.{ltb}
use lib.ListN.{length, take, drop}
use Rattle.lists.specs.Lists.{Bytes, pick, placed}
use Rattle.lists.proofs.Tests.{case}
use Rattle.refusal.specs.Verdict.{Verdict, passed, refused, ◌>>=◌, ◌>>◌, given, at_place, NoValue}
use Rattle.refusal.specs.declared.Refused.{Refused}
use Rattle.refusal.specs.Number.{number_of, refused_by}
use Rattle.refusal.proofs.Verdicts.{pass_on, refuse_at, pass_at, go_on, stop, passed_then, passed_after, given_passed, never, refused_first}
use Rattle.descriptor.specs.Edition.{Edition}
use Rattle.packet.specs.Header.{has_payload, payload, payload_unit_start_indicator}
use Rattle.pes.specs.declared.header.Header.{Header}
use Rattle.pes.specs.Pes as pes
use Rattle.pes.specs.Pes.{reading, no_times, times_of, header_of, pes_data}
use Rattle.pes.proofs.Headers.{read_header, reading_refused}
use Rattle.ticks.specs.declared.Ticks90.{Ticks90}
use Rattle.unit.specs.Unit.{read_unit}
use Rattle.unit.specs.Answer.{checking}
use Rattle.unit.specs.declared.reading.Counts.{Counts}
use Rattle.segment_rules.specs.State as state
use Rattle.segment_rules.specs.State.{OpenPes, State, with_extraction, with_pes, with_unit}
use Rattle.segment_rules.specs.Rules.{Rooms, in_sequence, on_units, rule, rule29, rule30, rule31, rule34, rule8, carried, added_to}
use Rattle.segment_rules.specs.Rules.{av1_start, av1_more, close_open, close_if_open, close_pes, unit_of, length_wrong, is_open, is_pcr}
use Rattle.segment_rules.specs.Rules.{open_bytes}
use Rattle.segment_rules.specs.Rules.{carried_so_far, most_units, with_next, payload_rules, pes_rules}
use Rattle.segment_rules.specs.Check.{Outputs, outputs_of, rooms_of}
use Rattle.segment_rules.proofs.Sequence.{bind_same, then_same, sequence_append, rule_then, starts, adds}
use Rattle.tables.specs.Tables.{Refines}
use Rattle.tables.proofs.Refining.{refines_as, refines_also}
use Rattle.units.specs.declared.state.PesFound.{PesFound}
use Rattle.units.specs.declared.units.Extraction.{Extraction}
use Rattle.units.specs.Extraction.{ExtractionResult}
use Rattle.units.specs.Extraction.{open_pes, pes_of, units_begun, Fits, UnitsRepresent, PayloadOf, PesRefines}
use Rattle.units.specs.Extraction.{UnitsRefused, refused_units, is_beyond}
use Rattle.units.specs.Parts.{is_absent, closed_units, lens_closed, times_closed, JudgedRefines, RoomsRepresent, OpeningRefines}
use Rattle.units.proofs.Holding.{written, no_bytes, same_bytes, same_lens, same_times, unit_bytes, opened_with, stands_opened}
use Rattle.units.proofs.Holding.{stands_added}
use Rattle.units.proofs.Holding.{stands_already, stands_put, stands_as, lens_kept, times_kept}

-- ---- the unit of a PES that closes
-- what a verdict was before it was placed
unplaced : {A : Type 0} (v : Verdict A) (i : ℕ) (a : A) → at_place i v ≡ passed a → v ≡ passed a
unfolding at_place
unplaced (passed b) i a e = e
unplaced (refused n p) i a e = never e

unplaced_refusal : {A : Type 0} (v : Verdict A) (i n q : ℕ) → at_place i v ≡ refused n q → (p : ℕ) × (v ≡ refused n p) × (q ≡ i)
unfolding at_place
unplaced_refusal (passed b) i n q e = never (sym e)
unplaced_refusal (refused m p) i n q e =
    let g : m ≡ n = cc in
    let h : q ≡ i = cc in
    (p, ap (λ (k : ℕ). refused k p) g, h)

module _ (o : OpenPes) (x : state.Extraction) where
  -- its length is wrong
  pub judged_length : length_wrong o ≡ true → close_open o x ≡ refused 32 o.first
  unfolding close_open
  judged_length e = sym (refuse_at o.first 32 _ e)

  module _ (e : length_wrong o ≡ false) where
    -- reading accepts it
    pub judged_right : (c : Counts) → passed c ≡ at_place o.first (checking o.bytes)
        → Refines (Ok tt) (close_open o x) (λ y. y ≡ with_unit (unit_of o) x)
    unfolding close_open checking ◌>>◌ at_place
    judged_right c k =
        let h = passed_then (read_unit o.bytes) _ c (unplaced (checking o.bytes) o.first c (sym k)) in
        (with_unit (unit_of o) x, sym (pass_at o.first 32 e (rw h.1)), refl)

    -- reading refuses it
    pub judged_refused : (q : Refused) → refused_by q ≡ at_place o.first (checking o.bytes) → close_open o x ≡ refused_by q
    unfolding close_open checking ◌>>◌ at_place
    judged_refused q k =
        let number = number_of q.why in
        let u = unplaced_refusal (checking o.bytes) o.first number q.place (sym k) in
        let h = refused_first (read_unit o.bytes) _ number u.0 u.1 in
        sym (ap (refused number) u.2 ∙ pass_at o.first 32 e (rw h))

-- ---- the open PES closes
-- its unit's length and times have their places
pub unit_placed : (e : Extraction) (f : PesFound) → e.pes ≡ Some f → (m n : ℕ) → units_begun e.pes e.units ≤ m
    → 2 * units_begun e.pes e.units ≤ n → (e.units < m) × (2 * e.units + 1 < n)
unit_placed e f o m n in_lens in_times =
    let begun : units_begun e.pes e.units ≡ e.units + 1 = ap (λ (p : Option PesFound). units_begun p e.units) o in
    (omega (arith, begun, in_lens), omega (arith, begun, in_times))

module _ {before : Outputs} {out lens times : List ℕ} {e : Extraction} {x : state.Extraction}
    (s : UnitsRepresent before (outputs_of out lens times) e x) where
  -- there is none
  pub none_closes : e.pes ≡ None → Refines (Ok tt) (close_pes x)
      (UnitsRepresent before (outputs_of out (lens_closed e lens) (times_closed e times)) (closed_units e))
  unfolding close_if_open
  none_closes c =
      (x, ap (λ (p : Option OpenPes). close_if_open p x) (s.pes ∙ ap (pes_of (open_bytes x.pes)) c), stands_already s c)

  module _ (f : PesFound) (o : e.pes ≡ Some f) where
    is_open_lem : x.pes ≡ Some (open_pes f (open_bytes x.pes))
    is_open_lem = s.pes ∙ ap (pes_of (open_bytes x.pes)) o

    -- the verdict on its unit
    module _ (judged : Result NoValue Refused) (bytes : Bytes) (lent : bytes ≡ take e.bytes (drop e.start out))
        (says : (y : state.Extraction) → Refines judged (close_open (open_pes f bytes) y)
        (λ z. z ≡ with_unit (unit_of (open_pes f bytes)) y)) where
      closes : Refines judged (close_pes x) (λ z. z ≡ with_unit (unit_of (open_pes f (open_bytes x.pes))) x)
      unfolding close_if_open
      closes =
          refines_as (close_open (open_pes f (open_bytes x.pes)) x) (λ z. z ≡ with_unit (unit_of (open_pes f (open_bytes x.pes))) x)
          (close_pes x) judged
          (sym (ap (λ (p : Option OpenPes). close_if_open p x) is_open_lem))
          (subst (λ (b : Bytes). Refines judged (close_open (open_pes f b) x) (λ z. z ≡ with_unit (unit_of (open_pes f b)) x))
          (lent ∙ unit_bytes s) (says x))

      -- is that on the closing; where it passes, its length and times are in their places
      pub unit_closes : Refines judged (close_pes x)
          (UnitsRepresent before (outputs_of out (lens_closed e lens) (times_closed e times)) (closed_units e))
      unit_closes =
          refines_also (close_pes x) (λ z. z ≡ with_unit (unit_of (open_pes f (open_bytes x.pes))) x)
          (UnitsRepresent before (outputs_of out (lens_closed e lens) (times_closed e times)) (closed_units e)) judged closes
          (λ z _ k. subst (UnitsRepresent before (outputs_of out (lens_closed e lens) (times_closed e times)) (closed_units e)) (sym k)
          (stands_put s f o))

-- where its verdict passes, the unit's length and times stand in their places
pub closes_passed : {e : Extraction} {out : Bytes} → JudgedRefines e out (Ok tt) → (before : Outputs) (lens times : List ℕ)
    (x : state.Extraction) → UnitsRepresent before (outputs_of out lens times) e x
    → (lens' times' : List ℕ) (e' : Extraction) → lens' ≡ lens_closed e lens → times' ≡ times_closed e times → e' ≡ closed_units e
    → Refines (Ok tt) (close_pes x) (UnitsRepresent before (outputs_of out lens' times') e')
closes_passed says before lens times x s lens' times' e' l t m =
    let c = says lens times before x s in (c.0, c.1, stands_as c.2 l t m)

-- ---- the rooms, from the code's places
module _ {before now : Outputs} {e : Extraction} {x : state.Extraction} (s : UnitsRepresent before now e x) where
  units_few : e.units < 1024 → ltb most_units (with_next x) ≡ false
  units_few h = le-ltb 1024 (with_next x) (omega (arith, s.units))

  units_many : 1024 ≤ e.units → ltb most_units (with_next x) ≡ true
  units_many h = lt-ltb 1024 (with_next x) (omega (arith, s.units))

  bytes_fit : (w : Bytes) → e.start + e.bytes + length w ≤ length now.bytes → ltb (length before.bytes)
      (length (carried_so_far x) + length w) ≡ false
  bytes_fit w h = le-ltb (length before.bytes) (length (carried_so_far x) + length w) (omega (arith, same_bytes s, written s))

  bytes_pass : (w : Bytes) → length now.bytes < e.start + e.bytes + length w → ltb (length before.bytes)
      (length (carried_so_far x) + length w) ≡ true
  bytes_pass w h = lt-ltb (length before.bytes) (length (carried_so_far x) + length w) (omega (arith, same_bytes s, written s))

-- ---- 31, 34, 8 of a payload with which a PES is to open
module _ (i : ℕ) (p w : Bytes) (st : State) {before now : Outputs} {e : Extraction} {rooms : Rooms} (r : RoomsRepresent rooms now)
    (is : PayloadOf p true w)
    (s : UnitsRepresent before now e st.extraction) where
  abbrev three : Verdict State
  three = in_sequence (rule31 i p state.Av1 ∷ rule34 i p state.Av1 ∷ rule8 i p state.Av1 (rooms_of before) ∷ []) st

  abbrev tries : Verdict State
  tries =
      at_place i (given 31 (not (is_pcr st.tables.pcr)))
      >> (at_place i (given 34 (ltb most_units (with_next st.extraction)))
      >> (at_place i
      (given 8
      (ltb (length before.bytes) (length (carried_so_far st.extraction) + length (pes_data (payload p)))
      || (ltb (length before.lens) (with_next st.extraction) || ltb (length before.times) (2 * with_next st.extraction))))
      >> passed st))

  three_tries : three ≡ tries
  unfolding in_sequence rule rule31 rule34 rule8 pick
  three_tries =
      rw (is.carries, is.starts)
      (rule_then i 31 st _ refl ∙ then_same _ (rule_then i 34 st _ refl ∙ then_same _ (rule_then i 8 st _ refl)))

  pub may_unseen : is_pcr st.tables.pcr ≡ false → three ≡ refused 31 i
  may_unseen k = three_tries ∙ sym (refuse_at i 31 _ (ap not k))

  module _ (k : is_pcr st.tables.pcr ≡ true) where
    pub may_many : 1024 ≤ e.units → three ≡ refused 34 i
    may_many m = three_tries ∙ sym (pass_at i 31 (ap not k) (refuse_at i 34 _ (units_many s m)))

    module _ (m : e.units < 1024) (f : PesFound) (closed : e.pes ≡ None) (e' : Extraction)
        (opened : e' ≡ record { pes = Some f; units = e.units; start = e.start; bytes = length (pes_data w) }) where
      -- the code's test is that of 8
      test : is_beyond e' rooms
          ≡ (ltb (length before.bytes) (length (carried_so_far st.extraction) + length (pes_data (payload p)))
          || (ltb (length before.lens) (with_next st.extraction) || ltb (length before.times) (2 * with_next st.extraction)))
      test =
          let next : e.units + 1 ≡ with_next st.extraction = omega (arith, s.units) in
          let end : e.start + length (pes_data w) ≡ length (carried_so_far st.extraction) + length (pes_data (payload p)) =
          omega (arith, written s, no_bytes s closed, ap (λ (u : Bytes). length (pes_data u)) is.same) in
          ap (λ (y : Extraction). is_beyond y rooms) opened
          ∙ ap₂ (λ (a b : Bool). a || b) (ap₂ ltb (r.bytes ∙ same_bytes s) end)
          (ap₂ (λ (a b : Bool). a || b) (ap₂ ltb (r.lens ∙ same_lens s) next)
          (ap₂ (λ (a b : ℕ). ltb a (2 * b)) (r.times ∙ same_times s) next))

      pub may_beyond : is_beyond e' rooms ≡ true → three ≡ refused 8 i
      may_beyond b =
          three_tries ∙ sym (pass_at i 31 (ap not k) (pass_at i 34 (units_few s m) (refuse_at i 8 _ (sym test ∙ b))))

      pub may_all : is_beyond e' rooms ≡ false → Refines (Ok tt) three (λ st'. st' ≡ st)
      may_all b =
          (st, three_tries ∙ sym (pass_at i 31 (ap not k) (pass_at i 34 (units_few s m) (pass_at i 8 (sym test ∙ b) refl))), refl)

-- ---- a PES opens
-- what a verdict at another place says
pub at_passed : {A : Type 0} (i : ℕ) (v : Verdict A) (a : A) → at_place i v ≡ passed a → v ≡ passed a
unfolding at_place
at_passed i (passed b) a k = k
at_passed i (refused n m) a k = never k

pub at_refused : {A : Type 0} (i : ℕ) (v : Verdict A) (number place : ℕ) → at_place i v ≡ refused number place
    → (m : ℕ) × (v ≡ refused number m) × (i ≡ place)
unfolding at_place
at_refused i (passed a) number place k = never (sym k)
at_refused {A} i (refused n m) number place k = (m, ap (λ (x : ℕ). refused x m) (number_same k), place_same k)
  where
    number_same : ◌≡◌ {A = Verdict A} (refused n i) (refused number place) → n ≡ number
    number_same e = cc

    place_same : ◌≡◌ {A = Verdict A} (refused n i) (refused number place) → i ≡ place
    place_same e = cc

module _ (edition : Edition) (rooms : Rooms) (i : ℕ) (p : Bytes) (st : State) (h : has_payload p ≡ true)
    (b : payload_unit_start_indicator p ≡ true) where
  or_none : (x : Bool) → (x || false) ≡ x
  or_none true = refl
  or_none false = refl

  not_more : ((av1_start i p state.Av1 && pes.header_wrong (payload p)) || (av1_more i p state.Av1 && not (is_open st.extraction.pes))) ≡
      pes.header_wrong (payload p)
  not_more = rw (h, b) (or_none (pes.header_wrong (payload p)))

  at_start : (av1_start i p state.Av1 && (edition.times_needed && no_times (payload p))) ≡ (edition.times_needed && no_times (payload p))
  at_start = rw (h, b)

  another_open : (st1 : State) → in_sequence (carried i p state.Av1 ∷ []) st1
      ≡ passed (with_extraction (with_pes (record {
        first =
            i;
        header = header_of (payload p);
        bytes = pes_data (payload p);
      }) st1.extraction) st1)
  unfolding in_sequence on_units ◌>>=◌ carried pick
  another_open st1 = rw (h, b)

  -- 29, 30; 31, 34, 8; and another PES is open
  opens_parts : in_sequence (payload_rules edition rooms i p state.Av1) st
      ≡ (at_place i (given 29 (pes.header_wrong (payload p)))
      >> (at_place i (given 30 (edition.times_needed && no_times (payload p)))
      >> (in_sequence (rule31 i p state.Av1 ∷ rule34 i p state.Av1 ∷ rule8 i p state.Av1 rooms ∷ []) st
      >>= λ st1. passed
      (with_extraction (with_pes (record { first = i; header = header_of (payload p); bytes = pes_data (payload p) }) st1.extraction)
      st1))))
  unfolding in_sequence rule rule29 rule30
  opens_parts =
      rule_then i 29 st _ not_more
      ∙ then_same _ (rule_then i 30 st _ at_start
      ∙ then_same _ (sequence_append (rule31 i p state.Av1 ∷ rule34 i p state.Av1 ∷ rule8 i p state.Av1 rooms ∷ [])
      (carried i p state.Av1 ∷ []) st
      ∙ bind_same (in_sequence (rule31 i p state.Av1 ∷ rule34 i p state.Av1 ∷ rule8 i p state.Av1 rooms ∷ []) st)
      (in_sequence (carried i p state.Av1 ∷ []))
      (λ st1. passed (with_extraction (with_pes (record { first = i; header = header_of (payload p); bytes = pes_data (payload p) })
      st1.extraction) st1))
      another_open))

absent_by : (t : Bool) (x y : Ticks90) → is_absent (pick t None (pes.stamps x y)) ≡ t
unfolding pick
absent_by true x y = refl
absent_by false x y = refl

module _ (edition : Edition) (i : ℕ) (p w : Bytes) (st : State) (before : Outputs) (is : PayloadOf p true w) where
  abbrev rules : Verdict State
  rules = in_sequence (payload_rules edition (rooms_of before) i p state.Av1) st

  parts : {v : Verdict State}
      → v
      ≡ (at_place i (given 29 (pes.header_wrong w))
      >> (at_place i (given 30 (edition.times_needed && no_times w))
      >> (in_sequence (rule31 i p state.Av1 ∷ rule34 i p state.Av1 ∷ rule8 i p state.Av1 (rooms_of before) ∷ []) st
      >>= λ st1. passed (with_extraction (with_pes (record { first = i; header = header_of w; bytes = pes_data w }) st1.extraction) st1))))
      → v ≡ rules
  parts k =
      k
      ∙ ap (λ (u : Bytes). at_place i (given 29 (pes.header_wrong u))
      >> (at_place i (given 30 (edition.times_needed && no_times u))
      >> (in_sequence (rule31 i p state.Av1 ∷ rule34 i p state.Av1 ∷ rule8 i p state.Av1 (rooms_of before) ∷ []) st
      >>= λ st1. passed (with_extraction (with_pes (record { first = i; header = header_of u; bytes = pes_data u }) st1.extraction) st1))))
      is.same
      ∙ sym (opens_parts edition (rooms_of before) i p st is.carries is.starts)

  -- 29
  pub opens_wrong : (number place : ℕ) → at_place i (reading w) ≡ refused number place → rules ≡ refused number place
  unfolding reading
  opens_wrong number place k =
      let at = at_refused i (reading w) number place k in
      case (pes.header_wrong w)
      (λ t.
      sym (parts (ap₂ (λ (n m : ℕ). refused n m) (reading_refused w number at.0 at.1).0 (sym at.2) ∙ refuse_at i 29 _ t)))
      (λ t. never (sym (pass_on 29 t refl ∙ at.1)))

  module _ (header : Header) (read : reading w ≡ passed header) where
    right : pes.header_wrong w ≡ false
    unfolding reading
    right = given_passed 29 (pes.header_wrong w) (passed_after (given 29 (pes.header_wrong w)) (passed (header_of w)) header read).0

    -- 30, by the header's times
    by_times : (edition.times_needed && is_absent header.times) ≡ (edition.times_needed && no_times w)
    unfolding times_of
    by_times =
        ap (λ (t : Bool). edition.times_needed && t)
        (ap (λ (x : Header). is_absent x.times) (read_header w header read) ∙ absent_by (no_times w) _ _)

    pub opens_untimed : (edition.times_needed && is_absent header.times) ≡ true → rules ≡ refused 30 i
    opens_untimed k = sym (parts (pass_at i 29 right (refuse_at i 30 _ (sym by_times ∙ k))))

    module _ (k : (edition.times_needed && is_absent header.times) ≡ false) where
      then_three : {v : Verdict State}
          → v
          ≡ (in_sequence (rule31 i p state.Av1 ∷ rule34 i p state.Av1 ∷ rule8 i p state.Av1 (rooms_of before) ∷ []) st
          >>= λ st1. passed (with_extraction (with_pes (record { first = i; header = header_of w; bytes = pes_data w }) st1.extraction)
          st1))
          → v ≡ rules
      then_three g = parts (pass_at i 29 right (pass_at i 30 (sym by_times ∙ k) g))

      -- 31, 34, 8
      pub opens_refused : (number place : ℕ)
          → in_sequence (rule31 i p state.Av1 ∷ rule34 i p state.Av1 ∷ rule8 i p state.Av1 (rooms_of before) ∷ []) st
          ≡ refused number place → rules ≡ refused number place
      opens_refused number place may = sym (then_three (stop _ _ _ may))

      -- the bytes are in the output
      pub opens_right : Refines (Ok tt) (in_sequence (rule31 i p state.Av1 ∷ rule34 i p state.Av1 ∷ rule8 i p state.Av1
          (rooms_of before) ∷ []) st) (λ st1. st1 ≡ st)
          → {out lens times : List ℕ} {e : Extraction} → UnitsRepresent before (outputs_of out lens times) e st.extraction
          → (bytes out' : Bytes) → bytes ≡ pes_data w → out' ≡ placed out e.start bytes → e.pes ≡ None
          → (rooms : Rooms) → RoomsRepresent rooms (outputs_of out lens times)
          → Fits (opened_with (record { first = i; header = header }) (length bytes) e) rooms
          → Refines (Ok tt) rules
          (λ st'. (st'.tables ≡ st.tables)
          × UnitsRepresent before (outputs_of out' lens times)
          (opened_with (record { first = i; header = header }) (length bytes) e) st'.extraction)
      opens_right t {out} {lens} {times} {e} s bytes out' lent put closed rooms r fits =
          let f : PesFound = record { first = i; header = header } in
          let e' : Extraction = opened_with f (length bytes) e in
          let stands = stands_opened s bytes f closed
          (record {
            in_bytes = omega (arith, fits.in_bytes, r.bytes, same_bytes s);
            in_lens = omega (arith, fits.in_lens, r.lens, same_lens s);
            in_times = omega (arith, fits.in_times, r.times, same_times s);
          }) in (
            with_extraction (with_pes (open_pes f bytes) st.extraction) st,
            sym (then_three (go_on st _ (t.1 ∙ ap passed t.2)
                (ap₂ (λ (x : Header) (y : Bytes). passed (with_extraction
                (with_pes (record { first = i; header = x; bytes = y }) st.extraction) st)) (read_header w header read) lent))),
            (
              refl,
              subst (λ (y : Bytes). UnitsRepresent before (outputs_of y lens times) e' (with_pes (open_pes f bytes) st.extraction))
                  (sym put) stands,
            ),
          )

-- ---- a refusal is handed back with the fresh units, and what was lent stays
pub kept_refused : {A : Type 0} (q : Refused) (now : A) → UnitsRefused now (refused_units q) now
kept_refused q now r k = (ap refused_units (same k), refl)
  where
    same : ◌≡◌ {A = Result NoValue Refused} (Err q) (Err r) → q ≡ r
    same e = cc

-- ---- a payload that starts a PES
module _ (edition : Edition) (i : ℕ) (p w : Bytes) (st : State) (before : Outputs) (is : PayloadOf p true w) where
  abbrev all : Verdict State
  all = in_sequence (pes_rules edition (rooms_of before) i p state.Av1) st

  -- what follows the closing
  abbrev rest : Verdict state.Extraction → Verdict State
  rest v = (v >>= λ x. passed (with_extraction x st)) >>= in_sequence (payload_rules edition (rooms_of before) i p state.Av1)

  starts_with : all ≡ rest (close_pes st.extraction)
  unfolding on_units
  starts_with = starts edition (rooms_of before) i p st is.carries is.starts

  module _ {e : Extraction} {out lens times : List ℕ} (s : UnitsRepresent before (outputs_of out lens times) e st.extraction) where
    -- the closing refused
    pub starts_refused : (number place : ℕ) → close_pes st.extraction ≡ refused number place → all ≡ refused number place
    unfolding ◌>>=◌
    starts_refused number place says = starts_with ∙ ap rest says

    -- it passed, and the opening follows from the state that it leaves
    pub starts_opens : JudgedRefines e out (Ok tt) → (next : Extraction) → next ≡ closed_units e → (rooms : Rooms)
        → RoomsRepresent rooms (outputs_of out lens times) → (pcr_seen : Bool) → is_pcr st.tables.pcr ≡ pcr_seen
        → (r : ExtractionResult) (out' : Bytes) → OpeningRefines edition i w pcr_seen next rooms out r out'
        → PesRefines before (pes_rules edition (rooms_of before) i p state.Av1) st r
        (outputs_of out' (lens_closed e lens) (times_closed e times))
    unfolding ◌>>=◌
    starts_opens says next is-next rooms room pcr_seen pcr r out' opened =
        let after = outputs_of out' (lens_closed e lens) (times_closed e times) in
        let c = says lens times before st.extraction s in
        refines_as (in_sequence (payload_rules edition (rooms_of before) i p state.Av1) (with_extraction c.0 st))
        (λ st'. (st'.tables ≡ st.tables) × UnitsRepresent before after r.extraction st'.extraction) all r.outcome
        (sym (starts_with ∙ ap rest c.1))
        (opened before (lens_closed e lens) (times_closed e times) p (with_extraction c.0 st)
        (record {
          bytes = room.bytes;
          lens = room.lens ∙ sym (lens_kept e.pes e.units e.bytes lens);
          times = room.times ∙ sym (times_kept e.pes e.units times);
        }) is pcr (ap (λ (y : Extraction). y.pes) is-next) (stands_as c.2 refl refl is-next))

-- ---- a payload that goes on with the open PES
module _ (edition : Edition) (i : ℕ) (p w : Bytes) (st : State) {before : Outputs} {out lens times : List ℕ} {e : Extraction}
    (is : PayloadOf p false w)
    (s : UnitsRepresent before (outputs_of out lens times) e st.extraction) where
  abbrev more : Verdict State
  more = in_sequence (pes_rules edition (rooms_of before) i p state.Av1) st

  added : {v : Verdict State}
      → v
      ≡ (at_place i (given 29 (not (is_open st.extraction.pes)))
      >> (at_place i (given 31 (not (is_pcr st.tables.pcr)))
      >> (at_place i (given 8 (ltb (length before.bytes) (length (carried_so_far st.extraction) + length w)))
      >> passed (with_extraction (added_to i p state.Av1 st.extraction.pes st.extraction) st))))
      → v ≡ more
  added k =
      k
      ∙ ap (λ (u : Bytes). at_place i (given 29 (not (is_open st.extraction.pes)))
      >> (at_place i (given 31 (not (is_pcr st.tables.pcr)))
      >> (at_place i (given 8 (ltb (length before.bytes) (length (carried_so_far st.extraction) + length u)))
      >> passed (with_extraction (added_to i p state.Av1 st.extraction.pes st.extraction) st)))) is.same
      ∙ sym (adds edition (rooms_of before) i p st is.carries is.starts)

  pub adds_closed : e.pes ≡ None → more ≡ refused 29 i
  adds_closed c =
      sym (added (refuse_at i 29 _ (ap (λ (q : Option OpenPes). not (is_open q)) (s.pes ∙ ap (pes_of (open_bytes st.extraction.pes)) c))))

  module _ (f : PesFound) (o : e.pes ≡ Some f) where
    goes_on : not (is_open st.extraction.pes) ≡ false
    goes_on = ap (λ (q : Option OpenPes). not (is_open q)) (is_open_lem s f o)

    pub adds_unseen : is_pcr st.tables.pcr ≡ false → more ≡ refused 31 i
    adds_unseen k = sym (added (pass_at i 29 goes_on (refuse_at i 31 _ (ap not k))))

    module _ (k : is_pcr st.tables.pcr ≡ true) where
      pub adds_bytes : length out < e.start + e.bytes + length w → more ≡ refused 8 i
      adds_bytes b = sym (added (pass_at i 29 goes_on (pass_at i 31 (ap not k) (refuse_at i 8 _ (bytes_pass s w b)))))

      -- the open PES has these bytes more
      longer_by : added_to i p state.Av1 st.extraction.pes st.extraction ≡ with_pes (open_pes f (open_bytes st.extraction.pes ++ w))
          st.extraction
      unfolding added_to pick
      longer_by =
          ap (λ (q : Option OpenPes). added_to i p state.Av1 q st.extraction) (is_open_lem s f o)
          ∙ rw (is.carries, is.starts) (ap (λ (u : Bytes). with_pes (open_pes f (open_bytes st.extraction.pes ++ u)) st.extraction)
          (sym is.same))

      pub adds_right : {out' : List ℕ} → e.start + e.bytes + length w ≤ length out → out' ≡ placed out (e.start + e.bytes) w
          → Refines (Ok tt) more
          (λ st'. (st'.tables ≡ st.tables)
          × UnitsRepresent before (outputs_of out' lens times) (record {
            pes =
                Some f;
            units = e.units;
            start = e.start;
            bytes = e.bytes + length w;
          }) st'.extraction)
      adds_right {out'} b g =
          let e' : Extraction = record { pes = Some f; units = e.units; start = e.start; bytes = e.bytes + length w } in
          let x' = with_pes (open_pes f (open_bytes st.extraction.pes ++ w)) st.extraction in
          let stands = stands_added s w f o (omega (arith, same_bytes s)) in (
            with_extraction x' st,
            sym (added (pass_at i 29 goes_on (pass_at i 31 (ap not k)
                (pass_at i 8 (bytes_fit s w b) (ap (λ (y : state.Extraction). passed (with_extraction y st)) (sym longer_by)))))),
            (refl, subst (λ (l : List ℕ). UnitsRepresent before (outputs_of l lens times) e' x') (sym g) stands),
          )
