-- What one packet does to the units: nothing; or it closes the open PES and opens another; or it adds to the open one (`packet_moves`). So
-- what these steps keep holds of the units of an accepted segment (`accepted_keeps`). Assumes nothing.
use Rattle.std.specs.Prelude.{Option, Some, None}
use Prim.Native.Nat.{ℕ, ◌+◌, ◌*◌, ◌≤◌}
use mathlib.Core.Bool.{Bool, true, false, not, ◌&&◌, ◌||◌}
use mathlib.Core.Path.{◌≡◌, refl, sym, ap, ◌∙◌, subst}
use mathlib.Core.List.{List, [], ◌∷◌, ◌++◌, append-nil, append_assoc}
use native.Mathlib.Omega.{arith}
use borrow.Author.Tests.{ltb-false}
use lib.Dec.{ltb}
use lib.ListN.{length, length-append}
use Rattle.lists.specs.Lists.{Bytes, pick}
use Rattle.lists.proofs.Tests.{case, clash, or_neither}
use Rattle.refusal.specs.Verdict.{Verdict, passed, refused, ◌>>◌, given, at_place}
use Rattle.refusal.proofs.Verdicts.{never, passed_same, passed_then, passed_after, given_passed, at_passed}
use Rattle.refusal.proofs.Turns.{same_place}
use Rattle.descriptor.specs.Edition.{Edition}
use Rattle.packet.specs.Header.{pid, packets, has_payload, payload, payload_unit_start_indicator}
use Rattle.pes.specs.Pes as pes
use Rattle.pes.specs.Pes.{header_of, pes_data, no_times}
use Rattle.unit.specs.Unit.{read_unit}
use Rattle.segment_rules.specs.declared.Totals.{Totals}
use Rattle.segment_rules.specs.State.{FirstPat, FirstPmt, OpenPes, AccessUnit, Extraction, State, no_units, with_pes, with_unit, kind_of}
use Rattle.segment_rules.specs.State.{Kind, Null, Pat, Map, Av1, Listed, Unlisted}
use Rattle.segment_rules.specs.Rules.{Rooms, in_sequence, on_units, rule, is_open, carried_so_far, most_units, with_next, unit_bytes}
use Rattle.segment_rules.specs.Rules.{length_wrong, unit_of, close_open, close_if_open, close_pes, added_to}
use Rattle.segment_rules.specs.Rules.{rule21, rule22, rule23, pcr_counts, rule24, rules25to28}
use Rattle.segment_rules.specs.Rules.{up_to24, payload_rules, pes_rules, after24, is_repeat, unless_repeat, packet_rules}
use Rattle.segment_rules.specs.Check.{Progress, Accepted, step, run, start, rule20, accepted, ending, check_segment}
use Rattle.segment_rules.proofs.Keeping.{passed_at, Holds, Keeps, sequence_keeps, rule_keeps, units_kept}
use Rattle.segment_rules.proofs.Sequence.{repeated, not_repeated, not_av1, no_payload, starts, opens, adds}
use Rattle.segment_rules.proofs.Running.{step_passed}

-- ---- tries that passed
-- a try with its place, and what follows
tried : {A : Type 0} (i number : ℕ) (b : Bool) (v : Verdict A) (a : A) → (at_place i (given number b) >> v) ≡ passed a
    → (b ≡ false) × (v ≡ passed a)
tried i number b v a e =
    let k = passed_after (at_place i (given number b)) v a e in
    (given_passed number b (at_passed i (given number b) k.0), k.1)

-- a step whose value is not handed on
pub passed_so : {A B : Type 0} (v : Verdict A) (w : Verdict B) (b : B) → (v >> w) ≡ passed b → (a : A) × (v ≡ passed a) × (w ≡ passed b)
unfolding ◌>>◌
passed_so (passed a) w b e = (a, refl, e)
passed_so (refused number place) w b e = never e

-- ---- no rule up to 28 touches the units
module _ (i : ℕ) (p : Bytes) where
  units_to_24 : (Q : Extraction → Type 0) → Keeps (λ (st : State). Q st.extraction) (in_sequence (up_to24 i p))
  unfolding rule21 rule22 rule23 pcr_counts rule24
  units_to_24 Q = sequence_keeps _ (up_to24 i p) (off 21 _, (off 22 _, (off 23 _, (units_kept Q _, (units_kept Q _, tt)))))
    where
      off : (number : ℕ) (given_when : State → Bool) → Keeps (λ (st : State). Q st.extraction) (rule i p number given_when)
      off number given_when = rule_keeps (λ (st : State). Q st.extraction) i p number given_when

  pub units_after_24 : (st st' : State) → in_sequence (up_to24 i p) st ≡ passed st' → st'.extraction ≡ st.extraction
  units_after_24 st st' e =
      subst (Holds (λ (st1 : State). st1.extraction ≡ st.extraction)) e (units_to_24 (λ x. x ≡ st.extraction) st refl)

pub units_after_28 : (edition : Edition) (i : ℕ) (p : Bytes) (kind : Kind) (st st' : State) → rules25to28 i p kind edition st ≡ passed st'
    → st'.extraction ≡ st.extraction
unfolding rules25to28
units_after_28 edition i p kind st st' e =
    subst (Holds (λ (st1 : State). st1.extraction ≡ st.extraction)) e (units_kept (λ x. x ≡ st.extraction) _ st refl)

-- ---- one packet
module _ (edition : Edition) (rooms : Rooms) (i : ℕ) (p : Bytes) where
  -- it starts a PES: the open one has closed, no rule from 29 on refused, and another is open
  pub record Starting (x x' : Extraction) : Type 0 where
    pub closed : Extraction
    pub closes : close_pes x ≡ passed closed
    pub header : pes.header_wrong (payload p) ≡ false
    pub times : (edition.times_needed && no_times (payload p)) ≡ false
    pub few : with_next closed ≤ most_units
    pub bytes_fit : length (carried_so_far closed) + length (pes_data (payload p)) ≤ rooms.bytes
    pub lens_fit : with_next closed ≤ rooms.lens
    pub times_fit : 2 * with_next closed ≤ rooms.times
    pub opens : x' ≡ with_pes (record { first = i; header = header_of (payload p); bytes = pes_data (payload p) }) closed

  -- it adds to the open one
  pub record Adding (x x' : Extraction) : Type 0 where
    pub before : OpenPes
    pub there : x.pes ≡ Some before
    pub bytes_fit : length (carried_so_far x) + length (payload p) ≤ rooms.bytes
    pub adds : x' ≡ with_pes (record { first = before.first; header = before.header; bytes = before.bytes ++ payload p }) x

  pub data Moved (x x' : Extraction) : Type 0 where
    stays : x' ≡ x → Moved x x'
    starting : Starting x x' → Moved x x'
    adding : Adding x x' → Moved x x'

  -- ---- the rules of a PES
  start_moves : (st st' : State) → has_payload p ≡ true → payload_unit_start_indicator p ≡ true
      → in_sequence (pes_rules edition rooms i p Av1) st ≡ passed st' → Moved st.extraction st'.extraction
  unfolding on_units
  start_moves st st' h s e =
      let k = passed_then (on_units close_pes st) (in_sequence (payload_rules edition rooms i p Av1)) st'
      (sym (starts edition rooms i p st h s) ∙ e) in
      let c = passed_then (close_pes st.extraction) _ k.0 k.1 in
      let at : k.0.extraction ≡ c.0 = ap (λ (x : State). x.extraction) (sym (passed_same _ k.0 c.2)) in
      let t29 = tried i 29 _ _ st' (sym (opens edition rooms i p st h s k.0) ∙ k.2) in
      let t30 = tried i 30 _ _ st' t29.1 in
      let t31 = tried i 31 _ _ st' t30.1 in
      let t34 = tried i 34 _ _ st' t31.1 in
      let t8 = tried i 8 _ _ st' t34.1 in
      let next = with_next k.0.extraction in
      let bytes = length (carried_so_far k.0.extraction) + length (pes_data (payload p)) in
      let fits = or_neither (ltb rooms.bytes bytes) (ltb rooms.lens next || ltb rooms.times (2 * next)) t8.0 in
      let both = or_neither (ltb rooms.lens next) (ltb rooms.times (2 * next)) fits.1 in
      let units = ap (λ (x : Extraction). length x.units) at in
      starting (record {
        closed = c.0;
        closes = c.1;
        header = t29.0;
        times = t30.0;
        few = omega (arith, ltb-false most_units next t34.0, units);
        bytes_fit = omega (arith, ltb-false rooms.bytes bytes fits.0, ap (λ (x : Extraction). length (carried_so_far x)) at);
        lens_fit = omega (arith, ltb-false rooms.lens next both.0, units);
        times_fit = omega (arith, ltb-false rooms.times (2 * next) both.1, units);
        opens = ap (λ (x : State). x.extraction) (sym (passed_same _ st' t8.1)) ∙ ap (with_pes _) at;
      })

  add_moves : (st st' : State) → has_payload p ≡ true → payload_unit_start_indicator p ≡ false
      → in_sequence (pes_rules edition rooms i p Av1) st ≡ passed st' → Moved st.extraction st'.extraction
  unfolding added_to pick
  add_moves st st' h s e =
      let t29 = tried i 29 _ _ st' (sym (adds edition rooms i p st h s) ∙ e) in
      let t31 = tried i 31 _ _ st' t29.1 in
      let t8 = tried i 8 _ _ st' t31.1 in
      go st.extraction.pes refl t29.0 t8.0 (ap (λ (x : State). x.extraction) (sym (passed_same _ st' t8.1)))
    where
      go : (o : Option OpenPes) → st.extraction.pes ≡ o → not (is_open o) ≡ false
          → ltb rooms.bytes (length (carried_so_far st.extraction) + length (payload p)) ≡ false
          → st'.extraction ≡ added_to i p Av1 o st.extraction
          → Moved st.extraction st'.extraction
      go None at f fits k = clash refl f
      go (Some o) at f fits k =
          let more : unit_bytes i p Av1 ≡ payload p = rw (h, s) in
          adding (record {
            before = o;
            there = at;
            bytes_fit = ltb-false rooms.bytes (length (carried_so_far st.extraction) + length (payload p)) fits;
            adds =
                k
                ∙ ap (λ (w : Bytes). with_pes (record { first = o.first; header = o.header; bytes = o.bytes ++ w })
                st.extraction) more;
          })

  pes_moves : (kind : Kind) (st st' : State) → in_sequence (pes_rules edition rooms i p kind) st ≡ passed st'
      → Moved st.extraction st'.extraction
  pes_moves Av1 st st' e =
      case (has_payload p)
      (λ h. case (payload_unit_start_indicator p) (λ s. start_moves st st' h s e) (λ s. add_moves st st' h s e))
      (λ h. stays (ap (λ (x : State). x.extraction) (sym (passed_same st st' (sym (no_payload edition rooms i p st h) ∙ e)))))
  pes_moves Null st st' e = stays
      (ap (λ (x : State). x.extraction) (sym (passed_same st st' (sym (not_av1 edition rooms i p st Null refl) ∙ e))))
  pes_moves Pat st st' e = stays
      (ap (λ (x : State). x.extraction) (sym (passed_same st st' (sym (not_av1 edition rooms i p st Pat refl) ∙ e))))
  pes_moves Map st st' e = stays
      (ap (λ (x : State). x.extraction) (sym (passed_same st st' (sym (not_av1 edition rooms i p st Map refl) ∙ e))))
  pes_moves Listed st st' e = stays
      (ap (λ (x : State). x.extraction) (sym (passed_same st st' (sym (not_av1 edition rooms i p st Listed refl) ∙ e))))
  pes_moves Unlisted st st' e = stays
      (ap (λ (x : State). x.extraction) (sym (passed_same st st' (sym (not_av1 edition rooms i p st Unlisted refl) ∙ e))))

  -- ---- the whole packet
  pub packet_moves : (kind : Kind) (st st' : State) → packet_rules edition rooms i p kind st ≡ passed st'
      → Moved st.extraction st'.extraction
  unfolding packet_rules in_sequence rules25to28
  packet_moves kind st st' e =
      let k = passed_then (in_sequence (up_to24 i p) st) (unless_repeat p (in_sequence (after24 edition rooms i p kind))) st' e in
      let at = units_after_24 i p st k.0 k.1 in
      case (is_repeat p k.0)
      (λ again. stays (ap (λ (x : State). x.extraction) (sym (passed_same k.0 st' (sym (repeated p _ k.0 again) ∙ k.2))) ∙ at))
      (λ new.
      let q = passed_then (rules25to28 i p kind edition k.0) (in_sequence (pes_rules edition rooms i p kind)) st'
      (sym (not_repeated p _ k.0 new) ∙ k.2) in
      subst (λ (x : Extraction). Moved x st'.extraction)
      (units_after_28 edition i p kind k.0 q.0 q.1 ∙ at)
      (pes_moves kind q.0 st' q.2))

-- ---- the closing of a PES
-- a refusal at closing has "the index of the packet that began it"
pub close_place : (x : Extraction) (number place : ℕ) → close_pes x ≡ refused number place
    → (o : OpenPes) × (x.pes ≡ Some o) × (place ≡ o.first)
unfolding close_if_open close_open at_place ◌>>◌
close_place x number place e = go x.pes refl e
  where
    go : (o : Option OpenPes) → x.pes ≡ o → close_if_open o x ≡ refused number place → (o : OpenPes) × (x.pes ≡ Some o) × (place ≡ o.first)
    go None at k = never (sym k)
    go (Some o) at k =
        (o, at, place_of (given 32 (length_wrong o)) _ k (λ h. place_of (read_unit o.bytes) _ h (λ z. never (sym z))))
      where
        place_of : {A B : Type 0} (v : Verdict A) (w : Verdict B) → (at_place o.first v >> w) ≡ refused number place
            → (w ≡ refused number place → place ≡ o.first) → place ≡ o.first
        place_of (passed a) w h f = f h
        place_of (refused n i) w h f = sym (same_place h)

-- there is none, or its length and its unit are right
pub data Closes (x x' : Extraction) : Type 0 where
  none_open : x.pes ≡ None → x' ≡ x → Closes x x'
  one_open : (o : OpenPes) (l : List Bytes) → x.pes ≡ Some o → length_wrong o ≡ false → read_unit o.bytes ≡ passed l
      → x' ≡ with_unit (unit_of o) x → Closes x x'

pub close_passed : (x x' : Extraction) → close_pes x ≡ passed x' → Closes x x'
unfolding close_if_open close_open
close_passed x x' e = go x.pes refl e
  where
    go : (o : Option OpenPes) → x.pes ≡ o → close_if_open o x ≡ passed x' → Closes x x'
    go None at k = none_open at (sym (passed_same x x' k))
    go (Some o) at k =
        let t32 = tried o.first 32 (length_wrong o) _ x' k in
        let r = passed_so (at_place o.first (read_unit o.bytes)) _ x' t32.1 in
        one_open o r.0 at t32.0 (passed_at o.first (read_unit o.bytes) r.0 r.1) (sym (passed_same _ x' r.2))

-- acceptance gives the state's units
accepted_units : (n : ℕ) (pat : Option FirstPat) (pmt : Option FirstPmt) (units : List AccessUnit) (t : Totals) (a : Accepted)
    → accepted n pat pmt units t ≡ passed a → a.units ≡ units
unfolding accepted
accepted_units n None pmt units t a e = never e
accepted_units n (Some pat) None units t a e = never e
accepted_units n (Some pat) (Some pmt) units t a e = ap (λ (x : Accepted). x.units) (sym (passed_same _ a e))

-- ---- the run
module _ (edition : Edition) (rooms : Rooms) (P : List Bytes → Extraction → Type 0)
    (keeps : (ps : List Bytes) (p : Bytes) (x x' : Extraction) → P ps x → Moved edition rooms (length ps) p x x'
    → P (ps ++ (p ∷ [])) x') where
  run_keeps : (before : List Bytes) (g : Progress) (ps : List Bytes) (g' : Progress) → g.index ≡ length before
      → P before g.state.extraction
      → run edition rooms g ps ≡ passed g' → P (before ++ ps) g'.state.extraction
  unfolding run
  run_keeps before g [] g' i h e =
      subst (λ (l : List Bytes). P l g'.state.extraction) (sym (append-nil before))
      (subst (λ (x : Progress). P before x.state.extraction) (passed_same g g' e) h)
  run_keeps before g (p ∷ ps) g' i h e =
      let k = passed_then (step edition rooms g p) (λ g''. run edition rooms g'' ps) g' e in
      let s = step_passed edition rooms g k.0 p k.1 in
      let m = packet_moves edition rooms g.index p (kind_of g.state.tables (pid p)) g.state s.0 s.1 in
      let one : P (before ++ (p ∷ [])) k.0.state.extraction =
      subst (λ (x : Progress). P (before ++ (p ∷ [])) x.state.extraction) (sym s.2)
      (keeps before p g.state.extraction s.0.extraction h
      (subst (λ (n : ℕ). Moved edition rooms n p g.state.extraction s.0.extraction) i m)) in
      let at : k.0.index ≡ length (before ++ (p ∷ [])) = omega
      (arith, ap (λ (x : Progress). x.index) s.2, i, length-append before (p ∷ [])) in
      subst (λ (l : List Bytes). P l g'.state.extraction) (append_assoc before (p ∷ []) ps)
      (run_keeps (before ++ (p ∷ [])) k.0 ps g' at one k.2)

  module _ (starts : P [] no_units) where
    pub run_from_start : (ps : List Bytes) (g : Progress) → run edition rooms start ps ≡ passed g → P ps g.state.extraction
    run_from_start ps g e = run_keeps [] start ps g refl starts e

    -- ---- the end
    pub record Kept (ps : List Bytes) (answer : List AccessUnit) : Type 0 where
      pub before : Extraction
      pub keeping : P ps before
      pub last : Extraction
      pub closes : close_pes before ≡ passed last
      pub units : answer ≡ last.units

    pub accepted_keeps : (s : Bytes) (a : Accepted) → check_segment edition rooms s ≡ passed a → Kept (packets s) a.units
    unfolding check_segment ending
    accepted_keeps s a e =
        let k = passed_then (run edition rooms start (packets s)) ending a (passed_after (rule20 s) _ a e).1 in
        let g = k.0 in
        let l = passed_then (close_pes g.state.extraction)
        (λ x. accepted g.index g.state.tables.pat g.state.tables.pmt x.units g.totals) a k.2 in
        record {
          before = g.state.extraction;
          keeping = run_from_start (packets s) g k.1;
          last = l.0;
          closes = l.1;
          units = accepted_units g.index g.state.tables.pat g.state.tables.pmt l.0.units g.totals a l.2;
        }
