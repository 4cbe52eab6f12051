-- 2026-09: what holds of the content of an accepted segment. The OBUs of a unit: each place cuts out exactly the payload (`places_cut`),
-- they stand one behind the other within the unit, none is empty, each type has four bits, and there are 1 to 64 (`unit_places`,
-- `unit_count`), so at most 65,536 in all (`places_few`). The map: at most twelve streams, PIDs up to 0x1FFE, stream_types of a byte
-- (`streams_right`). The times pass 8,589,934,592 nowhere (`times_most`). Assumes nothing.
use Rattle.std.specs.Prelude.{Option, Some, None}
use Prim.Native.Nat.{ℕ, zero, suc, ◌+◌, ◌*◌, ◌<◌, ◌≤◌, ◌^◌, ◌/◌}
use mathlib.Core.Bool.{true, not, ◌||◌}
use mathlib.Core.Path.{◌≡◌, refl, sym, ap, ap₂, ◌∙◌, subst}
use mathlib.Core.List.{List, [], ◌∷◌, ◌++◌, map, append_assoc}
use native.Mathlib.Omega.{arith}
use borrow.Author.Tests.{eqb-true, eqb-false, ltb-false, not-false}
use lib.Dec.{eqb, ltb}
use lib.ListN.{length, take, drop, get_or, length-append}
use lib.Seq.{take_at, drop_at}
use Rattle.lists.specs.Lists.{Bytes, any}
use Rattle.lists.proofs.Tests.{case, clash, or_neither}
use Rattle.refusal.specs.Verdict.{passed, given, in_turn}
use Rattle.refusal.proofs.Verdicts.{All, all_so, never, passed_same, passed_then, passed_after, given_passed, turns_passed}
use Rattle.tsobu.specs.StartCodes.{at_start_code, payloads}
use Rattle.tsobu.specs.TsObu.{tsobu_refusal}
use Rattle.tsobu.proofs.Splits.{joined, from_code}
use Rattle.unit.specs.Unit.{most_obus, most_carried, read_unit}
use Rattle.descriptor.specs.Edition.{Edition}
use Rattle.packet.specs.Header.{packet_length, packets_of, packets, null_pid, payload, payload_unit_start_indicator}
use Rattle.psi.specs.Section.{behind_pointer, section_size, section_of}
use Rattle.pes.specs.declared.header.Times.{Times}
use Rattle.pes.specs.Pes.{no_times}
use Rattle.pmt.specs.Pmt.{MapEntry, MapContent, elementary_pid, entry_size, pid_wrong, entry}
use Rattle.pmt.specs.Pmt.{pids, most_entries, entries_after, entry_bytes, read_pmt}
use Rattle.pmt.proofs.Passed.{says, at_most_twelve, entry_octets}
use Rattle.lists.specs.Bytes.{Octets}
use Rattle.lists.proofs.Parts.{octets_drop, octets_take}
use Rattle.segment_rules.specs.State.{FirstPat, FirstPmt, Tables, AccessUnit, Kind, Null, Pat, Map, Av1, Listed, Unlisted}
use Rattle.segment_rules.specs.declared.Totals.{Totals}
use Rattle.segment_rules.specs.Rules as rules
use Rattle.segment_rules.specs.Rules.{Rooms}
use Rattle.segment_rules.specs.Check.{Accepted, start, run, rule20, accepted, ending, check_segment, pts_and_dts}
use Rattle.segment_rules.specs.Content.{ObuPlace, place_of, places_from, places_in, places_of}
use Rattle.segment_rules.proofs.Accepting.{octets_payload, Timed, units_accepted}
use Rattle.refusal.proofs.Verdicts.{all_and_one}
use Rattle.segment_rules.proofs.Editions.{TimesBy, times_where}
use Rattle.segment_rules.proofs.Keeping.{Holds, holds_then, holds_each}
use Rattle.segment_rules.proofs.Lasting.{each_all, run_lasts}
use Rattle.segment_rules.proofs.Fitting.{accepted_fits}

-- ---- the OBUs of a unit
-- the bytes at a place
abbrev pub cut_out : Bytes → ObuPlace → Bytes
cut_out carried o = take o.size (drop o.offset carried)

cut_from : (unit : ℕ) (front : Bytes) (ws : List Bytes) (carried : Bytes) → carried ≡ front ++ joined ws
    → map (cut_out carried) (places_from unit (length front) ws) ≡ ws
unfolding places_from joined
cut_from unit front [] carried e = refl
cut_from unit front (w ∷ ws) carried e =
    let code : Bytes = 0 ∷ 0 ∷ 1 ∷ [] in
    let behind : length (front ++ code) ≡ length front + 3 = length-append front code in
    let whole : carried ≡ (front ++ code) ++ (w ++ joined ws) = e ∙ sym (append_assoc front code (w ++ joined ws)) in
    let here : cut_out carried (place_of unit (length front) w) ≡ w =
    ap (take (length w)) (ap (drop (length front + 3)) whole ∙ drop_at (front ++ code) (w ++ joined ws) (length front + 3) behind)
    ∙ take_at w (joined ws) (length w) refl in
    let next : length ((front ++ code) ++ w) ≡ length front + 3 + length w = omega (arith, length-append (front ++ code) w, behind) in
    ap₂ (λ (x : Bytes) (l : List Bytes). x ∷ l) here
    (ap (λ (n : ℕ). map (cut_out carried) (places_from unit n ws)) (sym next)
    ∙ cut_from unit ((front ++ code) ++ w) ws carried (whole ∙ sym (append_assoc (front ++ code) w (joined ws))))

pub places_cut : (unit : ℕ) (carried : Bytes) → at_start_code carried ≡ true → map (cut_out carried) (places_in unit carried) ≡ payloads
    carried
places_cut unit carried e = cut_from unit [] (payloads carried) carried (from_code carried e)

-- they stand from this place on, one behind the other, up to the end; each has something, and a type of four bits
abbrev pub InOrder : ℕ → ℕ → ℕ → List ObuPlace → Type 0
InOrder unit at end [] = at ≤ end
InOrder unit at end (o ∷ os) =
    (o.unit ≡ unit) × (at + 3 ≡ o.offset) × (0 < o.size) × (o.obu_type ≤ 15) × InOrder unit (o.offset + o.size) end os

pub length_places : (unit at : ℕ) (ws : List Bytes) → length (places_from unit at ws) ≡ length ws
unfolding places_from
length_places unit at [] = refl
length_places unit at (w ∷ ws) = ap suc (length_places unit (at + 3 + length w) ws)

some_bytes : (w : Bytes) → tsobu_refusal w ≡ passed tt → 0 < length w
unfolding tsobu_refusal
some_bytes w e =
    let k = eqb-false (length w) 0 (given_passed 3 _ (passed_after (given 3 (eqb (length w) 0)) _ tt e).0) in
    go (length w) k
  where
    go : (n : ℕ) → (n ≡ 0 → ⊥) → 0 < n
    go zero h = absurd (h refl)
    go (suc n) h = omega arith

order_from : (unit at : ℕ) (ws : List Bytes) → All (λ w. tsobu_refusal w ≡ passed tt) ws
    → InOrder unit at (at + length (joined ws)) (places_from unit at ws)
unfolding places_from joined
order_from unit at [] h = omega arith
order_from unit at (w ∷ ws) h =
    let end : at + 3 + length w + length (joined ws) ≡ at + length (joined (w ∷ ws)) = omega (arith, length-append w (joined ws)) in (
      refl,
      refl,
      some_bytes w h.0,
      omega arith,
      subst (λ (n : ℕ). InOrder unit (at + 3 + length w) n (places_from unit (at + 3 + length w) ws)) end
          (order_from unit (at + 3 + length w) ws h.1),
    )

-- what the reading of a unit tried
record Tried (s : Bytes) : Type 0 where
  start : at_start_code s ≡ true
  few : length (payloads s) ≤ most_obus
  each : All (λ w. tsobu_refusal w ≡ passed tt) (payloads s)

tried : (s : Bytes) (l : List Bytes) → read_unit s ≡ passed l → Tried s
unfolding read_unit
tried s l e =
    let a = passed_after (given 2 (ltb most_carried (length s))) _ l e in
    let b = passed_after (given 9 (not (at_start_code s))) _ l a.1 in
    let c = passed_after (given 1 (ltb most_obus (length (payloads s)))) _ l b.1 in
    let turns = passed_after (in_turn tsobu_refusal 0 (payloads s)) _ l c.1 in
    record {
      start = not-false (at_start_code s) (given_passed 9 _ b.0);
      few = ltb-false most_obus (length (payloads s)) (given_passed 1 _ c.0);
      each = turns_passed tsobu_refusal 0 (payloads s) turns.0;
    }

module _ (unit : ℕ) (s : Bytes) (l : List Bytes) (e : read_unit s ≡ passed l) where
  pub unit_places : InOrder unit 0 (length s) (places_in unit s)
  unit_places =
      let t = tried s l e in
      let whole : 0 + length (joined (payloads s)) ≡ length s = omega (arith, ap length (from_code s t.start)) in
      subst (λ (n : ℕ). InOrder unit 0 n (places_in unit s)) whole (order_from unit 0 (payloads s) t.each)

  pub unit_cut : map (cut_out s) (places_in unit s) ≡ payloads s
  unit_cut = places_cut unit s (tried s l e).start

  pub unit_count : (1 ≤ length (places_in unit s)) × (length (places_in unit s) ≤ most_obus)
  unfolding at_start_code joined
  unit_count =
      let t = tried s l e in
      let n = length_places unit 0 (payloads s) in
      (omega (arith, n, least (payloads s) (from_code s t.start)), omega (arith, n, t.few))
    where
      least : (ws : List Bytes) → s ≡ joined ws → 1 ≤ length ws
      least [] k = clash (tried s l e).start (ap at_start_code k)
      least (w ∷ ws) k = omega arith

-- ---- the OBUs of an accepted segment
-- of these units, of which the first has this index: each unit's OBUs are as above
abbrev pub PlacesRight : ℕ → List AccessUnit → Type 0
PlacesRight index [] = Unit {0}
PlacesRight index (u ∷ units) =
    InOrder index 0 (length u.carried) (places_in index u.carried)
    × (map (cut_out u.carried) (places_in index u.carried) ≡ payloads u.carried)
    × (1 ≤ length (places_in index u.carried))
    × (length (places_in index u.carried) ≤ most_obus)
    × PlacesRight (suc index) units

each_right : (index : ℕ) (units : List AccessUnit) → All (λ u. (l : List Bytes) × (read_unit u.carried ≡ passed l)) units
    → PlacesRight index units
each_right index [] h = tt
each_right index (u ∷ units) h =
    let c = unit_count index u.carried h.0.0 h.0.1 in (
      unit_places index u.carried h.0.0 h.0.1,
      unit_cut index u.carried h.0.0 h.0.1,
      c.0,
      c.1,
      each_right (suc index) units h.1,
    )

pub count_most : (index : ℕ) (units : List AccessUnit) → PlacesRight index units → length (places_of index units) ≤ 64 * length units
unfolding places_of
count_most index [] h = omega arith
count_most index (u ∷ units) h =
    omega (arith, length-append (places_in index u.carried) (places_of (suc index) units), h.3, count_most (suc index) units h.4)

module _ (edition : Edition) (rooms : Rooms) (s : Bytes) (a : Accepted) (e : check_segment edition rooms s ≡ passed a) where
  pub places_right : PlacesRight 0 a.units
  places_right = each_right 0 a.units (units_accepted edition rooms s a e)

  -- "65,536"
  pub places_few : length (places_of 0 a.units) ≤ 65536
  places_few = omega (arith, count_most 0 a.units places_right, (accepted_fits edition rooms s a e).few)

-- ---- the streams
-- the PID and the stream_type of an entry
abbrev pub EntryRight : MapEntry → Type 0
EntryRight e = (e.pid ≤ 0x1FFE) × (e.stream_type ≤ 255)

entry_right : (map_pid : ℕ) (earlier : List ℕ) (s : Bytes) (e : MapEntry) → Octets s → entry map_pid earlier s ≡ passed e → EntryRight e
unfolding entry pid_wrong any
entry_right map_pid earlier s e o h =
    let k = passed_then _ _ e (passed_after _ _ e h).1 in
    let q = passed_after _ _ e k.2 in
    let behind = eqb (elementary_pid s) map_pid || any (eqb (elementary_pid s)) earlier in
    let wrong = given_passed 26 _ q.0 in
    let null = (or_neither (eqb (elementary_pid s) null_pid) behind
    (or_neither (eqb (elementary_pid s) 0) (eqb (elementary_pid s) null_pid || behind) wrong).1).0 in
    let not : elementary_pid s ≡ null_pid → ⊥ = eqb-false (elementary_pid s) null_pid null in
    subst EntryRight (passed_same _ e q.1) (most (elementary_pid s) (omega (arith, o 2)) not, omega (arith, o 0))
  where
    most : (n : ℕ) → n < 8192 → (n ≡ null_pid → ⊥) → n ≤ 0x1FFE
    most n h k = case (eqb n null_pid) (λ t. absurd (k (eqb-true n null_pid t))) (λ t. omega (arith, h, eqb-false n null_pid t))

entries_right : (n map_pid : ℕ) (earlier es : List MapEntry) (s : Bytes) → Octets s → entries_after n map_pid earlier s ≡ passed es
    → All EntryRight earlier → All EntryRight es
unfolding entries_after
entries_right zero map_pid earlier es [] o e h = subst (All EntryRight) (passed_same earlier es e) h
entries_right zero map_pid earlier es (b ∷ s) o e h = never e
entries_right (suc n) map_pid earlier es [] o e h = subst (All EntryRight) (passed_same earlier es e) h
entries_right (suc n) map_pid earlier es (b ∷ s) o e h =
    let k = passed_then (entry map_pid (pids earlier) (b ∷ s)) _ es e in
    entries_right n map_pid (earlier ++ (k.0 ∷ [])) es (drop (entry_size (b ∷ s)) (b ∷ s)) (octets_drop (b ∷ s) (entry_size (b ∷ s)) o) k.2
    (all_and_one EntryRight earlier k.0 h (entry_right map_pid (pids earlier) (b ∷ s) k.0 o k.1))

-- a map that was read from bytes
abbrev pub StreamsRight : MapContent → Type 0
StreamsRight m = (length m.entries ≤ most_entries) × All EntryRight m.entries

map_right : (edition : Edition) (program map_pid : ℕ) (section : Bytes) (m : MapContent) → Octets section
    → read_pmt edition program map_pid section ≡ passed m → StreamsRight m
map_right edition program map_pid section m o e =
    let s = says edition program map_pid section m e in (
      at_most_twelve map_pid (entry_bytes section) m.entries s.listed,
      entries_right most_entries map_pid [] m.entries (entry_bytes section) (entry_octets section o) s.listed tt,
    )

-- ---- the first PMT of a run
section_octets : (p : Bytes) → Octets p → Octets (section_of (payload p))
section_octets p o = octets_take (section_size (behind_pointer (payload p))) (drop 1 (payload p))
    (octets_drop (payload p) 1 (octets_payload p o))

-- what holds of each map that is read from packets of this kind holds of the accepted one
module _ (edition : Edition) (P : MapContent → Type 0) (Q : Bytes → Type 0)
    (reads : (program map_pid : ℕ) (p : Bytes) (m : MapContent) → Q p →
    read_pmt edition program map_pid (section_of (payload p)) ≡ passed m → P m) where
  abbrev PmtRight : Option FirstPmt → Type 0
  PmtRight None = Unit {0}
  PmtRight (Some first) = P first.says

  abbrev MapRight : Tables → Type 0
  MapRight t = PmtRight t.pmt

  clocked_lasts : (i : ℕ) (p : Bytes) (t : Tables) → MapRight t → MapRight (rules.clocked i p t)
  clocked_lasts i p t h = h

  checked_lasts : (i : ℕ) (p : Bytes) (t : Tables) → MapRight t → Holds MapRight (rules.checked i p t)
  unfolding rules.checked
  checked_lasts i p t h = holds_each MapRight _ _ (λ _ _. h)

  section_lasts : (i : ℕ) (p : Bytes) (kind : Kind) (t : Tables) → Q p → MapRight t
      → Holds MapRight (rules.section_read edition kind i (payload_unit_start_indicator p) (payload p) t)
  unfolding rules.section_read rules.pat_section rules.pmt_section rules.later_section
  section_lasts i p Null t o h = h
  section_lasts i p Pat t o h = holds_then MapRight _ _ (λ _ _. go t.pat)
    where
      go : (pat : Option FirstPat) → Holds MapRight (rules.pat_section i pat (section_of (payload p)) t)
      go None = holds_each MapRight _ _ (λ _ _. h)
      go (Some pat) = holds_then MapRight _ _ (λ _ _. h)
  section_lasts i p Map t o h = holds_then MapRight _ _ (λ _ _. go t.pat t.pmt)
    where
      go : (pat : Option FirstPat) (pmt : Option FirstPmt) → Holds MapRight (rules.pmt_section edition i pat pmt (section_of (payload p)) t)
      go None pmt = h
      go (Some pat) None = holds_each MapRight _ _ (λ m e. reads pat.says.number pat.says.map_pid p m o e)
      go (Some pat) (Some pmt) = holds_then MapRight _ _ (λ _ _. h)
  section_lasts i p Av1 t o h = h
  section_lasts i p Listed t o h = h
  section_lasts i p Unlisted t o h = h

  accepted_map : (n : ℕ) (pat : Option FirstPat) (pmt : Option FirstPmt) (units : List AccessUnit) (t : Totals) (a : Accepted)
      → PmtRight pmt → accepted n pat pmt units t ≡ passed a → P a.map
  unfolding accepted
  accepted_map n None pmt units t a h e = never e
  accepted_map n (Some pat) None units t a h e = never e
  accepted_map n (Some pat) (Some pmt) units t a h e = subst (λ (x : Accepted). P x.map) (passed_same _ a e) h

  map_holds : (rooms : Rooms) (s : Bytes) (a : Accepted) → check_segment edition rooms s ≡ passed a → All Q (packets s) → P a.map
  unfolding check_segment ending
  map_holds rooms s a e o =
      let k = passed_then (run edition rooms start (packets s)) ending a (passed_after (rule20 s) _ a e).1 in
      let g = k.0 in
      let l = passed_then (rules.close_pes g.state.extraction)
      (λ x. accepted g.index g.state.tables.pat g.state.tables.pmt x.units g.totals) a k.2 in
      accepted_map g.index g.state.tables.pat g.state.tables.pmt l.0.units g.totals a
      (run_lasts edition rooms MapRight (λ _ p. Q p) clocked_lasts (λ i p t _ h. checked_lasts i p t h) section_lasts start (packets s) g
      (each_all Q 0 (packets s) o) tt k.1)
      l.2

packets_octets : (n : ℕ) (s : Bytes) → Octets s → All Octets (packets_of n s)
unfolding packets_of
packets_octets zero s o = tt
packets_octets (suc n) s o = (octets_take packet_length s o, packets_octets n (drop packet_length s) (octets_drop s packet_length o))

most_by : (w : Bytes) (t : Option Times) → TimesBy w t → All (λ n. n ≤ 2 ^ 33) (pts_and_dts t)
unfolding pts_and_dts
most_by w t k =
    case (no_times w) (λ n. subst (All (λ n. n ≤ 2 ^ 33)) (sym (k.0 n)) (omega arith, (omega arith, tt))) (λ n. go t (k.1 n))
  where
    go : (x : Option Times) → Timed x → All (λ n. n ≤ 2 ^ 33) (pts_and_dts x)
    go None h = absurd h
    go (Some u) h = (omega (arith, h.0), (omega (arith, h.1), tt))

-- ---- of an accepted segment
all_any : (l : List Bytes) → All (λ p. Unit {0}) l
all_any [] = tt
all_any (p ∷ l) = (tt, all_any l)

-- "12 streams in a program map"
pub streams_few : (edition : Edition) (rooms : Rooms) (s : Bytes) (a : Accepted) → check_segment edition rooms s ≡ passed a
    → length a.map.entries ≤ most_entries
streams_few edition rooms s a e =
    map_holds edition (λ m. length m.entries ≤ most_entries) (λ p. Unit {0})
    (λ program map_pid p m q r.
    at_most_twelve map_pid (entry_bytes (section_of (payload p))) m.entries
    (says edition program map_pid (section_of (payload p)) m r).listed)
    rooms s a e (all_any (packets s))

-- ---- of an accepted segment of bytes
module _ (edition : Edition) (rooms : Rooms) (s : Bytes) (a : Accepted) (e : check_segment edition rooms s ≡ passed a) (o : Octets s) where
  -- "12 streams in a program map"; a PID of 13 bits that is not 0x1FFF; a byte
  pub streams_right : StreamsRight a.map
  streams_right =
      map_holds edition StreamsRight Octets
      (λ program map_pid p m q r. map_right edition program map_pid (section_of (payload p)) m (section_octets p q) r)
      rooms s a e (packets_octets (length s / packet_length) s o)

  -- "a time passes 8,589,934,592" nowhere
  pub times_most : All (λ u. All (λ n. n ≤ 2 ^ 33) (pts_and_dts u.times)) a.units
  times_most = all_so a.units (λ u k. most_by (payload (get_or (packets s) u.first [])) u.times k)
      (times_where edition rooms s a e o)
