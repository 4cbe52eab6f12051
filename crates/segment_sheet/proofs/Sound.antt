-- No condition of 45 holds of the content of an accepted segment: its map, its units and its OBUs keep each bound (`content_right`).
-- Assumes nothing.
use Prim.Native.Nat.{ℕ, zero, suc, ◌+◌, ◌/◌, ◌%◌, ◌≤◌, ◌<◌, ◌^◌}
use mathlib.Core.Bool.{false, not, ◌||◌}
use mathlib.Core.Path.{◌≡◌, refl, sym, ap, subst, ◌∙◌}
use mathlib.Core.List.{List, [], ◌∷◌, ◌++◌, map, flatten, map-append}
use native.Mathlib.Omega.{arith}
use native.Mathlib.Numerals.{add-one}
use borrow.Author.Tests.{ltb-false, le-ltb, lt-leb}
use lib.Dec.{eqb, ltb}
use lib.ListN.{length, drop, length-map}
use Rattle.lists.specs.Lists.{Bytes, any}
use Rattle.lists.proofs.Tests.{or_neither}
use Rattle.refusal.specs.Verdict.{passed}
use Rattle.refusal.proofs.Verdicts.{All, passed_after, given_passed}
use Rattle.unit.specs.Unit.{most_carried}
use Rattle.descriptor.specs.Edition.{Edition}
use Rattle.packet.specs.Header.{packet_length}
use Rattle.pmt.specs.Pmt.{MapEntry}
use Rattle.segment_rules.specs.State.{AccessUnit}
use Rattle.segment_rules.specs.Rules.{Rooms}
use Rattle.segment_rules.specs.Check.{Accepted, segment_length_wrong, rule20, check_segment, most_packets, pts_and_dts, first_packets}
use Rattle.segment_rules.specs.Content.{ObuPlace, places_in, places_of}
use Rattle.segment_rules.proofs.Accepting.{Ascending, firsts_ascend, firsts_within, lengths_within}
use Rattle.segment_rules.proofs.Contents.{InOrder, PlacesRight, places_right, places_few, EntryRight, streams_right, times_most}
use Rattle.segment_rules.proofs.Fitting.{accepted_fits}
use Rattle.sheet.specs.declared.rows.ObuRow.{ObuRow}
use Rattle.sheet.specs.Reading.{count_past, content_wrong, length_of}
use Rattle.sheet.specs.Passing.{stream_wrong, unit_wrong, units_wrong, at_first, obus_wrong}
use Rattle.sheet.proofs.Pairs.{neither}
use Rattle.sheet.proofs.Groups.{Stand, Groups, groups_pass}
use Rattle.sheet.proofs.Conditions.{passes_content}
use Rattle.segment_rules.proofs.Outputs.{two_times}
use Rattle.lists.specs.Bytes.{Octets}
use Rattle.segment_sheet.specs.Content.{stream_of, unit_of, obu_of, content_of}
use Rattle.segment_sheet.specs.Parts.{obus_in}
use Rattle.segment_sheet.proofs.Handed.{cons_same, head_of}

-- ---- streams
streams_fine : (es : List MapEntry) → All EntryRight es → any stream_wrong (map stream_of es) ≡ false
unfolding any stream_wrong
streams_fine [] h = refl
streams_fine (e ∷ es) h =
    neither (neither (le-ltb 0x1FFE e.pid h.0.0) (le-ltb 255 e.stream_type h.0.1)) (streams_fine es h.1)

-- ---- units
all_from : (low : ℕ) (l : List ℕ) → All (λ m. low < m) l → All (λ m. low + 1 ≤ m) l
all_from low [] h = tt
all_from low (m ∷ l) h = (omega (arith, h.0), all_from low l h.1)

units_fine : (low : ℕ) (units : List AccessUnit) → All (λ m. low ≤ m) (first_packets units) → Ascending (first_packets units)
    → All (λ m. m < 65535) (first_packets units) → All (λ u. length u.carried ≤ most_carried) units
    → All (λ u. All (λ n. n ≤ 2 ^ 33) (pts_and_dts u.times)) units
    → units_wrong low (map unit_of units) ≡ false
unfolding units_wrong unit_wrong
units_fine low [] past up within short times = refl
units_fine low (u ∷ units) past up within short times =
    let t = subst (All (λ n. n ≤ 2 ^ 33)) (two_times u.times) times.0 in
    neither
    (neither
    (neither
    (neither (neither (le-ltb u.first low past.0) (lt-leb 65535 u.first within.0)) (le-ltb 1573056 (length u.carried)
    short.0))
    (le-ltb 8589934592 (unit_of u).pts (omega (arith, t.0))))
    (le-ltb 8589934592 (unit_of u).dts (omega (arith, t.1.0))))
    (units_fine (u.first + 1) units (all_from u.first (first_packets units) up.0) up.1 within.1 short.1 times.1)

-- "over 65,535 packets"
packets_few : (edition : Edition) (rooms : Rooms) (s : Bytes) (a : Accepted) → check_segment edition rooms s ≡ passed a
    → length s / packet_length ≤ 65535
unfolding check_segment segment_length_wrong
packets_few edition rooms s a e =
    let w = given_passed 20 _ (passed_after (rule20 s) _ a e).0 in
    ltb-false most_packets (length s / packet_length)
    (or_neither (eqb (length s) 0 || not (eqb (length s % packet_length) 0)) (ltb most_packets (length s / packet_length)) w).1

all_below : (n : ℕ) (l : List ℕ) → n ≤ 65535 → All (λ m. m < n) l → All (λ m. m < 65535) l
all_below n [] k h = tt
all_below n (m ∷ l) k h = (omega (arith, k, h.0), all_below n l k h.1)

-- ---- OBUs
order_within : (unit at end : ℕ) (os : List ObuPlace) → InOrder unit at end os → at ≤ end
order_within unit at end [] h = h
order_within unit at end (o ∷ os) h = omega (arith, h.1, h.2, order_within unit (o.offset + o.size) end os h.4)

stand : (unit at end low : ℕ) (os : List ObuPlace) → low ≤ at → InOrder unit at end os → Stand unit end low (map obu_of os)
stand unit at end low [] k h = tt
stand unit at end low (o ∷ os) k h = (
  h.0,
  omega (arith, k, h.1),
  h.2,
  h.3,
  order_within unit (o.offset + o.size) end os h.4,
  stand unit (o.offset + o.size) end (o.offset + o.size) os (omega arith) h.4,
)

groups_of : ℕ → List AccessUnit → List (List ObuRow)
groups_of index [] = []
groups_of index (u ∷ units) = obus_in index u.carried ∷ groups_of (suc index) units

flat : (index : ℕ) (units : List AccessUnit) → flatten (groups_of index units) ≡ map obu_of (places_of index units)
unfolding groups_of flatten places_of
flat index [] = refl
flat index (u ∷ units) =
    ap (λ (l : List ObuRow). obus_in index u.carried ++ l) (flat (suc index) units)
    ∙ sym (map-append obu_of (places_in index u.carried) (places_of (suc index) units))

as_many : (index : ℕ) (units : List AccessUnit) → length (groups_of index units) ≡ length units
unfolding groups_of
as_many index [] = refl
as_many index (u ∷ units) = ap suc (as_many (suc index) units)

length_here : (units rest : List AccessUnit) (index : ℕ) (u : AccessUnit) → drop index units ≡ u ∷ rest
    → length_of (map unit_of units) index ≡ length u.carried
length_here [] rest zero u e = absurd (let z : 0 ≡ suc (length rest) = ap length e in omega arith)
length_here [] rest (suc index) u e = absurd (let z : 0 ≡ suc (length rest) = ap length e in omega arith)
length_here (x ∷ units) rest zero u e = ap (λ (y : AccessUnit). length y.carried) (cons_same x u units rest e).0
length_here (x ∷ units) rest (suc index) u e = length_here units rest index u e

groups_right : (all : List AccessUnit) (index : ℕ) (units : List AccessUnit) → drop index all ≡ units → PlacesRight index units
    → Groups (map unit_of all) index (groups_of index units)
unfolding groups_of
groups_right all index [] e h = tt
groups_right all index (u ∷ units) e h =
    let n = length-map (places_in index u.carried) obu_of in (
      omega (arith, n, h.2),
      omega (arith, n, h.3),
      subst (λ (end : ℕ). Stand index end 0 (obus_in index u.carried)) (sym (length_here all units index u e))
          (stand index 0 (length u.carried) 0 (places_in index u.carried) (omega arith) h.0),
      groups_right all (suc index) units (ap (λ (k : ℕ). drop k all) (sym (add-one index)) ∙ (head_of all index u u units e).1) h.4,
    )

-- ---- the content
module _ (edition : Edition) (rooms : Rooms) (s : Bytes) (a : Accepted) (e : check_segment edition rooms s ≡ passed a) (o : Octets s) where
  counts_fine : count_past (content_of a) ≡ false
  unfolding count_past
  counts_fine =
      let fits = accepted_fits edition rooms s a e in
      neither
      (neither (le-ltb 12 (length (content_of a).streams) (omega (
        arith,
        length-map a.map.entries stream_of,
        (streams_right edition
            rooms s a e o).0,
      )))
      (le-ltb 1024 (length (content_of a).units) (omega (arith, length-map a.units unit_of, fits.few))))
      (le-ltb 65536 (length (content_of a).obus) (omega (arith, length-map (places_of 0 a.units) obu_of, places_few edition rooms s a e)))

  all_zero : (l : List ℕ) → All (λ m. 0 ≤ m) l
  all_zero [] = tt
  all_zero (m ∷ l) = (omega arith, all_zero l)

  obus_fine : obus_wrong (map unit_of a.units) at_first (map obu_of (places_of 0 a.units)) ≡ false
  obus_fine =
      ap (obus_wrong (map unit_of a.units) at_first) (sym (flat 0 a.units))
      ∙ groups_pass (map unit_of a.units) (groups_of 0 a.units) (as_many 0 a.units ∙ sym (length-map a.units unit_of))
      (groups_right a.units 0 a.units refl (places_right edition rooms s a e))

  pub content_right : content_wrong (content_of a) ≡ false
  content_right =
      passes_content (content_of a)
      (record {
        counts = counts_fine;
        streams = streams_fine a.map.entries (streams_right edition rooms s a e o).1;
        units =
            units_fine 0 a.units (all_zero (first_packets a.units)) (firsts_ascend edition rooms s a e)
            (all_below (length s / packet_length) (first_packets a.units) (packets_few edition rooms s a e) (firsts_within edition rooms
            s a e))
            (lengths_within edition rooms s a e) (times_most edition rooms s a e o);
        obus = obus_fine;
      })
