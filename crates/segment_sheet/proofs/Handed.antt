-- What the check of an accepted segment hands out, its map, the first packets, the lengths, the times and the bytes of its units, has the
-- content of the segment (`handed_content`), and is as the code that puts the sheet needs it (`handed_out`). Assumes nothing.
use Prim.Native.Nat.{ℕ, suc, ◌+◌, ◌*◌, ◌<◌}
use mathlib.Core.Path.{◌≡◌, refl, sym, ap, ap₂, subst, ◌∙◌}
use mathlib.Core.List.{List, [], ◌∷◌, ◌++◌, map, flatten, append_assoc, map-append}
use native.Mathlib.Omega.{arith}
use native.Mathlib.Numerals.{add-one}
use lib.ListN.{length, take, drop, get_or, length-append, length-drop, length-map}
use lib.Seq.{drop-cons, take_at, drop_at}
use Rattle.lists.specs.Lists.{Bytes}
use Rattle.refusal.specs.Verdict.{passed}
use Rattle.refusal.proofs.Verdicts.{All}
use Rattle.descriptor.specs.Edition.{Edition}
use Rattle.pmt.specs.Pmt.{MapEntry}
use Rattle.pmt.specs.Answer.{listed, no_entry, no_entries, slots, map_of}
use Rattle.pmt.specs.declared.entries.Entry.{Entry}
use Rattle.pmt.specs.declared.section.ProgramMap.{ProgramMap}
use Rattle.segment_rules.specs.State.{AccessUnit}
use Rattle.segment_rules.specs.Rules.{Rooms, carried_units}
use Rattle.segment_rules.specs.Check.{Accepted, check_segment, lengths, pts_and_dts, times_in_turn, first_packets}
use Rattle.segment_rules.specs.Content.{places_in, places_of}
use Rattle.segment_rules.proofs.Accepting.{units_accepted}
use Rattle.segment_rules.proofs.Contents.{places_right, streams_few, count_most}
use Rattle.segment_rules.proofs.Fitting.{accepted_fits}
use Rattle.sheet.specs.declared.rows.StreamRow.{StreamRow}
use Rattle.sheet.specs.declared.rows.UnitRow.{UnitRow}
use Rattle.sheet.specs.declared.rows.ObuRow.{ObuRow}
use Rattle.sheet.specs.Reading.{rows}
use Rattle.segment_rules.proofs.Outputs.{two_times, count_times}
use Rattle.segment_rules.proofs.Repeating.{carried_of}
use Rattle.segment_sheet.specs.Content.{stream_of, unit_of, obu_of, content_of}
use Rattle.segment_sheet.specs.Parts.{stream_at, unit_at, cuts, Readable, CutsRight, obus_in, obus_from, content_in, HandedOut}

-- ---- the elements of a list, one after the other
pub cons_same : {A : Type 0} (a b : A) (l m : List A) → a ∷ l ≡ b ∷ m → (a ≡ b) × (l ≡ m)
cons_same a b l m e =
    let h : a ≡ b = cc in
    let k : l ≡ m = cc in
    (h, k)

pub head_of : {A : Type 0} (s : List A) (i : ℕ) (d x : A) (l : List A) → drop i s ≡ x ∷ l → (get_or s i d ≡ x) × (drop (i + 1) s ≡ l)
head_of s i d x l e =
    let h : i < length s = omega (arith, ap length e, length-drop i s) in
    let k = cons_same (get_or s i d) x (drop (suc i) s) l (sym (drop-cons s i d h) ∙ e) in
    (k.0, ap (λ n. drop n s) (add-one i) ∙ k.1)

-- ---- the streams
streams_rows : (es : List MapEntry) (entries r : List Entry) (i : ℕ) → drop i entries ≡ map listed es ++ r
    → rows (stream_at entries) 1 (length es) i ≡ map stream_of es
unfolding rows
streams_rows [] entries r i e = refl
streams_rows (x ∷ es) entries r i e =
    let h = head_of entries i no_entry (listed x) (map listed es ++ r) e in
    ap₂ (λ (a : StreamRow) (l : List StreamRow). a ∷ l)
    (ap (λ (y : Entry). record { pid = y.pid; stream_type = y.stream_type }) h.0)
    (streams_rows es entries r (i + 1) h.1)

-- ---- the units
units_rows : (units : List AccessUnit) (firsts lens times rf rl rt : List ℕ) (i : ℕ) → drop i firsts ≡ first_packets units ++ rf
    → drop i lens ≡ lengths units ++ rl → drop (2 * i) times ≡ times_in_turn units ++ rt
    → rows (unit_at firsts lens times) 1 (length units) i ≡ map unit_of units
unfolding rows flatten
units_rows [] firsts lens times rf rl rt i ef el et = refl
units_rows (u ∷ units) firsts lens times rf rl rt i ef el et =
    let p = get_or (pts_and_dts u.times) 0 0 in
    let d = get_or (pts_and_dts u.times) 1 0 in
    let f = head_of firsts i 0 u.first (first_packets units ++ rf) ef in
    let l = head_of lens i 0 (length u.carried) (lengths units ++ rl) el in
    let t0 = head_of times (2 * i) 0 p (d ∷ (times_in_turn units ++ rt))
    (et ∙ ap (λ (x : List ℕ). (x ++ times_in_turn units) ++ rt) (two_times u.times)) in
    let t1 = head_of times (2 * i + 1) 0 d (times_in_turn units ++ rt) t0.1 in
    let n : 2 * (i + 1) ≡ 2 * i + 1 + 1 = omega arith in
    let row : unit_at firsts lens times i ≡ unit_of u = rw (f.0, l.0, t0.0, t1.0) in
    ap₂ (λ (a : UnitRow) (r : List UnitRow). a ∷ r) row
    (units_rows units firsts lens times rf rl rt (i + 1) f.1 l.1 (ap (λ (k : ℕ). drop k times) n ∙ t1.1))

-- ---- the bytes of the units
module _ (u : AccessUnit) (units : List AccessUnit) (r : Bytes) where
  apart : carried_units (u ∷ units) ++ r ≡ u.carried ++ (carried_units units ++ r)
  unfolding flatten
  apart = append_assoc u.carried (carried_units units) r

  front : take (length u.carried) (carried_units (u ∷ units) ++ r) ≡ u.carried
  front = ap (take (length u.carried)) apart ∙ take_at u.carried (carried_units units ++ r) (length u.carried) refl

  behind : drop (length u.carried) (carried_units (u ∷ units) ++ r) ≡ carried_units units ++ r
  behind = ap (drop (length u.carried)) apart ∙ drop_at u.carried (carried_units units ++ r) (length u.carried) refl

cuts_units : (units : List AccessUnit) (r : Bytes) → cuts (lengths units) (carried_units units ++ r) ≡ carried_of units
unfolding cuts
cuts_units [] r = refl
cuts_units (u ∷ units) r =
    ap₂ (λ (a : Bytes) (l : List Bytes). a ∷ l) (front u units r) (ap (cuts (lengths units)) (behind u units r) ∙ cuts_units units r)

cuts_right : (units : List AccessUnit) (r : Bytes) → All (λ u. Readable u.carried) units
    → CutsRight (lengths units) (carried_units units ++ r)
cuts_right [] r h = tt
cuts_right (u ∷ units) r h = (
  omega (arith, ap length (apart u units r), length-append u.carried (carried_units units ++ r)),
  subst Readable (sym (front u units r)) h.0,
  subst (CutsRight (lengths units)) (sym (behind u units r)) (cuts_right units r h.1),
)

obus_units : (index : ℕ) (units : List AccessUnit) → obus_from index (carried_of units) ≡ map obu_of (places_of index units)
unfolding obus_from places_of
obus_units index [] = refl
obus_units index (u ∷ units) =
    ap (λ (l : List ObuRow). obus_in index u.carried ++ l) (obus_units (suc index) units)
    ∙ sym (map-append obu_of (places_in index u.carried) (places_of (suc index) units))

-- ---- of an accepted segment
module _ (edition : Edition) (rooms : Rooms) (s : Bytes) (a : Accepted) (e : check_segment edition rooms s ≡ passed a) (m : ProgramMap)
    (count : ℕ) (firsts lens times bytes rf rl rt rb : List ℕ) (em : m ≡ map_of edition a.map) (ec : count ≡ length a.units)
    (ef : firsts ≡ first_packets a.units ++ rf) (el : lens ≡ lengths a.units ++ rl) (et : times ≡ times_in_turn a.units ++ rt)
    (eb : bytes ≡ carried_units a.units ++ rb) where
  lengths_are : take count lens ≡ lengths a.units
  lengths_are =
      ap₂ (λ (n : ℕ) (l : List ℕ). take n l) ec el
      ∙ take_at (lengths a.units) rl (length a.units) (length-map a.units (λ u. length u.carried))

  units_are : cuts (take count lens) bytes ≡ carried_of a.units
  units_are = ap₂ (λ (l : List ℕ) (x : Bytes). cuts l x) lengths_are eb ∙ cuts_units a.units rb

  obus_are : obus_from 0 (cuts (take count lens) bytes) ≡ map obu_of (places_of 0 a.units)
  obus_are = ap (obus_from 0) units_are ∙ obus_units 0 a.units

  streams_are : rows (stream_at m.entries) 1 m.count 0 ≡ map stream_of a.map.entries
  unfolding slots
  streams_are =
      ap (λ (x : ProgramMap). rows (stream_at x.entries) 1 x.count 0) em
      ∙ streams_rows a.map.entries (slots a.map.entries) (drop (length a.map.entries) no_entries) 0 refl

  rows_are : rows (unit_at firsts lens times) 1 count 0 ≡ map unit_of a.units
  rows_are =
      ap (λ (n : ℕ). rows (unit_at firsts lens times) 1 n 0) ec
      ∙ units_rows a.units firsts lens times rf rl rt 0 ef el (let z : 2 * 0 ≡ 0 = refl in et)

  pub handed_content : content_in m count firsts lens times bytes ≡ content_of a
  handed_content = rw (streams_are, rows_are, obus_are)

  pub handed_out : HandedOut m count firsts lens times bytes
  handed_out =
      let few = streams_few edition rooms s a e in
      let fits = accepted_fits edition rooms s a e in
      record {
        streams = omega (arith, ap (λ (x : ProgramMap). x.count) em, few);
        units = omega (arith, ec, fits.few);
        firsts_there = omega (arith, ec, ap length ef, length-append (first_packets a.units) rf, length-map a.units (λ u. u.first));
        lens_there = omega (
          arith,
          ec,
          ap length el,
          length-append (lengths a.units) rl,
          length-map a.units (λ u. length u.carried),
        );
        times_there = omega (arith, ec, ap length et, length-append (times_in_turn a.units) rt, count_times a.units);
        cut =
            subst (λ (l : List ℕ). CutsRight l bytes) (sym lengths_are)
            (subst (CutsRight (lengths a.units)) (sym eb)
            (cuts_right a.units rb (units_accepted edition rooms s a e)));
        obus =
            omega (
              arith,
              ap length obus_are,
              length-map (places_of 0 a.units) obu_of,
              count_most 0 a.units (places_right edition rooms s a e),
              ec,
            );
      }
