-- The statements of specs/RoundTrip.antt. The numbers of a sheet are those that were written, so each section's rows come back from its
-- count on. Assumes nothing.
use Rattle.std.specs.Prelude.{None}
use Prim.Native.Nat.{ℕ, zero, suc, ◌+◌, ◌*◌, ◌^◌, ◌≤◌, ◌<◌}
use mathlib.Core.Bool.{true, false, not, ◌||◌}
use mathlib.Core.Path.{◌≡◌, refl, sym, ap, ◌∙◌}
use mathlib.Core.List.{List, [], ◌∷◌, ◌++◌, flatten}
use native.Mathlib.Omega.{arith}
use lib.Dec.{ltb}
use lib.ListN.{length, get_or, length-append, get_or-append}
use lib.Seq.{get_or-append-add}
use borrow.Author.Tests.{ltb-true, ltb-false, lt-ltb, eq-eqb}
use Rattle.lists.specs.Lists.{Bytes, all}
use Rattle.lists.proofs.Tests.{and_both, or_neither}
use Rattle.refusal.specs.Verdict.{passed}
use Rattle.refusal.proofs.Verdicts.{All, all_so, none_holds, pass_on}
use Rattle.sheet.specs.declared.rows.StreamRow.{StreamRow}
use Rattle.sheet.specs.declared.rows.UnitRow.{UnitRow}
use Rattle.sheet.specs.declared.rows.ObuRow.{ObuRow}
use Rattle.sheet.specs.Sheet.{Content, stream_numbers, unit_numbers, obu_numbers, numbers_of, section, sheet_numbers, sheet_of, in_bytes}
use Rattle.sheet.specs.Reading.{number, rows, stream_row, unit_row, obu_row, stream_count, unit_section, unit_count, obu_section, obu_count}
use Rattle.sheet.specs.Reading.{content_of, length_given, length_wrong, content_wrong, wrong, outputs_short, counts_of, reading}
use Rattle.sheet.specs.Reading.{row_at, finding}
use Rattle.sheet.specs.Reading.{count_past, length_of}
use Rattle.sheet.specs.Passing.{stream_wrong, at_first}
use Rattle.sheet.specs.RoundTrip.{ReadsBack, CountsBack, FindsUnits, fits, GoodFits, OneContent, LengthOfSheet}
use Rattle.sheet.proofs.Pairs.{neither}
use Rattle.sheet.proofs.Ascending.{units_right}
use Rattle.sheet.proofs.Ascending as ascending
use Rattle.sheet.proofs.Payloads.{obus_right}
use Rattle.sheet.proofs.Payloads as payloads
use Rattle.sheet.proofs.Conditions.{content_passes}
use Rattle.sheet.proofs.BigEndian.{bytes_long, Small, number_at}

-- ---- numbers that stand in a sheet from number i on
pub record Represents (s : Bytes) (i : ℕ) (ns : List ℕ) : Type 0 where
  pub at : (j k : ℕ) → j < length ns → k ≡ i + j → number s k ≡ get_or ns j 0

stands_all : (ns : List ℕ) → Small ns → Represents (in_bytes ns) 0 ns
stands_all ns a = record { at = λ j k h e. let f : k ≡ j = omega arith in ap (number (in_bytes ns)) f ∙ number_at ns j a h }

module _ {s : Bytes} {i : ℕ} where
  stands_left : (xs ys : List ℕ) → Represents s i (xs ++ ys) → Represents s i xs
  stands_left xs ys h =
      record { at = λ j k l e. h.at j k (omega (arith, length-append xs ys)) e ∙ get_or-append xs ys 0 j l }

  stands_right : (xs ys : List ℕ) (m : ℕ) → m ≡ i + length xs → Represents s i (xs ++ ys) → Represents s m ys
  stands_right xs ys m n h =
      record {
        at = λ j k l e.
            h.at (length xs + j) k (omega (arith, length-append xs ys)) (omega arith) ∙ get_or-append-add xs ys j 0;
      }

-- ---- the rows of a section come back
module _ {A : Type 0} (numbers : A → List ℕ) (width : ℕ) (wide : (a : A) → length (numbers a) ≡ width) where
  numbers_long : (l : List A) → length (numbers_of numbers l) ≡ width * length l
  unfolding numbers_of flatten
  numbers_long [] = omega arith
  numbers_long (a ∷ l) = omega (arith, length-append (numbers a) (numbers_of numbers l), wide a, numbers_long l)

  rows_back : (s : Bytes) (row : ℕ → A) → ((a : A) (i : ℕ) → Represents s i (numbers a) → row i ≡ a)
      → (l : List A) (i : ℕ) → Represents s i (numbers_of numbers l) → rows row width (length l) i ≡ l
  unfolding rows numbers_of flatten
  rows_back s row one [] i h = refl
  rows_back s row one (a ∷ l) i h =
      let e = one a i (stands_left (numbers a) (numbers_of numbers l) h) in
      let f = rows_back s row one l (i + width) (stands_right (numbers a) (numbers_of numbers l) (i + width) (omega (arith, wide a)) h) in
      ap (λ (x : A). x ∷ rows row width (length l) (i + width)) e ∙ ap (λ (t : List A). a ∷ t) f

module _ (s : Bytes) where
  stream_back : (r : StreamRow) (i : ℕ) → Represents s i (stream_numbers r) → stream_row s i ≡ r
  stream_back r i h = rw (h.at 0 i (omega arith) (omega arith), h.at 1 (i + 1) (omega arith) refl)

  unit_back : (r : UnitRow) (i : ℕ) → Represents s i (unit_numbers r) → unit_row s i ≡ r
  unit_back r i h =
      rw (
        h.at 0 i (omega arith) (omega arith),
        h.at 1 (i + 1) (omega arith) refl,
        h.at 2 (i + 2) (omega arith) refl,
        h.at 3 (i + 3) (omega arith) refl,
      )

  obu_back : (r : ObuRow) (i : ℕ) → Represents s i (obu_numbers r) → obu_row s i ≡ r
  obu_back r i h =
      rw (
        h.at 0 i (omega arith) (omega arith),
        h.at 1 (i + 1) (omega arith) refl,
        h.at 2 (i + 2) (omega arith) refl,
        h.at 3 (i + 3) (omega arith) refl,
      )

-- ---- a content comes back
module _ (c : Content) where
  streams_long : length (numbers_of stream_numbers c.streams) ≡ 2 * length c.streams
  streams_long = numbers_long stream_numbers 2 (λ a. refl) c.streams

  units_long : length (numbers_of unit_numbers c.units) ≡ 4 * length c.units
  units_long = numbers_long unit_numbers 4 (λ a. refl) c.units

  obus_long : length (numbers_of obu_numbers c.obus) ≡ 4 * length c.obus
  obus_long = numbers_long obu_numbers 4 (λ a. refl) c.obus

  abbrev Streams : List ℕ
  Streams = section stream_numbers c.streams

  abbrev Units : List ℕ
  Units = section unit_numbers c.units

  abbrev Obus : List ℕ
  Obus = section obu_numbers c.obus

  pub length_of_sheet : length (sheet_of c) ≡ 24 + 16 * length c.streams + 32 * length c.units + 32 * length c.obus
  unfolding sheet_of sheet_numbers
  length_of_sheet =
      omega (
        arith,
        bytes_long (Streams ++ (Units ++ Obus)),
        length-append Streams (Units ++ Obus),
        length-append Units Obus,
        streams_long,
        units_long,
        obus_long,
      )

  module _ (small : Small (sheet_numbers c)) where
    whole : Represents (sheet_of c) 0 (Streams ++ (Units ++ Obus))
    unfolding sheet_of sheet_numbers
    whole = stands_all (sheet_numbers c) small

    stream_section : Represents (sheet_of c) 0 Streams
    stream_section = stands_left Streams (Units ++ Obus) whole

    streams_counted : stream_count (sheet_of c) ≡ length c.streams
    streams_counted = stream_section.at 0 0 (omega arith) refl

    unit_section_lem : Represents (sheet_of c) (unit_section (sheet_of c)) Units
    unit_section_lem =
        stands_left Units Obus
        (stands_right Streams (Units ++ Obus) (unit_section (sheet_of c)) (omega (arith, streams_counted, streams_long)) whole)

    units_counted : unit_count (sheet_of c) ≡ length c.units
    units_counted = unit_section_lem.at 0 (unit_section (sheet_of c)) (omega arith) (omega arith)

    obu_section_lem : Represents (sheet_of c) (obu_section (sheet_of c)) Obus
    obu_section_lem =
        stands_right Units Obus (obu_section (sheet_of c)) (omega (arith, units_counted, units_long))
        (stands_right Streams (Units ++ Obus) (unit_section (sheet_of c)) (omega (arith, streams_counted, streams_long)) whole)

    obus_counted : obu_count (sheet_of c) ≡ length c.obus
    obus_counted = obu_section_lem.at 0 (obu_section (sheet_of c)) (omega arith) (omega arith)

    -- the rows behind a count
    behind : {t : Bytes} {i n : ℕ} (ns : List ℕ) → Represents t i (n ∷ ns) → Represents t (i + 1) ns
    behind {n = n} ns h = stands_right (n ∷ []) ns _ refl h

    streams_back : rows (stream_row (sheet_of c)) 2 (stream_count (sheet_of c)) 1 ≡ c.streams
    streams_back =
        ap (λ (n : ℕ). rows (stream_row (sheet_of c)) 2 n 1) streams_counted
        ∙ rows_back stream_numbers 2 (λ a. refl) (sheet_of c) (stream_row (sheet_of c)) (stream_back (sheet_of c)) c.streams 1
        (behind _ stream_section)

    units_back : rows (unit_row (sheet_of c)) 4 (unit_count (sheet_of c)) (unit_section (sheet_of c) + 1) ≡ c.units
    units_back =
        ap (λ (n : ℕ). rows (unit_row (sheet_of c)) 4 n (unit_section (sheet_of c) + 1)) units_counted
        ∙ rows_back unit_numbers 4 (λ a. refl) (sheet_of c) (unit_row (sheet_of c)) (unit_back (sheet_of c)) c.units
        (unit_section (sheet_of c) + 1)
        (behind _ unit_section_lem)

    obus_back : rows (obu_row (sheet_of c)) 4 (obu_count (sheet_of c)) (obu_section (sheet_of c) + 1) ≡ c.obus
    obus_back =
        ap (λ (n : ℕ). rows (obu_row (sheet_of c)) 4 n (obu_section (sheet_of c) + 1)) obus_counted
        ∙ rows_back obu_numbers 4 (λ a. refl) (sheet_of c) (obu_row (sheet_of c)) (obu_back (sheet_of c)) c.obus
        (obu_section (sheet_of c) + 1)
        (behind _ obu_section_lem)

    pub content_back : content_of (sheet_of c) ≡ c
    unfolding content_of
    content_back = rw (streams_back, units_back, obus_back)

    pub length_right : length_wrong (sheet_of c) ≡ false
    unfolding length_wrong
    length_right =
        let e : length (sheet_of c) ≡ length_given (sheet_of c) =
        omega (arith, length_of_sheet, streams_counted, units_counted, obus_counted) in
        ap not (eq-eqb (length (sheet_of c)) (length_given (sheet_of c)) e)

-- ---- the numbers of a content of which no condition holds fit 8 bytes
small_both : (xs ys : List ℕ) → Small xs → Small ys → Small (xs ++ ys)
small_both [] ys h k = k
small_both (x ∷ xs) ys h k = (h.0, small_both xs ys h.1 k)

small_rows : {A : Type 0} (numbers : A → List ℕ) (l : List A) → All (λ a. Small (numbers a)) l → Small (numbers_of numbers l)
unfolding numbers_of flatten
small_rows numbers [] h = tt
small_rows numbers (a ∷ l) h = small_both (numbers a) (numbers_of numbers l) h.0 (small_rows numbers l h.1)

-- the longest unit
longest : (units : List UnitRow) (n : ℕ) → All ascending.Fine units → length_of units n ≤ 1573056
longest [] n h = omega arith
longest (u ∷ units) zero h = h.0.1
longest (u ∷ units) (suc n) h = longest units n h.1

module _ (c : Content) (e : content_wrong c ≡ false) where
  counts_small : (length c.streams ≤ 12) × (length c.units ≤ 1024) × (length c.obus ≤ 65536)
  unfolding count_past
  counts_small =
      let past = ltb 12 (length c.streams) in
      let many = ltb 1024 (length c.units) in
      let a = or_neither (past || many) (ltb 65536 (length c.obus)) (content_passes c e).counts in
      let b = or_neither past many a.0 in
      (ltb-false _ _ b.0, ltb-false _ _ b.1, ltb-false _ _ a.1)

  streams_small : All (λ r. Small (stream_numbers r)) c.streams
  unfolding stream_wrong
  streams_small = all_so c.streams one (none_holds stream_wrong c.streams (content_passes c e).streams)
    where
      one : (r : StreamRow) → stream_wrong r ≡ false → Small (stream_numbers r)
      one r h =
          let k = or_neither (ltb 0x1FFE r.pid) (ltb 255 r.stream_type) h in
          (omega (arith, ltb-false 0x1FFE r.pid k.0), (omega (arith, ltb-false 255 r.stream_type k.1), tt))

  units_fine : All ascending.Fine c.units
  units_fine = (units_right 0 c.units (content_passes c e).units).each

  units_small : All (λ r. Small (unit_numbers r)) c.units
  units_small =
      all_so c.units (λ u h. (omega (arith, h.0), (omega (arith, h.1), (omega (arith, h.2), (omega (arith, h.3), tt))))) units_fine

  obus_small : All (λ r. Small (obu_numbers r)) c.obus
  obus_small = all_so c.obus one (obus_right c.units at_first c.obus (omega arith) (content_passes c e).obus).each
    where
      one : (o : ObuRow) → payloads.Fine c.units o → Small (obu_numbers o)
      one o h =
          let l = longest c.units o.unit units_fine in
          (omega (arith, h.0, counts_small.1), (omega (arith, h.1), (omega (arith, h.3, l), (omega (arith, h.3, l), tt))))

  good_small : Small (sheet_numbers c)
  unfolding sheet_numbers
  good_small =
      small_both (Streams c) (Units c ++ Obus c) (omega (arith, counts_small.0), small_rows stream_numbers c.streams streams_small)
      (small_both (Units c) (Obus c) (omega (arith, counts_small.1), small_rows unit_numbers c.units units_small)
      (omega (arith, counts_small.2), small_rows obu_numbers c.obus obus_small))

small_fits : (ns : List ℕ) → Small ns → all (λ n. ltb n (2 ^ 64)) ns ≡ true
unfolding all
small_fits [] h = refl
small_fits (n ∷ ns) h = rw (lt-ltb n 18446744073709551616 h.0) (small_fits ns h.1)

fits_small : (ns : List ℕ) → all (λ n. ltb n (2 ^ 64)) ns ≡ true → Small ns
unfolding all
fits_small [] e = tt
fits_small (n ∷ ns) e =
    let h = and_both (ltb n (2 ^ 64)) (all (λ n. ltb n (2 ^ 64)) ns) e in
    (ltb-true n 18446744073709551616 h.0, fits_small ns h.1)

-- ---- the statements
pub reads_back : ReadsBack
unfolding wrong
reads_back c e =
    let back = content_back c (good_small c e) in
    (neither (length_right c (good_small c e)) (ap content_wrong back ∙ e), back)

pub counts_back : CountsBack
unfolding reading
counts_back c streams units obus e r =
    let h = reads_back c e in
    let room = ap (outputs_short streams units obus) h.1 ∙ r in
    sym (pass_on 45 h.0 (pass_on 8 room (ap (λ (b : Content). passed (counts_of b)) (sym h.1))))

none_from : (units : List UnitRow) (n : ℕ) → row_at units n ≡ None → length units ≤ n
unfolding row_at
none_from [] n e = omega arith
none_from (u ∷ units) zero e = let z : ◌≡◌ {A = ℕ} 0 1 = cc in absurd (omega arith)
none_from (u ∷ units) (suc n) e = let h = none_from units n e in omega arith

from_none : (units : List UnitRow) (n : ℕ) → length units ≤ n → row_at units n ≡ None
unfolding row_at
from_none [] n h = refl
from_none (u ∷ units) zero h = absurd (omega arith)
from_none (u ∷ units) (suc n) h = from_none units n (omega arith)

pub finds_units : FindsUnits
unfolding finding
finds_units c n e =
    let h = reads_back c e in (
      sym (pass_on 45 h.0 (ap (λ (b : Content). passed (row_at b.units n)) (sym h.1))),
      (none_from c.units n, from_none c.units n),
    )

pub good_fits : GoodFits
unfolding fits
good_fits c e = small_fits (sheet_numbers c) (good_small c e)

pub one_content : OneContent
unfolding fits
one_content b c f g e =
    sym (content_back b (fits_small (sheet_numbers b) f)) ∙ ap content_of e ∙ content_back c (fits_small (sheet_numbers c) g)

pub sheet_length : LengthOfSheet
sheet_length c = length_of_sheet c
