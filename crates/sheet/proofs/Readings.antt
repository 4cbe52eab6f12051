-- The numbers of a section row by row, and the answers of reading and finding, from what the check says. Assumes nothing.
use Rattle.std.specs.Prelude.{Some, None}
use Prim.Native.Nat.{ℕ, zero, suc, ◌+◌, ◌*◌, ◌≤◌, ◌<◌}
use mathlib.Core.Bool.{true, false, ◌||◌}
use mathlib.Core.Path.{◌≡◌, refl, sym, ap, subst, ◌∙◌}
use mathlib.Core.List.{List, ◌∷◌, flatten}
use native.Mathlib.Omega.{arith}
use lib.Dec.{ltb}
use lib.ListN.{length}
use borrow.Author.Tests.{ltb-false}
use Rattle.lists.specs.Lists.{Bytes, over}
use Rattle.lists.proofs.Tests.{or_neither}
use Rattle.refusal.specs.Verdict.{passed, refused}
use Rattle.refusal.proofs.Verdicts.{refuse, pass_on}
use Rattle.sheet.specs.declared.sections.Sections.{Sections}
use Rattle.sheet.specs.Sheet.{stream_numbers, unit_numbers, obu_numbers, numbers_of}
use Rattle.sheet.specs.Reading.{number, rows, stream_row, unit_row, obu_row, stream_count, unit_section, unit_count, obu_section, obu_count}
use Rattle.sheet.specs.Reading.{content_of, outputs_short, counts_of, reading, row_at, finding}
use Rattle.sheet.specs.Passing.{sections_of, checking, rooms_short, numbers_from}
use Rattle.sheet.proofs.RowByRow.{length_rows, row_at_lem, no_row_at}
use Rattle.sheet.proofs.Measures.{is_right, is_wrong, sections_same}

-- ---- the numbers of rows
module _ (s : Bytes) where
  two_more : (n i : ℕ) → numbers_from s (2 * suc n) i ≡ number s i ∷ number s (i + 1) ∷ numbers_from s (2 * n) (i + 2)
  unfolding rows
  two_more n i =
      let m : 2 * suc n ≡ suc (suc (2 * n)) = omega arith in
      let e : i + 1 + 1 ≡ i + 2 = omega arith in
      ap (λ (k : ℕ). numbers_from s k i) m ∙ ap (λ (k : ℕ). number s i ∷ number s (i + 1) ∷ numbers_from s (2 * n) k) e

  four_more : (n i : ℕ)
      → numbers_from s (4 * suc n) i ≡ number s i ∷ number s (i + 1) ∷ number s (i + 2) ∷ number s (i + 3) ∷ numbers_from s (4 * n) (i + 4)
  unfolding rows
  four_more n i =
      let m : 4 * suc n ≡ suc (suc (suc (suc (4 * n)))) = omega arith in
      let e : i + 1 + 1 ≡ i + 2 = omega arith in
      let f : i + 2 + 1 ≡ i + 3 = omega arith in
      let g : i + 3 + 1 ≡ i + 4 = omega arith in
      ap (λ (k : ℕ). numbers_from s k i) m ∙ rw (e, f, g)

  pub streams_flat : (n i : ℕ) → numbers_of stream_numbers (rows (stream_row s) 2 n i) ≡ numbers_from s (2 * n) i
  unfolding rows numbers_of flatten
  streams_flat zero i = refl
  streams_flat (suc n) i =
      ap (λ (l : List ℕ). number s i ∷ number s (i + 1) ∷ l) (streams_flat n (i + 2)) ∙ sym (two_more n i)

  pub units_flat : (n i : ℕ) → numbers_of unit_numbers (rows (unit_row s) 4 n i) ≡ numbers_from s (4 * n) i
  unfolding rows numbers_of flatten
  units_flat zero i = refl
  units_flat (suc n) i =
      ap (λ (l : List ℕ). number s i ∷ number s (i + 1) ∷ number s (i + 2) ∷ number s (i + 3) ∷ l) (units_flat n (i + 4))
      ∙ sym (four_more n i)

  pub obus_flat : (n i : ℕ) → numbers_of obu_numbers (rows (obu_row s) 4 n i) ≡ numbers_from s (4 * n) i
  unfolding rows numbers_of flatten
  obus_flat zero i = refl
  obus_flat (suc n) i =
      ap (λ (l : List ℕ). number s i ∷ number s (i + 1) ∷ number s (i + 2) ∷ number s (i + 3) ∷ l) (obus_flat n (i + 4))
      ∙ sym (four_more n i)

-- ---- a bad sheet
module _ (s : Bytes) (e : None ≡ checking s) where
  pub read_refused : (a b d : ℕ) → refused 45 0 ≡ reading s a b d
  unfolding reading
  read_refused a b d = refuse 45 _ (is_wrong s e)

  pub find_refused : (n : ℕ) → refused 45 0 ≡ finding s n
  unfolding finding
  find_refused n = refuse 45 _ (is_wrong s e)

-- ---- a good one, with the sections that were found
module _ (s : Bytes) (t : Sections) (e : Some t ≡ checking s) where
  as_sections : sections_of s ≡ t
  as_sections = sections_same s t e

  -- the numbers of its content, and how many there are
  stream_numbers_lem : numbers_of stream_numbers (content_of s).streams ≡ numbers_from s (2 * t.streams) 1
  unfolding content_of
  stream_numbers_lem = streams_flat s (stream_count s) 1 ∙ ap (λ (u : Sections). numbers_from s (2 * u.streams) 1) as_sections

  unit_numbers_lem : numbers_of unit_numbers (content_of s).units ≡ numbers_from s (4 * t.units) t.unit_rows
  unfolding content_of
  unit_numbers_lem =
      units_flat s (unit_count s) (unit_section s + 1)
      ∙ ap (λ (u : Sections). numbers_from s (4 * u.units) u.unit_rows) as_sections

  obu_numbers_lem : numbers_of obu_numbers (content_of s).obus ≡ numbers_from s (4 * t.obus) t.obu_rows
  unfolding content_of
  obu_numbers_lem =
      obus_flat s (obu_count s) (obu_section s + 1)
      ∙ ap (λ (u : Sections). numbers_from s (4 * u.obus) u.obu_rows) as_sections

  -- so what was copied is what the content has
  pub streams_copied : {after : List ℕ} (out : List ℕ) → after ≡ over (numbers_from s (2 * t.streams) 1) out
      → after ≡ over (numbers_of stream_numbers (content_of s).streams) out
  streams_copied out h = h ∙ ap (λ (l : List ℕ). over l out) (sym stream_numbers_lem)

  pub units_copied : {after : List ℕ} (out : List ℕ) → after ≡ over (numbers_from s (4 * t.units) t.unit_rows) out
      → after ≡ over (numbers_of unit_numbers (content_of s).units) out
  units_copied out h = h ∙ ap (λ (l : List ℕ). over l out) (sym unit_numbers_lem)

  pub obus_copied : {after : List ℕ} (out : List ℕ) → after ≡ over (numbers_from s (4 * t.obus) t.obu_rows) out
      → after ≡ over (numbers_of obu_numbers (content_of s).obus) out
  obus_copied out h = h ∙ ap (λ (l : List ℕ). over l out) (sym obu_numbers_lem)

  counted : (n i : ℕ) → length (numbers_from s n i) ≡ n
  counted n i = length_rows (number s) 1 n i

  counts_are : record { streams = t.streams; units = t.units; obus = t.obus } ≡ counts_of (content_of s)
  unfolding content_of
  counts_are =
      ap (λ (u : Sections). record { streams = u.streams; units = u.units; obus = u.obus }) (sym as_sections)
      ∙ sym
      (rw (
        length_rows (stream_row s) 2 (stream_count s) 1,
        length_rows (unit_row s) 4 (unit_count s) (unit_section s + 1),
        length_rows (obu_row s) 4 (obu_count s) (obu_section s + 1),
      ))

  module _ (a b d : ℕ) where
    rooms : outputs_short a b d (content_of s) ≡ rooms_short t a b d
    unfolding outputs_short rooms_short
    rooms =
        rw (
          stream_numbers_lem,
          unit_numbers_lem,
          obu_numbers_lem,
          counted (2 * t.streams) 1,
          counted (4 * t.units) t.unit_rows,
          counted (4 * t.obus) t.obu_rows,
        )

    pub no_room : rooms_short t a b d ≡ true → refused 8 0 ≡ reading s a b d
    unfolding reading
    no_room h = pass_on 45 (is_right s t e) (refuse 8 _ (rooms ∙ h))

    module _ (h : rooms_short t a b d ≡ false) where
      pub all_read : passed (record { streams = t.streams; units = t.units; obus = t.obus }) ≡ reading s a b d
      unfolding reading
      all_read = pass_on 45 (is_right s t e) (pass_on 8 (rooms ∙ h) (ap passed counts_are))

      pub fits : (2 * t.streams ≤ a) × (4 * t.units ≤ b) × (4 * t.obus ≤ d)
      unfolding rooms_short
      fits =
          let k = or_neither (ltb a (2 * t.streams) || ltb b (4 * t.units)) (ltb d (4 * t.obus)) h in
          let l = or_neither (ltb a (2 * t.streams)) (ltb b (4 * t.units)) k.0 in
          (ltb-false _ _ l.0, ltb-false _ _ l.1, ltb-false _ _ k.1)

  -- a unit by its number
  module _ (n : ℕ) where
    pub find_none : t.units ≤ n → passed None ≡ finding s n
    unfolding finding content_of
    find_none h =
        pass_on 45 (is_right s t e)
        (ap passed
        (subst (λ (u : Sections). None ≡ row_at (rows (unit_row s) 4 u.units u.unit_rows) n) (sym as_sections) (no_row_at s _ _ n h)))

    pub find_row : n < t.units → passed (Some (unit_row s (t.unit_rows + 4 * n))) ≡ finding s n
    unfolding finding content_of
    find_row h =
        pass_on 45 (is_right s t e)
        (ap passed
        (subst (λ (u : Sections). Some (unit_row s (t.unit_rows + 4 * n)) ≡ row_at (rows (unit_row s) 4 u.units u.unit_rows) n)
        (sym as_sections) (row_at_lem s _ _ n h)))
