-- One OBU: whether its payload passes its unit's length, and the progress behind it. Assumes nothing.
use Rattle.std.specs.Prelude.{Some, None}
use Prim.Native.Nat.{ℕ, ◌+◌, ◌-◌, ◌*◌, ◌≤◌, ◌<◌}
use mathlib.Core.Bool.{true, ◌||◌}
use mathlib.Core.Path.{◌≡◌, sym, ◌∙◌}
use native.Mathlib.Omega.{arith}
use lib.Dec.{eqb, ltb, leb}
use borrow.Author.Tests.{ltb-false, lt-ltb, le-ltb, eq-eqb, ne_eqb, le-leb, lt-leb}
use Rattle.lists.specs.Lists.{Bytes, pick}
use Rattle.sheet.specs.declared.rows.ObuRow.{ObuRow}
use Rattle.sheet.specs.declared.obus.Progress.{Progress}
use Rattle.sheet.specs.Reading.{number, rows, unit_row, length_of, end}
use Rattle.sheet.specs.Passing.{row_wrong, misplaced, after, placing}
use Rattle.sheet.proofs.Pairs.{same_test}
use Rattle.sheet.proofs.RowByRow.{length_rows, length_at}

module _ (o : ObuRow) (length : ℕ) where
  pub offset_passes : length < o.offset → true ≡ ltb length (end o)
  offset_passes h = sym (lt-ltb length (end o) (omega arith))

  pub length_passes : o.offset ≤ length → ltb (length - o.offset) o.length ≡ ltb length (end o)
  length_passes h =
      same_test (ltb (length - o.offset) o.length) (ltb length (end o))
      (λ e. le-ltb length (end o) (omega (arith, ltb-false (length - o.offset) o.length e)))
      (λ e. le-ltb (length - o.offset) o.length (omega (arith, ltb-false length (end o) e)))

-- ---- an OBU by itself, of n units whose rows begin at number i
module _ (s : Bytes) (n i : ℕ) (o : ObuRow) where
  of_units : row_wrong (rows (unit_row s) 4 n i) o
      ≡ (leb n o.unit || ltb 15 o.obu_type || eqb o.length 0 || ltb (length_of (rows (unit_row s) 4 n i) o.unit) (end o))
  unfolding row_wrong
  of_units = rw (length_rows (unit_row s) 4 n i)

  pub no_unit_lem : n ≤ o.unit → true ≡ row_wrong (rows (unit_row s) 4 n i) o
  no_unit_lem h = sym (of_units ∙ rw (le-leb n o.unit h))

  module _ (h : o.unit < n) where
    pub type_past : 15 < o.obu_type → true ≡ row_wrong (rows (unit_row s) 4 n i) o
    type_past k = sym (of_units ∙ rw (lt-leb n o.unit h, lt-ltb 15 o.obu_type k))

    module _ (k : o.obu_type ≤ 15) where
      pub no_payload : o.length ≡ 0 → true ≡ row_wrong (rows (unit_row s) 4 n i) o
      no_payload e = sym (of_units ∙ rw (lt-leb n o.unit h, le-ltb 15 o.obu_type k, eq-eqb o.length 0 e))

      pub by_length : (o.length ≡ 0 → ⊥) → ltb (number s (i + 4 * o.unit + 1)) (end o) ≡ row_wrong (rows (unit_row s) 4 n i) o
      by_length e =
          sym (of_units ∙ rw (lt-leb n o.unit h, le-ltb 15 o.obu_type k, ne_eqb o.length 0 e, length_at s n i o.unit h))

-- ---- the progress behind an OBU
module _ (p : Progress) (o : ObuRow) where
  pub begins : o.unit ≡ p.begun → Some (record { begun = o.unit + 1; count = 1; end = o.offset + o.length }) ≡ placing p o
  unfolding placing misplaced after pick
  begins e = rw (eq-eqb o.unit p.begun e)

  module _ (n : o.unit ≡ p.begun → ⊥) where
    pub elsewhere : (o.unit + 1 ≡ p.begun → ⊥) → None ≡ placing p o
    unfolding placing misplaced after pick
    elsewhere e = rw (ne_eqb o.unit p.begun n, ne_eqb (o.unit + 1) p.begun e)

    module _ (e : o.unit + 1 ≡ p.begun) where
      pub full : 64 ≤ p.count → None ≡ placing p o
      unfolding placing misplaced after pick
      full h = rw (ne_eqb o.unit p.begun n, eq-eqb (o.unit + 1) p.begun e, le-leb 64 p.count h)

      module _ (h : p.count < 64) where
        pub too_early : o.offset < p.end → None ≡ placing p o
        unfolding placing misplaced after pick
        too_early k =
            rw (ne_eqb o.unit p.begun n, eq-eqb (o.unit + 1) p.begun e, lt-leb 64 p.count h, lt-ltb o.offset p.end k)

        pub goes_on : p.end ≤ o.offset
            → Some (record { begun = o.unit + 1; count = p.count + 1; end = o.offset + o.length }) ≡ placing p o
        unfolding placing misplaced after pick
        goes_on k =
            rw (ne_eqb o.unit p.begun n, eq-eqb (o.unit + 1) p.begun e, lt-leb 64 p.count h, le-ltb o.offset p.end k)
