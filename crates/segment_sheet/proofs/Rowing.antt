-- The loop over the rows of a section by their index: what is put, then the rows from here on, is the section. Assumes nothing.
use Prim.Native.Nat.{ℕ, suc, ◌+◌, ◌-◌, ◌*◌, ◌≤◌, ◌<◌}
use mathlib.Core.Path.{◌≡◌, ap, ◌∙◌}
use mathlib.Core.List.{List, [], ◌∷◌, ◌++◌}
use native.Mathlib.Omega.{arith}
use lib.ListN.{length, length-append}
use Rattle.lists.specs.Lists.{Bytes, placed}
use Rattle.sheet.specs.declared.rows.StreamRow.{StreamRow}
use Rattle.sheet.specs.declared.rows.UnitRow.{UnitRow}
use Rattle.sheet.specs.Sheet.{stream_numbers, unit_numbers, in_bytes}
use Rattle.sheet.proofs.BigEndian.{bytes_long as eight_long}
use Rattle.sheet.specs.Reading.{rows}
use Rattle.sheet.proofs.RowByRow.{rows_next, rows_none, length_rows}
use Rattle.segment_sheet.proofs.Filling.{Filling, filling_start, filling_as, filling_next, filling_room, filling_done, filling_long}
use Rattle.segment_sheet.proofs.Filling.{row_bytes, row_none, row_next}

module _ {A : Type 0} (numbers : A → List ℕ) (size : ℕ) (sized : (a : A) → length (in_bytes (numbers a)) ≡ size) where
  pub bytes_long : (l : List A) → length (row_bytes numbers l) ≡ size * length l
  bytes_long [] = ap length (row_none numbers) ∙ omega arith
  bytes_long (a ∷ l) =
      let e : size * suc (length l) ≡ size + size * length l = omega arith in
      omega (
        arith,
        ap length (row_next numbers a l),
        length-append (in_bytes (numbers a)) (row_bytes numbers l),
        sized a,
        bytes_long l,
        e,
      )

  module _ (row : ℕ → A) (count : ℕ) where
    abbrev pub whole : Bytes
    whole = row_bytes numbers (rows row 1 count 0)

    abbrev pub to_come : ℕ → Bytes
    to_come i = row_bytes numbers (rows row 1 (count - i) i)

    pub record Rowing (out₀ : Bytes) (at to i : ℕ) (out : Bytes) : Type 0 where
      pub within : i ≤ count
      pub filling : Filling out₀ at whole to (to_come i) out

    pub whole_long : length whole ≡ size * count
    whole_long = bytes_long (rows row 1 count 0) ∙ ap (λ (n : ℕ). size * n) (length_rows row 1 count 0)

    pub rowing_start : (out : Bytes) (at : ℕ) → at + size * count ≤ length out → Rowing out at at 0 out
    rowing_start out at h =
        let z : count ≡ count - 0 = omega arith in
        record {
          within = omega arith;
          filling =
              filling_as (filling_start out at whole (omega (arith, whole_long))) _ (ap (λ (m : ℕ). row_bytes numbers (rows row 1 m 0)) z);
        }

    module _ {out₀ : Bytes} {at to i : ℕ} {out : Bytes} (r : Rowing out₀ at to i out) where
      pub rowing_long : length out ≡ length out₀
      rowing_long = filling_long r.filling

      module _ (h : i < count) where
        opened : Filling out₀ at whole to (in_bytes (numbers (row i)) ++ to_come (i + 1)) out
        opened =
            let e : count - i - 1 ≡ count - (i + 1) = omega arith in
            filling_as r.filling _
            (ap (row_bytes numbers)
            (rows_next row 1 (count - i) i (omega arith) ∙ ap (λ (m : ℕ). row i ∷ rows row 1 m (i + 1)) e)
            ∙ row_next numbers (row i) (rows row 1 (count - (i + 1)) (i + 1)))

        pub rowing_room : to + size ≤ length out
        rowing_room = omega (arith, filling_room (in_bytes (numbers (row i))) (to_come (i + 1)) opened, sized (row i))

        pub rowing_next : (to' : ℕ) (out' : Bytes) → to' ≡ to + size → out' ≡ placed out to (in_bytes (numbers (row i)))
            → Rowing out₀ at to' (i + 1) out'
        rowing_next to' out' e o =
            record {
              within = omega arith;
              filling = filling_next (in_bytes (numbers (row i))) (to_come (i + 1)) opened to' out' (omega (arith, e, sized (row i))) o;
            }

      pub rowing_done : count ≤ i → out ≡ placed out₀ at whole
      rowing_done h =
          filling_done r.filling (ap (row_bytes numbers) (rows_none row 1 (count - i) i (omega arith)) ∙ row_none numbers)

-- ---- streams and units
pub stream_size : (r : StreamRow) → length (in_bytes (stream_numbers r)) ≡ 16
stream_size r = eight_long (stream_numbers r)

pub unit_size : (r : UnitRow) → length (in_bytes (unit_numbers r)) ≡ 32
unit_size r = eight_long (unit_numbers r)
