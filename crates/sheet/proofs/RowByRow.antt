-- The rows of a section one by one, as the loops over them go: the rows from here on say what the whole section says. Assumes nothing.
use Rattle.std.specs.Prelude.{Some, None}
use Prim.Native.Nat.{ℕ, zero, suc, ◌+◌, ◌-◌, ◌*◌, ◌≤◌, ◌<◌}
use mathlib.Core.Bool.{Bool, true, false, not, ◌||◌}
use mathlib.Core.Path.{◌≡◌, refl, sym, ap, ap₂, ◌∙◌}
use mathlib.Core.List.{List, [], ◌∷◌}
use native.Mathlib.Omega.{arith}
use lib.Dec.{eqb}
use lib.ListN.{length}
use Rattle.lists.specs.Lists.{Bytes, any}
use Rattle.sheet.specs.declared.rows.UnitRow.{UnitRow}
use Rattle.sheet.specs.declared.rows.ObuRow.{ObuRow}
use Rattle.sheet.specs.declared.obus.Progress.{Progress}
use Rattle.sheet.specs.Reading.{number, rows, stream_row, unit_row, obu_row, length_of, row_at}
use Rattle.sheet.proofs.Pairs.{picked_none, picked_some}
use Rattle.sheet.specs.Passing.{stream_wrong, unit_wrong, units_wrong, misplaced, row_wrong, after, obus_wrong, placing}

-- ---- rows
module _ {A : Type 0} (row : ℕ → A) (width : ℕ) where
  pub rows_next : (n i : ℕ) → 0 < n → rows row width n i ≡ row i ∷ rows row width (n - 1) (i + width)
  unfolding rows
  rows_next zero i h = absurd (omega arith)
  rows_next (suc n) i h =
      let e : n ≡ suc n - 1 = omega arith in
      ap (λ (m : ℕ). row i ∷ rows row width m (i + width)) e

  pub rows_none : (n i : ℕ) → n ≤ 0 → rows row width n i ≡ []
  unfolding rows
  rows_none zero i h = refl
  rows_none (suc n) i h = absurd (omega arith)

  pub length_rows : (n i : ℕ) → length (rows row width n i) ≡ n
  unfolding rows
  length_rows zero i = refl
  length_rows (suc n) i = ap suc (length_rows n (i + width))

-- the first of them, and the next, as a loop over their indexes has them
module _ {A : Type 0} (row : ℕ → A) (count i : ℕ) where
  pub pairs_first : rows row 2 count i ≡ rows row 2 (count - 0) (i + 2 * 0)
  pairs_first =
      let m : count ≡ count - 0 = omega arith in
      let k : i ≡ i + 2 * 0 = omega arith in
      ap₂ (λ (x y : ℕ). rows row 2 x y) m k

  pub pairs_step : (n : ℕ) → rows row 2 (count - n - 1) (i + 2 * n + 2) ≡ rows row 2 (count - (n + 1)) (i + 2 * (n + 1))
  pairs_step n =
      let m : count - n - 1 ≡ count - (n + 1) = omega arith in
      let k : i + 2 * n + 2 ≡ i + 2 * (n + 1) = omega arith in
      ap₂ (λ (x y : ℕ). rows row 2 x y) m k

  pub fours_first : rows row 4 count i ≡ rows row 4 (count - 0) (i + 4 * 0)
  fours_first =
      let m : count ≡ count - 0 = omega arith in
      let k : i ≡ i + 4 * 0 = omega arith in
      ap₂ (λ (x y : ℕ). rows row 4 x y) m k

  pub fours_step : (n : ℕ) → rows row 4 (count - n - 1) (i + 4 * n + 4) ≡ rows row 4 (count - (n + 1)) (i + 4 * (n + 1))
  fours_step n =
      let m : count - n - 1 ≡ count - (n + 1) = omega arith in
      let k : i + 4 * n + 4 ≡ i + 4 * (n + 1) = omega arith in
      ap₂ (λ (x y : ℕ). rows row 4 x y) m k

module _ (s : Bytes) where
  -- the carried length of a unit, by its number, and its row
  pub length_at : (n i m : ℕ) → m < n → length_of (rows (unit_row s) 4 n i) m ≡ number s (i + 4 * m + 1)
  unfolding rows
  length_at zero i m h = absurd (omega arith)
  length_at (suc n) i zero h = let e : i + 1 ≡ i + 4 * 0 + 1 = omega arith in ap (number s) e
  length_at (suc n) i (suc m) h =
      let e : i + 4 + 4 * m + 1 ≡ i + 4 * suc m + 1 = omega arith in
      length_at n (i + 4) m (omega arith) ∙ ap (number s) e

  pub row_at_lem : (n i m : ℕ) → m < n → Some (unit_row s (i + 4 * m)) ≡ row_at (rows (unit_row s) 4 n i) m
  unfolding rows row_at
  row_at_lem zero i m h = absurd (omega arith)
  row_at_lem (suc n) i zero h = let e : i + 4 * 0 ≡ i = omega arith in ap (λ (k : ℕ). Some (unit_row s k)) e
  row_at_lem (suc n) i (suc m) h =
      let e : i + 4 * suc m ≡ i + 4 + 4 * m = omega arith in
      ap (λ (k : ℕ). Some (unit_row s k)) e ∙ row_at_lem n (i + 4) m (omega arith)

  pub no_row_at : (n i m : ℕ) → n ≤ m → None ≡ row_at (rows (unit_row s) 4 n i) m
  unfolding rows row_at
  no_row_at zero i m h = refl
  no_row_at (suc n) i zero h = absurd (omega arith)
  no_row_at (suc n) i (suc m) h = no_row_at n (i + 4) m (omega arith)

  -- ---- streams
  pub streams_end : (n i : ℕ) → n ≤ 0 → any stream_wrong (rows (stream_row s) 2 n i) ≡ false
  unfolding any
  streams_end n i h = ap (any stream_wrong) (rows_none (stream_row s) 2 n i h)

  module _ (n i : ℕ) (h : 0 < n) where
    streams_open : any stream_wrong (rows (stream_row s) 2 n i)
        ≡ (stream_wrong (stream_row s i) || any stream_wrong (rows (stream_row s) 2 (n - 1) (i + 2)))
    unfolding any
    streams_open = ap (any stream_wrong) (rows_next (stream_row s) 2 n i h)

    pub streams_found : stream_wrong (stream_row s i) ≡ true → any stream_wrong (rows (stream_row s) 2 n i) ≡ true
    streams_found e = streams_open ∙ rw e

    pub streams_on : stream_wrong (stream_row s i) ≡ false
        → any stream_wrong (rows (stream_row s) 2 n i) ≡ any stream_wrong (rows (stream_row s) 2 (n - 1) (i + 2))
    streams_on e = streams_open ∙ rw e

  -- ---- units
  pub units_end : (low n i : ℕ) → n ≤ 0 → units_wrong low (rows (unit_row s) 4 n i) ≡ false
  unfolding units_wrong
  units_end low n i h = ap (units_wrong low) (rows_none (unit_row s) 4 n i h)

  module _ (low n i : ℕ) (h : 0 < n) where
    units_open : units_wrong low (rows (unit_row s) 4 n i)
        ≡ (unit_wrong low (unit_row s i) || units_wrong (number s i + 1) (rows (unit_row s) 4 (n - 1) (i + 4)))
    unfolding units_wrong
    units_open = ap (units_wrong low) (rows_next (unit_row s) 4 n i h)

    pub units_found : unit_wrong low (unit_row s i) ≡ true → units_wrong low (rows (unit_row s) 4 n i) ≡ true
    units_found e = units_open ∙ rw e

    pub units_on : unit_wrong low (unit_row s i) ≡ false
        → units_wrong low (rows (unit_row s) 4 n i) ≡ units_wrong (number s i + 1) (rows (unit_row s) 4 (n - 1) (i + 4))
    units_on e = units_open ∙ rw e

  -- ---- OBUs
  module _ (units : List UnitRow) (p : Progress) where
    pub obus_end : (n i : ℕ) → n ≤ 0 → obus_wrong units p (rows (obu_row s) 4 n i) ≡ not (eqb p.begun (length units))
    unfolding obus_wrong
    obus_end n i h = ap (obus_wrong units p) (rows_none (obu_row s) 4 n i h)

    module _ (n i : ℕ) (h : 0 < n) where
      obus_open : obus_wrong units p (rows (obu_row s) 4 n i)
          ≡ ((row_wrong units (obu_row s i) || misplaced p (obu_row s i))
          || obus_wrong units (after p (obu_row s i)) (rows (obu_row s) 4 (n - 1) (i + 4)))
      unfolding obus_wrong
      obus_open = ap (obus_wrong units p) (rows_next (obu_row s) 4 n i h)

      -- the row that was read
      module _ (o : ObuRow) (e : o ≡ obu_row s i) where
        opened : obus_wrong units p (rows (obu_row s) 4 n i)
            ≡ ((row_wrong units o || misplaced p o) || obus_wrong units (after p o) (rows (obu_row s) 4 (n - 1) (i + 4)))
        opened =
            obus_open
            ∙ ap
            (λ (x : ObuRow). ((row_wrong units x || misplaced p x) || obus_wrong units (after p x) (rows (obu_row s) 4 (n - 1) (i + 4))))
            (sym e)

        -- and what its test said
        pub row_found : {r : Bool} → r ≡ row_wrong units o → r ≡ true → obus_wrong units p (rows (obu_row s) 4 n i) ≡ true
        row_found f t = opened ∙ rw (sym f ∙ t)

        module _ {r : Bool} (f : r ≡ row_wrong units o) (t : r ≡ false) where
          pub place_found : None ≡ placing p o → obus_wrong units p (rows (obu_row s) 4 n i) ≡ true
          unfolding placing
          place_found g = opened ∙ rw (sym f ∙ t, picked_none (misplaced p o) (after p o) g)

          pub obus_on : (q : Progress) → Some q ≡ placing p o
              → obus_wrong units p (rows (obu_row s) 4 n i) ≡ obus_wrong units q (rows (obu_row s) 4 (n - 1) (i + 4))
          unfolding placing
          obus_on q g =
              let k = picked_some (misplaced p o) (after p o) q g in
              opened ∙ rw (sym f ∙ t, k.0, k.1)
