-- OBUs that stand unit by unit: where each unit has 1 to 64 of them, in it one behind the other, the pass over the rows finds nothing wrong
-- (`groups_pass`). Assumes nothing.
use Prim.Native.Nat.{ℕ, suc, ◌+◌, ◌≤◌, ◌<◌}
use mathlib.Core.Bool.{true, false, not}
use mathlib.Core.Path.{◌≡◌, refl, ap, ◌∙◌}
use mathlib.Core.List.{List, [], ◌∷◌, ◌++◌, flatten}
use native.Mathlib.Omega.{arith}
use native.Mathlib.Numerals.{add-one}
use borrow.Author.Tests.{le-ltb, eq-eqb, ne_eqb, lt-leb}
use lib.Dec.{eqb}
use lib.ListN.{length}
use Rattle.lists.specs.Lists.{pick}
use Rattle.sheet.specs.declared.rows.UnitRow.{UnitRow}
use Rattle.sheet.specs.declared.rows.ObuRow.{ObuRow}
use Rattle.sheet.specs.declared.obus.Progress.{Progress}
use Rattle.sheet.specs.Reading.{end, length_of}
use Rattle.sheet.specs.Passing.{at_first, misplaced, row_wrong, after, obus_wrong}
use Rattle.sheet.proofs.Pairs.{neither}

-- the OBUs of this unit, of so many bytes, of which the first begins at `low` or behind it
abbrev pub Stand : ℕ → ℕ → ℕ → List ObuRow → Type 0
Stand unit bound low [] = Unit {0}
Stand unit bound low (o ∷ os) =
    (o.unit ≡ unit) × (low ≤ o.offset) × (0 < o.length) × (o.obu_type ≤ 15) × (end o ≤ bound) × Stand unit bound (end o) os

module _ (units : List UnitRow) where
  -- the OBUs of the units from this one on
  abbrev pub Groups : ℕ → List (List ObuRow) → Type 0
  Groups index [] = Unit {0}
  Groups index (g ∷ gs) =
      (1 ≤ length g) × (length g ≤ 64) × Stand index (length_of units index) 0 g × Groups (suc index) gs

  module _ (index : ℕ) (h : index < length units) where
    row_right : (o : ObuRow) → o.unit ≡ index → 0 < o.length → o.obu_type ≤ 15 → end o ≤ length_of units index
        → row_wrong units o ≡ false
    unfolding row_wrong
    row_right o e some type within =
        neither
        (neither (neither (lt-leb (length units) o.unit (omega (arith, e))) (le-ltb 15 o.obu_type type))
        (ne_eqb o.length 0 (λ z. omega (arith, some, z))))
        (le-ltb (length_of units o.unit) (end o) (omega (arith, within, ap (length_of units) e)))

    -- the others of a unit that has begun
    others : (p : Progress) (g rest : List ObuRow) → p.begun ≡ index + 1 → p.count + length g ≤ 64
        → Stand index (length_of units index) p.end g
        → ((q : Progress) → q.begun ≡ index + 1 → obus_wrong units q rest ≡ false) → obus_wrong units p (g ++ rest) ≡ false
    unfolding obus_wrong misplaced after pick
    others p [] rest b few s k = k p b
    others p (o ∷ g) rest b few s k =
        neither (neither (row_right o s.0 s.2 s.3 s.4) placed)
        (others (after p o) g rest (begun ∙ ap (λ (n : ℕ). n + 1) s.0) (omega (arith, counted, few)) (on s.5) k)
      where
        here : eqb o.unit p.begun ≡ false
        here = ne_eqb o.unit p.begun (λ z. omega (arith, s.0, b, z))

        same : eqb (o.unit + 1) p.begun ≡ true
        same = eq-eqb (o.unit + 1) p.begun (omega (arith, s.0, b))

        placed : misplaced p o ≡ false
        placed = rw (here, same) (neither (lt-leb 64 p.count (omega (arith, few))) (le-ltb o.offset p.end s.1))

        begun : (after p o).begun ≡ o.unit + 1
        begun = refl

        counted : (after p o).count ≡ p.count + 1
        counted = rw here

        on : Stand index (length_of units index) (end o) g → Stand index (length_of units index) (after p o).end g
        on x = x

    -- the first one begins the unit
    group : (p : Progress) (g rest : List ObuRow) → p.begun ≡ index → 1 ≤ length g → length g ≤ 64
        → Stand index (length_of units index) 0 g
        → ((q : Progress) → q.begun ≡ index + 1 → obus_wrong units q rest ≡ false) → obus_wrong units p (g ++ rest) ≡ false
    unfolding obus_wrong misplaced after pick
    group p [] rest b least few s k = absurd (omega arith)
    group p (o ∷ g) rest b least few s k =
        neither (neither (row_right o s.0 s.2 s.3 s.4) placed)
        (others (after p o) g rest (begun ∙ ap (λ (n : ℕ). n + 1) s.0) (omega (arith, counted, few)) (on s.5) k)
      where
        here : eqb o.unit p.begun ≡ true
        here = eq-eqb o.unit p.begun (omega (arith, s.0, b))

        placed : misplaced p o ≡ false
        placed = rw here

        begun : (after p o).begun ≡ o.unit + 1
        begun = refl

        counted : (after p o).count ≡ 1
        counted = rw here

        on : Stand index (length_of units index) (end o) g → Stand index (length_of units index) (after p o).end g
        on x = x

  groups_from : (index : ℕ) (gs : List (List ObuRow)) (p : Progress) → p.begun ≡ index → index + length gs ≡ length units
      → Groups index gs → obus_wrong units p (flatten gs) ≡ false
  unfolding flatten obus_wrong
  groups_from index [] p b e h = ap not (eq-eqb p.begun (length units) (omega (arith, b, e)))
  groups_from index (g ∷ gs) p b e h =
      group index (omega (arith, e)) p g (flatten gs) b h.0 h.1 h.2
      (λ q c. groups_from (suc index) gs q (c ∙ add-one index) (omega (arith, e)) h.3)

  pub groups_pass : (gs : List (List ObuRow)) → length gs ≡ length units → Groups 0 gs → obus_wrong units at_first (flatten gs) ≡ false
  groups_pass gs e h = groups_from 0 gs at_first refl (omega (arith, e)) h
