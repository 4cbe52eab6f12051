-- Units that stand back to back, one after the other by their lengths: the OBUs of this one, then those of the units to come, are the OBUs
-- of the units from here on. Assumes nothing.
use Prim.Native.Nat.{ℕ, ◌+◌, ◌*◌, ◌≤◌}
use mathlib.Core.Bool.{false}
use mathlib.Core.Path.{◌≡◌, sym, ap, ap₂, subst, ◌∙◌}
use mathlib.Core.List.{List, [], ◌∷◌, ◌++◌}
use native.Mathlib.Omega.{arith}
use native.Mathlib.Numerals.{add-one}
use borrow.Author.Tests.{le-ltb}
use lib.Dec.{ltb}
use lib.ListN.{length, take, drop, length-append, length-take, length-drop}
use lib.Seq.{drop-drop}
use Rattle.lists.specs.Lists.{Bytes, placed}
use Rattle.sheet.specs.declared.rows.ObuRow.{ObuRow}
use Rattle.sheet.specs.Sheet.{obu_numbers}
use Rattle.segment_sheet.specs.Parts.{cuts, Readable, CutsRight, obus_in, obus_from}
use Rattle.segment_sheet.proofs.Filling.{Filling, filling_start, filling_as, filling_next, filling_room, filling_done, filling_long}
use Rattle.segment_sheet.proofs.Filling.{filling_place, row_none, row_append}
use Rattle.segment_sheet.proofs.Walking.{obu_bytes, obus_long}

-- the OBUs of the units from here on
abbrev pub obus_to_come : List ℕ → Bytes → ℕ → ℕ → List ObuRow
obus_to_come ns bytes i from = obus_from i (cuts (drop i ns) (drop from bytes))

pub record Cutting (ns : List ℕ) (bytes : Bytes) (i from : ℕ) : Type 0 where
  pub within : from ≤ length bytes
  pub right : CutsRight (drop i ns) (drop from bytes)

pub cutting_start : (ns : List ℕ) (bytes : Bytes) → CutsRight ns bytes → Cutting ns bytes 0 0
cutting_start ns bytes h = record { within = omega arith; right = h }

module _ {ns : List ℕ} {bytes : Bytes} {i from : ℕ} (c : Cutting ns bytes i from) where
  pub none_to_come : drop i ns ≡ [] → obus_to_come ns bytes i from ≡ []
  unfolding cuts obus_from
  none_to_come e = ap (λ (l : List ℕ). obus_from i (cuts l (drop from bytes))) e

  module _ (n : ℕ) (more : drop i ns ≡ n ∷ drop (i + 1) ns) where
    now_right : (n ≤ length (drop from bytes)) × Readable (take n (drop from bytes))
        × CutsRight (drop (i + 1) ns) (drop n (drop from bytes))
    now_right = subst (λ (l : List ℕ). CutsRight l (drop from bytes)) more c.right

    pub cut_ends : from + n ≤ length bytes
    cut_ends = omega (arith, now_right.0, length-drop from bytes, c.within)

    pub cut_readable : Readable (take n (drop from bytes))
    cut_readable = now_right.1

    pub cutting_next : Cutting ns bytes (i + 1) (from + n)
    cutting_next =
        record { within = cut_ends; right = subst (CutsRight (drop (i + 1) ns)) (drop-drop n from bytes) now_right.2 }

    pub to_come : obus_to_come ns bytes i from ≡ obus_in i (take n (drop from bytes)) ++ obus_to_come ns bytes (i + 1) (from + n)
    unfolding cuts obus_from
    to_come =
        ap (λ (l : List ℕ). obus_from i (cuts l (drop from bytes))) more
        ∙ ap₂ (λ (k : ℕ) (s : Bytes). obus_in i (take n (drop from bytes)) ++ obus_from k (cuts (drop (i + 1) ns) s)) (sym (add-one i))
        (drop-drop n from bytes)

-- ---- counting
pub record Totalling (ns : List ℕ) (bytes : Bytes) (total from i : ℕ) : Type 0 where
  pub cutting : Cutting ns bytes i from
  pub few : total ≤ from
  pub sum : total + length (obus_to_come ns bytes i from) ≡ length (obus_from 0 (cuts ns bytes))

module _ {ns : List ℕ} {bytes : Bytes} {total from i : ℕ} (t : Totalling ns bytes total from i) where
  pub totalling_next : (n : ℕ) → drop i ns ≡ n ∷ drop (i + 1) ns → (k : ℕ) → k ≡ length (obus_in i (take n (drop from bytes)))
      → k ≤ length (take n (drop from bytes)) → Totalling ns bytes (total + k) (from + n) (i + 1)
  totalling_next n more k e l =
      let few = t.few in
      record {
        cutting = cutting_next t.cutting n more;
        few = omega (arith, length-take n (drop from bytes));
        sum =
            omega (
              arith,
              t.sum,
              ap length (to_come t.cutting n more),
              length-append (obus_in i (take n (drop from bytes))) (obus_to_come ns bytes (i + 1) (from + n)),
            );
      }

  pub totalling_done : drop i ns ≡ [] → total ≡ length (obus_from 0 (cuts ns bytes))
  totalling_done e = omega (arith, t.sum, ap length (none_to_come t.cutting e))

-- ---- putting
abbrev pub obu_rows : List ℕ → Bytes → Bytes
obu_rows ns bytes = obu_bytes (obus_from 0 (cuts ns bytes))

pub record Listing (ns : List ℕ) (bytes out₀ : Bytes) (at from to i : ℕ) (out : Bytes) : Type 0 where
  pub cutting : Cutting ns bytes i from
  pub filling : Filling out₀ at (obu_rows ns bytes) to (obu_bytes (obus_to_come ns bytes i from)) out

pub listing_start : (ns : List ℕ) (bytes out : Bytes) (at : ℕ) → CutsRight ns bytes
    → at + 32 * length (obus_from 0 (cuts ns bytes)) ≤ length out → Listing ns bytes out at 0 at 0 out
listing_start ns bytes out at r h =
    record {
      cutting = cutting_start ns bytes r;
      filling = filling_start out at (obu_rows ns bytes) (omega (arith, obus_long (obus_from 0 (cuts ns bytes))));
    }

module _ {ns : List ℕ} {bytes out₀ : Bytes} {at from to i : ℕ} {out : Bytes} (l : Listing ns bytes out₀ at from to i out) where
  module _ (n : ℕ) (more : drop i ns ≡ n ∷ drop (i + 1) ns) where
    abbrev now_obus : List ObuRow
    now_obus = obus_in i (take n (drop from bytes))

    opened : Filling out₀ at (obu_rows ns bytes) to (obu_bytes now_obus ++ obu_bytes (obus_to_come ns bytes (i + 1) (from + n))) out
    opened =
        filling_as l.filling _
        (ap obu_bytes (to_come l.cutting n more) ∙ row_append obu_numbers now_obus (obus_to_come ns bytes (i + 1) (from + n)))

    pub listing_room : to + 32 * length now_obus ≤ length out
    listing_room = omega (arith, filling_room (obu_bytes now_obus) _ opened, obus_long now_obus)

    pub listing_next : (to' : ℕ) (out' : Bytes) → to' ≡ to + 32 * length now_obus → out' ≡ placed out to (obu_bytes now_obus)
        → Listing ns bytes out₀ at (from + n) to' (i + 1) out'
    listing_next to' out' e o =
        record {
          cutting = cutting_next l.cutting n more;
          filling = filling_next (obu_bytes now_obus) _ opened to' out' (omega (arith, e, obus_long now_obus)) o;
        }

  pub listing_long : length out ≡ length out₀
  listing_long = filling_long l.filling

  pub listing_done : drop i ns ≡ [] → (to ≡ at + 32 * length (obus_from 0 (cuts ns bytes))) × (out ≡ placed out₀ at (obu_rows ns bytes))
  listing_done e =
      let z : obu_bytes (obus_to_come ns bytes i from) ≡ [] = ap obu_bytes (none_to_come l.cutting e) ∙ row_none obu_numbers in
      (omega (arith, filling_place l.filling, ap length z, obus_long (obus_from 0 (cuts ns bytes))), filling_done l.filling z)

-- ---- whether they fit
-- there is room for the most of them, or they are counted
pub few_fit : (ns : List ℕ) (bytes : Bytes) (count at room : ℕ) → length (obus_from 0 (cuts ns bytes)) ≤ 64 * count
    → at + 2048 * count ≤ room → false ≡ ltb room (at + 32 * length (obus_from 0 (cuts ns bytes)))
few_fit ns bytes count at room few h = sym (le-ltb room (at + 32 * length (obus_from 0 (cuts ns bytes))) (omega arith))
