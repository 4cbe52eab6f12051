-- The statements of specs/Theorems.antt. No condition of 45 holds of the content of an accepted segment, so that the sheet's own theorems
-- say that it is read back; the units stand back to back in the check's output; and each place of an OBU cuts out its payload. Assumes
-- nothing.
use Rattle.std.specs.Prelude.{Option, Some, None}
use Prim.Native.Nat.{ℕ, zero, suc, ◌+◌, ◌≤◌, ◌<◌}
use mathlib.Core.Bool.{Bool, true, false}
use mathlib.Core.Path.{◌≡◌, refl, sym, ap, ap₂, subst, ◌∙◌}
use mathlib.Core.List.{List, [], ◌∷◌, ◌++◌, map, flatten, append-nil, append_assoc, map-append}
use native.Mathlib.Omega.{arith}
use borrow.Author.Tests.{eq-eqb, ne_eqb}
use lib.Dec.{eqb}
use lib.ListN.{length, take, drop}
use lib.Seq.{take_at, drop-append-add}
use Rattle.lists.specs.Lists.{Bytes, those}
use Rattle.refusal.specs.Verdict.{Verdict, passed}
use Rattle.refusal.proofs.Verdicts.{passed_then}
use Rattle.tsobu.specs.StartCodes.{payloads}
use Rattle.unit.specs.Unit.{sum}
use Rattle.descriptor.specs.Edition.{Edition, edition_of}
use Rattle.segment_rules.specs.State.{AccessUnit}
use Rattle.segment_rules.specs.Rules.{Rooms, carried_units}
use Rattle.segment_rules.specs.Check.{Accepted, check_in, check_segment, lengths, outputs_after}
use Rattle.segment_rules.specs.Content.{ObuPlace, place_of, places_from, places_in, places_of}
use Rattle.segment_rules.proofs.Contents.{cut_out, PlacesRight, places_right}
use Rattle.sheet.specs.declared.rows.UnitRow.{UnitRow}
use Rattle.sheet.specs.declared.rows.ObuRow.{ObuRow}
use Rattle.sheet.specs.Reading.{row_at}
use Rattle.sheet.proofs.RoundTrip.{reads_back, finds_units}
use Rattle.segment_sheet.specs.Content.{unit_of, obu_of, content_of}
use Rattle.segment_sheet.specs.Theorems.{WrittenIsRead, numbered, row_of, FoundIsExtracted, FoundBytes, PayloadsCut}
use Rattle.segment_sheet.proofs.Sound.{content_right}

-- the edition that a number names, and the check in it
pub in_edition : (n : ℕ) (rooms : Rooms) (s : Bytes) (a : Accepted) → check_in n rooms s ≡ passed a
    → (edition : Edition) × (edition_of n ≡ passed edition) × (check_segment edition rooms s ≡ passed a)
unfolding check_in
in_edition n rooms s a e = passed_then (edition_of n) (λ edition. check_segment edition rooms s) a e

pub written_is_read : WrittenIsRead
written_is_read n rooms s a o e =
    let k = in_edition n rooms s a e in
    reads_back (content_of a) (content_right k.0 rooms s a k.2 o)

-- ---- a unit by its number
row_numbered : (units : List AccessUnit) (n : ℕ) → row_at (map unit_of units) n ≡ row_of (numbered units n)
unfolding row_at numbered
row_numbered [] n = refl
row_numbered (u ∷ units) zero = refl
row_numbered (u ∷ units) (suc n) = row_numbered units n

some_none : {A P : Type 0} {a : A} → ◌≡◌ {A = Option A} (Some a) None → P
some_none e = let z : ◌≡◌ {A = ℕ} 0 1 = cc in absurd (omega arith)

from_count : (units : List AccessUnit) (n : ℕ) → numbered units n ≡ None → length units ≤ n
unfolding numbered
from_count [] n e = omega arith
from_count (u ∷ units) zero e = some_none e
from_count (u ∷ units) (suc n) e = omega (arith, from_count units n e)

none_from : (units : List AccessUnit) (n : ℕ) → length units ≤ n → numbered units n ≡ None
unfolding numbered
none_from [] n h = refl
none_from (u ∷ units) zero h = absurd (omega arith)
none_from (u ∷ units) (suc n) h = none_from units n (omega arith)

pub found_is_extracted : FoundIsExtracted
found_is_extracted n rooms s a o e number =
    let k = in_edition n rooms s a e in (
      (finds_units (content_of a) number (content_right k.0 rooms s a k.2 o)).0
          ∙ ap (λ (x : Option UnitRow). passed x) (row_numbered a.units number),
      (from_count a.units number, none_from a.units number),
    )

-- ---- its bytes
some_same : (u v : AccessUnit) → ◌≡◌ {A = Option AccessUnit} (Some u) (Some v) → u ≡ v
some_same u v e = cc

bytes_at : (units : List AccessUnit) (n : ℕ) (u : AccessUnit) (r : Bytes) → numbered units n ≡ Some u
    → take (length u.carried) (drop (sum (lengths (take n units))) (carried_units units ++ r)) ≡ u.carried
unfolding numbered sum flatten
bytes_at [] n u r e = some_none (sym e)
bytes_at (v ∷ units) zero u r e =
    let h = some_same v u e in
    ap (take (length u.carried)) (append_assoc v.carried (carried_units units) r)
    ∙ ap (λ (x : AccessUnit). take (length u.carried) (x.carried ++ (carried_units units ++ r))) h
    ∙ take_at u.carried (carried_units units ++ r) (length u.carried) refl
bytes_at (v ∷ units) (suc n) u r e =
    ap (λ (x : Bytes). take (length u.carried) (drop (length v.carried + sum (lengths (take n units))) x))
    (append_assoc v.carried (carried_units units) r)
    ∙ ap (take (length u.carried)) (drop-append-add v.carried (carried_units units ++ r) (sum (lengths (take n units))))
    ∙ bytes_at units n u r e

pub found_bytes : FoundBytes
unfolding outputs_after
found_bytes n rooms s a e number u h o =
    ap (λ (v : Verdict Accepted). take (length u.carried) (drop (sum (lengths (take number a.units))) (outputs_after v o).bytes)) e
    ∙ bytes_at a.units number u (drop (length (carried_units a.units)) o.bytes) h

-- ---- its payloads
-- the OBUs of a unit, among those of the units from this one on
abbrev of_unit : ℕ → List ObuRow → List ObuRow
of_unit n l = those (λ o. eqb o.unit n) l

those_append : (f : ObuRow → Bool) (l m : List ObuRow) → those f (l ++ m) ≡ those f l ++ those f m
unfolding those
those_append f [] m = refl
those_append f (o ∷ l) m = go (f o) (those_append f l m)
  where
    go : (b : Bool) → those f (l ++ m) ≡ those f l ++ those f m
        → ◌≡◌ {A = List ObuRow} (elim b [ true ↦ o ∷ those f (l ++ m) | false ↦ those f (l ++ m) ])
        (elim b [ true ↦ o ∷ those f l | false ↦ those f l ] ++ those f m)
    go true e = ap (λ (x : List ObuRow). o ∷ x) e
    go false e = e

own : (n at : ℕ) (ws : List Bytes) → of_unit n (map obu_of (places_from n at ws)) ≡ map obu_of (places_from n at ws)
unfolding those places_from
own n at [] = refl
own n at (w ∷ ws) =
    subst (λ (b : Bool). ◌≡◌ {A = List ObuRow}
    (elim b [
      | true ↦ obu_of (place_of n at w) ∷ of_unit n (map obu_of (places_from n (at + 3 + length w) ws))
      | false ↦ of_unit n (map obu_of (places_from n (at + 3 + length w) ws))
    ])
    (obu_of (place_of n at w) ∷ map obu_of (places_from n (at + 3 + length w) ws))) (sym (eq-eqb n n refl))
    (ap (λ (x : List ObuRow). obu_of (place_of n at w) ∷ x) (own n (at + 3 + length w) ws))

foreign : (n k at : ℕ) (ws : List Bytes) → (k ≡ n → ⊥) → of_unit n (map obu_of (places_from k at ws)) ≡ []
unfolding those places_from
foreign n k at [] h = refl
foreign n k at (w ∷ ws) h =
    subst (λ (b : Bool). ◌≡◌ {A = List ObuRow}
    (elim b [
      | true ↦ obu_of (place_of k at w) ∷ of_unit n (map obu_of (places_from k (at + 3 + length w) ws))
      | false ↦ of_unit n (map obu_of (places_from k (at + 3 + length w) ws))
    ])
    []) (sym (ne_eqb k n h)) (foreign n k (at + 3 + length w) ws h)

-- none of the units from this one on has a number below it
none_below : (n k : ℕ) (units : List AccessUnit) → n < k → of_unit n (map obu_of (places_of k units)) ≡ []
unfolding those places_of
none_below n k [] h = refl
none_below n k (u ∷ units) h =
    ap (of_unit n) (map-append obu_of (places_in k u.carried) (places_of (suc k) units))
    ∙ those_append (λ o. eqb o.unit n) (map obu_of (places_in k u.carried)) (map obu_of (places_of (suc k) units))
    ∙ ap₂ (λ (x y : List ObuRow). x ++ y) (foreign n k 0 (payloads u.carried) (λ z. omega (arith, h, z)))
    (none_below n (suc k) units (omega arith))

unit_obus : (k n : ℕ) (units : List AccessUnit) (u : AccessUnit) → numbered units n ≡ Some u
    → of_unit (k + n) (map obu_of (places_of k units)) ≡ map obu_of (places_in (k + n) u.carried)
unfolding numbered places_of
unit_obus k n [] u e = some_none (sym e)
unit_obus k zero (v ∷ units) u e =
    let z : k + 0 ≡ k = omega arith in
    ap (λ (m : ℕ). of_unit m (map obu_of (places_in k v.carried ++ places_of (suc k) units))) z
    ∙ ap (of_unit k) (map-append obu_of (places_in k v.carried) (places_of (suc k) units))
    ∙ those_append (λ o. eqb o.unit k) (map obu_of (places_in k v.carried)) (map obu_of (places_of (suc k) units))
    ∙ ap₂ (λ (x y : List ObuRow). x ++ y) (own k 0 (payloads v.carried)) (none_below k (suc k) units (omega arith))
    ∙ append-nil (map obu_of (places_in k v.carried))
    ∙ ap₂ (λ (m : ℕ) (x : AccessUnit). map obu_of (places_in m x.carried)) (sym z) (some_same v u e)
unit_obus k (suc n) (v ∷ units) u e =
    let z : k + suc n ≡ suc k + n = omega arith in
    ap (λ (m : ℕ). of_unit m (map obu_of (places_in k v.carried ++ places_of (suc k) units))) z
    ∙ ap (of_unit (suc k + n)) (map-append obu_of (places_in k v.carried) (places_of (suc k) units))
    ∙ those_append (λ o. eqb o.unit (suc k + n)) (map obu_of (places_in k v.carried)) (map obu_of (places_of (suc k) units))
    ∙ ap₂ (λ (x y : List ObuRow). x ++ y) (foreign (suc k + n) k 0 (payloads v.carried) (λ y. omega (arith, y))) (unit_obus (suc k) n
    units u e)
    ∙ ap (λ (m : ℕ). map obu_of (places_in m u.carried)) (sym z)

-- what is known of the unit with a number
cut_numbered : (k n : ℕ) (units : List AccessUnit) (u : AccessUnit) → numbered units n ≡ Some u → PlacesRight k units
    → map (cut_out u.carried) (places_in (k + n) u.carried) ≡ payloads u.carried
unfolding numbered
cut_numbered k n [] u e h = some_none (sym e)
cut_numbered k zero (v ∷ units) u e h =
    let z : k ≡ k + 0 = omega arith in
    subst (λ (x : AccessUnit). map (cut_out x.carried) (places_in (k + 0) x.carried) ≡ payloads x.carried) (some_same v u e)
    (subst (λ (m : ℕ). map (cut_out v.carried) (places_in m v.carried) ≡ payloads v.carried) z h.1)
cut_numbered k (suc n) (v ∷ units) u e h =
    let z : suc k + n ≡ k + suc n = omega arith in
    subst (λ (m : ℕ). map (cut_out u.carried) (places_in m u.carried) ≡ payloads u.carried) z (cut_numbered (suc k) n units u e h.4)

as_rows : (carried : Bytes) (os : List ObuPlace)
    → map (λ o. take o.length (drop o.offset carried)) (map obu_of os) ≡ map (cut_out carried) os
as_rows carried [] = refl
as_rows carried (o ∷ os) = ap (λ (l : List Bytes). cut_out carried o ∷ l) (as_rows carried os)

pub payloads_cut : PayloadsCut
payloads_cut n rooms s a e number u h =
    let k = in_edition n rooms s a e in
    let z : 0 + number ≡ number = omega arith in
    ap (λ (m : ℕ). map (λ o. take o.length (drop o.offset u.carried)) (of_unit m (map obu_of (places_of 0 a.units)))) (sym z)
    ∙ ap (map (λ o. take o.length (drop o.offset u.carried))) (unit_obus 0 number a.units u h)
    ∙ as_rows u.carried (places_in (0 + number) u.carried)
    ∙ cut_numbered 0 number a.units u h (places_right k.0 rooms s a k.2)
