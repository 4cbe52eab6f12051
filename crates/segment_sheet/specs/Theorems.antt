-- What holds of the sheet of an accepted segment, as statements; they are proved in proofs/Theorems.antt. The words of
-- document 02, request 2026-09, stand over each. Assumes nothing.
use Rattle.std.specs.Prelude.{ℕ, zero, suc, ◌≤◌, false, ◌≡◌, ◌↔◌, List, [], ◌∷◌, map, eqb, length, take, drop}
use Rattle.std.specs.Prelude.{Option, Some, None}
use Rattle.lists.specs.Lists.{Bytes, those}
use Rattle.lists.specs.Bytes.{Octets}
use Rattle.refusal.specs.Verdict.{passed}
use Rattle.tsobu.specs.StartCodes.{payloads}
use Rattle.unit.specs.Unit.{sum}
use Rattle.segment_rules.specs.State.{AccessUnit}
use Rattle.segment_rules.specs.Rules.{Rooms}
use Rattle.segment_rules.specs.Check.{Accepted, Outputs, check_in, lengths, outputs_after}
use Rattle.sheet.specs.declared.rows.UnitRow.{UnitRow}
use Rattle.sheet.specs.Reading.{wrong, finding}
use Rattle.sheet.specs.Reading.{content_of as content_read}
use Rattle.segment_sheet.specs.Content.{unit_of, content_of, sheet_beside}

-- "The reader gives back what was written": the sheet of an accepted segment is read without 45, and the content read
-- is the segment's
abbrev pub WrittenIsRead : Type 0
WrittenIsRead =
    (n : ℕ) (rooms : Rooms) (s : Bytes) (a : Accepted) → Octets s → check_in n rooms s ≡ passed a
    → (wrong (sheet_beside a) ≡ false) × (content_read (sheet_beside a) ≡ content_of a)

-- the unit with this number, and its row
unfoldable pub numbered : List AccessUnit → ℕ → Option AccessUnit
numbered [] n = None
numbered (u ∷ units) zero = Some u
numbered (u ∷ units) (suc n) = numbered units n

abbrev pub row_of : Option AccessUnit → Option UnitRow
row_of None = None
row_of (Some u) = Some (unit_of u)

-- "a unit found by number, from 0, is the one extraction gives, or none exactly from the unit count on"
abbrev pub FoundIsExtracted : Type 0
FoundIsExtracted =
    (n : ℕ) (rooms : Rooms) (s : Bytes) (a : Accepted) → Octets s → check_in n rooms s ≡ passed a → (number : ℕ)
    → (finding (sheet_beside a) number ≡ passed (row_of (numbered a.units number)))
    × ((numbered a.units number ≡ None) ↔ (length a.units ≤ number))

-- its bytes stand in the check's output from the sum of the lengths before it on
abbrev pub FoundBytes : Type 0
FoundBytes =
    (n : ℕ) (rooms : Rooms) (s : Bytes) (a : Accepted) → check_in n rooms s ≡ passed a → (number : ℕ) (u : AccessUnit)
    → numbered a.units number ≡ Some u → (o : Outputs)
    → take (unit_of u).length
    (drop (sum (lengths (take number a.units))) (outputs_after (check_in n rooms s) o).bytes)
    ≡ u.carried

-- "carried payload offset in its unit, payload length": of the OBUs with a unit's number, they cut exactly the unit's
-- payloads out of it, in order
abbrev pub PayloadsCut : Type 0
PayloadsCut =
    (n : ℕ) (rooms : Rooms) (s : Bytes) (a : Accepted) → check_in n rooms s ≡ passed a → (number : ℕ) (u : AccessUnit)
    → numbered a.units number ≡ Some u
    → map (λ o. take o.length (drop o.offset u.carried))
    (those (λ o. eqb o.unit number) (content_of a).obus)
    ≡ payloads u.carried
