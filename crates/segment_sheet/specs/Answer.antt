-- What the answer of the code says, and what writing leaves. Assumes nothing.
use Rattle.std.specs.Prelude.{ℕ, ◌≡◌, length}
use Rattle.lists.specs.Lists.{Bytes}
use Rattle.refusal.specs.Verdict.{Verdict}
use Rattle.segment_rules.specs.Check.{Outputs, rooms_of, outputs_after, check_in}
use Rattle.segment_sheet.specs.Content.{sheet_writing, sheet_after}

-- writing the sheet of a segment in the edition of this number: the verdict, the check's three outputs whatever the
-- sheet's room is, and the sheet
pub record Writes (edition : ℕ) (segment : Bytes) (before : Outputs) (sheet : Bytes) (v : Verdict ℕ) (after : Outputs)
    (sheet' : Bytes) : Type 0 where
  pub answers : v ≡ sheet_writing edition (rooms_of before) segment (length sheet)
  pub outputs : after ≡ outputs_after (check_in edition (rooms_of before) segment) before
  pub written : sheet' ≡ sheet_after (check_in edition (rooms_of before) segment) sheet
