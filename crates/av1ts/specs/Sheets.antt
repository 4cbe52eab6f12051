-- Writing and reading a sheet: the answer, and what the outputs then hold. Assumes nothing.
use Rattle.std.specs.Prelude.{ℕ, ◌≡◌, length}
use Rattle.lists.specs.Lists.{Bytes}
use Rattle.segment_rules.specs.Check.{Outputs, rooms_of, outputs_after, check_in}
use Rattle.sheet.specs.Answer.{Numbers, read_into, LeavesNumbers}
use Rattle.segment_sheet.specs.Content.{sheet_writing, sheet_after}
use Rattle.answers.specs.declared.sheets.SheetWritten.{SheetWritten}
use Rattle.answers.specs.declared.sheets.SheetAnswer.{SheetAnswer}
use Rattle.answers.specs.Sheets.{written_answer, sheet_answer}

-- the check in the edition of this number with its three outputs, and the sheet of an accepted segment
pub record WritesSheet (edition : ℕ) (segment : Bytes) (before : Outputs) (sheet : Bytes) (r : SheetWritten)
    (after : Outputs) (sheet' : Bytes) : Type 0 where
  pub answers : r ≡ written_answer (sheet_writing edition (rooms_of before) segment (length sheet))
  pub outputs : after ≡ outputs_after (check_in edition (rooms_of before) segment) before
  pub written : sheet' ≡ sheet_after (check_in edition (rooms_of before) segment) sheet

-- reading, with its three outputs
pub record ReadsSheet (sheet : Bytes) (before : Numbers) (r : SheetAnswer) (after : Numbers) : Type 0 where
  pub answers : r ≡ sheet_answer (read_into sheet before)
  pub outputs : LeavesNumbers (read_into sheet before) sheet before after
