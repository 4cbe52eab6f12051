-- Reading and salvaging a unit: the answer, and what the outputs then hold. Assumes nothing.
use Rattle.std.specs.Prelude.{ℕ, ◌≡◌, length}
use mathlib.Core.List.{List, map, flatten}
use Rattle.lists.specs.Lists.{Bytes}
use Rattle.refusal.specs.Verdict.{Verdict, leaves}
use Rattle.obu.specs.Header.{size_width}
use Rattle.unit.specs.declared.reading.Counts.{Counts}
use Rattle.unit.specs.Unit.{obus_in}
use Rattle.unit.specs.Answer.{reading, reading_widths}
use Rattle.salvage.specs.declared.Figures.{Figures}
use Rattle.salvage.specs.Salvage.{salvaging, salvaged, marks as marks_of}
use Rattle.answers.specs.declared.answer.Answer.{Answer}
use Rattle.answers.specs.declared.salvaging.SalvageAnswer.{SalvageAnswer}
use Rattle.answers.specs.Answers.{unit_answer}
use Rattle.answers.specs.Salvaging.{salvage_answer}

-- the OBUs back to back over the front of out, and their lengths over the front of lengths, where this is the verdict
pub record LeavesObus (v : Verdict Counts) (unit out : Bytes) (lengths : List ℕ) (out' : Bytes) (lengths' : List ℕ)
    : Type 0 where
  pub obus : out' ≡ leaves v (flatten (obus_in unit)) out
  pub of_each : lengths' ≡ leaves v (map length (obus_in unit)) lengths

-- reading with bytes and lengths
abbrev pub read_into : Bytes → Bytes → List ℕ → Verdict Counts
read_into unit out lengths = reading unit (length out) (length lengths)

pub record ReadsUnit (unit out : Bytes) (lengths : List ℕ) (r : Answer) (out' : Bytes) (lengths' : List ℕ)
    : Type 0 where
  pub answers : r ≡ unit_answer (read_into unit out lengths)
  pub outputs : LeavesObus (read_into unit out lengths) unit out lengths out' lengths'

-- and with the widths of their sizes
abbrev pub read_widths_into : Bytes → Bytes → List ℕ → List ℕ → Verdict Counts
read_widths_into unit out lengths widths = reading_widths unit (length out) (length lengths) (length widths)

pub record ReadsWidths (unit out : Bytes) (lengths widths : List ℕ) (r : Answer) (out' : Bytes)
    (lengths' widths' : List ℕ) : Type 0 where
  pub answers : r ≡ unit_answer (read_widths_into unit out lengths widths)
  pub outputs : LeavesObus (read_widths_into unit out lengths widths) unit out lengths out' lengths'
  pub sizes : widths' ≡ leaves (read_widths_into unit out lengths widths) (map size_width (obus_in unit)) widths

-- salvaging, with a mark for each tsOBU
abbrev pub salvage_into : Bytes → Bytes → Bytes → Verdict Figures
salvage_into unit out marks = salvaging unit (length out) (length marks)

pub record Salvages (unit out marks : Bytes) (r : SalvageAnswer) (out' marks' : Bytes) : Type 0 where
  pub answers : r ≡ salvage_answer (salvage_into unit out marks)
  pub kept : out' ≡ leaves (salvage_into unit out marks) (salvaged unit) out
  pub of_each : marks' ≡ leaves (salvage_into unit out marks) (marks_of unit) marks
