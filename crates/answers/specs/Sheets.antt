-- The C structs of a sheet: what writing it, reading it and finding a unit in it answer. Assumes nothing.
use Rattle.std.specs.Prelude.{ℕ, Option, Some, None}
use Rattle.refusal.specs.Verdict.{Verdict, passed, refused}
use Rattle.sheet.specs.declared.rows.UnitRow.{UnitRow}
use Rattle.sheet.specs.declared.rows.Counts.{Counts}
use Rattle.answers.specs.declared.sheets.SheetWritten.{SheetWritten}
use Rattle.answers.specs.declared.sheets.SheetAnswer.{SheetAnswer}
use Rattle.answers.specs.declared.sheets.SheetFound.{SheetFound}

-- how many bytes the sheet has
abbrev pub written_answer : Verdict ℕ → SheetWritten
written_answer (passed n) = record { number = 0; place = 0; count = n }
written_answer (refused number place) = record { number = number; place = place; count = 0 }

-- how many rows each section has
abbrev pub sheet_answer : Verdict Counts → SheetAnswer
sheet_answer (passed n) = record { number = 0; place = 0; streams = n.streams; units = n.units; obus = n.obus }
sheet_answer (refused number place) = record { number = number; place = place; streams = 0; units = 0; obus = 0 }

-- found 1 and the unit's row; or found 0
abbrev pub no_unit : ℕ → ℕ → SheetFound
no_unit number place =
    record { number = number; place = place; found = 0; first_packet = 0; length = 0; pts = 0; dts = 0 }

abbrev pub found_answer : Verdict (Option UnitRow) → SheetFound
found_answer (passed (Some u)) =
    record {
      number = 0;
      place = 0;
      found = 1;
      first_packet = u.first_packet;
      length = u.length;
      pts = u.pts;
      dts = u.dts;
    }
found_answer (passed None) = no_unit 0 0
found_answer (refused number place) = no_unit number place
