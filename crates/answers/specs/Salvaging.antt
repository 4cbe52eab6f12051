-- The C struct of salvaging, for each verdict. Assumes nothing.
use Rattle.refusal.specs.Verdict.{Verdict, passed, refused}
use mir.Val.{bool_byte}
use Rattle.salvage.specs.declared.Figures.{Figures}
use Rattle.answers.specs.declared.salvaging.SalvageAnswer.{SalvageAnswer}

-- bytes: the bytes written; tsobus: those of the unit, and how many were kept; leading: the bytes dropped before the
-- first start code; accepted 1: reading accepts what was written, 0: it refuses it
abbrev pub salvage_answer : Verdict Figures → SalvageAnswer
salvage_answer (passed f) =
    record {
      number = 0;
      place = 0;
      bytes = f.bytes;
      tsobus = f.tsobus;
      kept = f.kept;
      leading = f.leading;
      accepted = bool_byte f.accepted;
    }
salvage_answer (refused number place) =
    record { number = number; place = place; bytes = 0; tsobus = 0; kept = 0; leading = 0; accepted = 0 }
