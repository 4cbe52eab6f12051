-- `unit::read` answers by the definition and leaves the outputs as it says; no accepted unit has more than 64 widths, for which there is
-- room.
use mathlib.Core.Path.{ap, ◌∙◌}
use Rattle.refusal.proofs.Verdicts.{leaves_as}
use Rattle.unit.proofs.Checking.{with_64}
use Rattle.answers.specs.Answers.{unit_answer}
use Rattle.av1ts.proofs.access_unit.av1ts_read_unit.Goals as goal

pub returns : goal.returns
returns c =
    let e = c.read.ensures in
    let v = e.answers ∙ with_64 _ _ _ in
    record {
      answers = c.into.ensures ∙ ap unit_answer v;
      outputs = record { obus = e.obus ∙ leaves_as _ _ v; of_each = e.of_each ∙ leaves_as _ _ v };
    }
