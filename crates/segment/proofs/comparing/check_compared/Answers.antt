-- The answer and the outputs are the check's; what is compared are the units that the outputs then hold.
use mathlib.Core.Path.{◌∙◌}
use Rattle.std.proofs.lemmas.Result.{err_from_is_err_and}
use Rattle.segment_rules.specs.Check.{outputs_of, rooms_of}
use Rattle.segment.proofs.Disagreeing.{none_refused, found_accepted}
use Rattle.segment.proofs.comparing.check_compared.Goals as goal

pub returns-in_err-accepted : goal.returns-in_err-accepted
returns-in_err-accepted c =
    let a = c.args in
    let before = outputs_of a.out.now a.lens.now a.times.now in
    let p = err_from_is_err_and c.from_residual.result c.from_residual.ensures.1 in
    let e = c.in_err-accepted.ensures in
    rw (p.1, p.2)
    (record {
      answers = e.answers;
      compared = none_refused (rooms_of before) a.segment.now a.edition _ e.answers;
      leaves = e.leaves;
    })

pub returns : goal.returns
returns c =
    let a = c.args in
    let before = outputs_of a.out.now a.lens.now a.times.now in
    let now = outputs_of c.check.new.out c.check.new.lens c.check.new.times in
    let e = c.in_ok-accepted.ensures in
    let accepted = c.in_ok-accepted.accepted in
    record {
      answers = e.answers;
      compared =
          c.compare-disagreement.ensures
          ∙ found_accepted (rooms_of before) a.segment.now accepted.summary accepted.map before now a.edition e.answers e.beside e.leaves;
      leaves = e.leaves;
    }
