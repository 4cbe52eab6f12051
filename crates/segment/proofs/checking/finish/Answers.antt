-- The open PES closes; where that passed, its first packet is noted, and 33 or the summary follows. Both are laws of the end (Ending.antt).
use Rattle.std.specs.Prelude.{Ok, Err}
use mathlib.Core.Path.{refl}
use Rattle.std.proofs.lemmas.Result.{err_from_is_err_and}
use Rattle.segment_rules.specs.Check.{outputs_of}
use Rattle.segment.specs.Answer.{checked}
use Rattle.segment.proofs.Ending.{refused_beside, end_refused, end_closed}
use Rattle.segment.proofs.checking.finish.Goals as goal

pub returns-in_err-close : goal.returns-in_err-close
returns-in_err-close c edition before old g at =
    let p = err_from_is_err_and c.from_residual.result c.from_residual.ensures.1 in
    rw (p.1, p.2)
    (end_refused at (outputs_of c.args.out.now c.close.new.lens c.close.new.times)
    (record { extraction = c.close.new.self; outcome = Err c.in_err-close.field-0.0 })
    (c.in_err-close.ensures.0 before g.state.extraction at.reached.extraction) _ refl (refused_beside _) refl _)

pub returns : goal.returns
returns c edition before old g at =
    end_closed at (outputs_of c.args.out.now c.close.new.lens c.close.new.times)
    (record { extraction = c.close.new.self; outcome = Ok tt })
    (c.in_ok-close.ensures.0 before g.state.extraction at.reached.extraction)
    refl (c.in_ok-close.ensures.1.0 refl) (checked c.accept.result) c.accept.ensures _
    c.note_first.ensures
