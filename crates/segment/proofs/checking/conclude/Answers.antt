-- An answer that accepts has left the units in the outputs; where it refuses, they are cleared, and are as long as they were lent.
use Rattle.std.specs.Prelude.{Ok, Err}
use mathlib.Core.Path.{refl, ◌∙◌}
use Rattle.descriptor.specs.Naming.{edition_says}
use Rattle.segment_rules.specs.Check.{ending}
use Rattle.units.proofs.Holding.{same_bytes, same_lens, same_times}
use Rattle.units.proofs.Firsts.{firsts_length}
use Rattle.segment_run.proofs.Clearing.{zeros_as, cleared_as}
use Rattle.segment.specs.Answer.{checked}
use Rattle.segment.proofs.Ending.{accepted_checks, refused_checks}
use Rattle.segment.proofs.checking.conclude.Goals as goal

pub returns-in-Ok : goal.returns-in-Ok
returns-in-Ok c edition before old g at =
    accepted_checks (edition_says edition) before old (ending g) (checked (Ok c.in-Ok.accepted)) _ _
    (c.in-Ok.ensures edition before old g at) _ refl

pub returns-in-Err : goal.returns-in-Err
returns-in-Err c edition before old g at =
    let a = c.args in
    let last = c.finish.new in
    let kept = c.finish.auto in
    let zero = c.clear.ensures in
    let units = at.reached.extraction in
    refused_checks (edition_says edition) before old (ending g) (checked (Err c.in-Err.refused)) _ _
    (c.in-Err.ensures edition before old g at) _ refl _
    (cleared_as before a.out.now last.lens last.times zero.out_after zero.lens_after zero.times_after (same_bytes units)
    (kept.lens ∙ same_lens units) (kept.times ∙ same_times units)) _
    (zeros_as last.firsts old zero.firsts_after
    (kept.firsts ∙ firsts_length old a.firsts.now g.state.extraction.units at.noted))
