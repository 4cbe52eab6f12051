-- The number names an edition and the length is right, so that the check is `judge`'s; or 44 or 20 refuses before a packet is read.
use mathlib.Core.Path.{refl}
use Rattle.segment_rules.specs.Check.{outputs_of}
use Rattle.segment_run.proofs.Clearing.{cleared_as}
use Rattle.segment.specs.Answer.{checked}
use Rattle.segment.proofs.Ending.{refused_beside}
use Rattle.segment.proofs.Editions.{known_checks, refused_checks}
use Rattle.segment.proofs.checking.check.Goals as goal

pub returns-in-Ok : goal.returns-in-Ok
returns-in-Ok c =
    let a = c.args in
    let lent = outputs_of a.out.now a.lens.now a.times.now in
    known_checks a.edition _ a.segment.now c.in-Ok.ensures lent a.firsts.now (checked c.judge.result) _ _ c.judge.ensures

pub returns-in-Err : goal.returns-in-Err
returns-in-Err c =
    let a = c.args in
    let lent = outputs_of a.out.now a.lens.now a.times.now in
    let zero = c.clear.ensures in
    refused_checks a.edition c.in-Err.refused a.segment.now c.in-Err.ensures lent a.firsts.now (refused_beside _) refl _
    (cleared_as lent a.out.now a.lens.now a.times.now zero.out_after zero.lens_after zero.times_after refl refl refl) _
    zero.firsts_after
