-- The payload runs from behind the start code to the next one, which `scan` gives; it is empty, illegal, or handed out.
use borrow.Author.Tests.{not-true, not-false}
use native.Mathlib.Omega.{arith}
use mathlib.Core.Path.{refl, sym, ◌∙◌}
use Rattle.tsobu.proofs.Places.{code_fits}
use Rattle.tsobu.proofs.Steps.{step_empty, step_illegal, step_legal, part_is}
use Rattle.tsobu.proofs.walking.payload_step.Goals as goal

pub overflow_add-start : goal.overflow_add-start
overflow_add-start c = omega (arith, code_fits c.args.unit.now c.args.at c.requires)

pub refused-requires : goal.refused-requires
refused-requires c = omega (arith, code_fits c.args.unit.now c.args.at c.requires)

pub returns-then-next-start : goal.returns-then-next-start
returns-then-next-start c =
    rw c.refused.ensures (step_empty c.args.unit.now c.args.at (omega (arith, c.scan-scanned.ensures.ends)))

pub refused-requires-then-not-scanned : goal.refused-requires-then-not-scanned
refused-requires-then-not-scanned c = omega (arith, code_fits c.args.unit.now c.args.at c.requires)

pub returns-then-not-scanned : goal.returns-then-not-scanned
returns-then-not-scanned c =
    let found = c.scan-scanned.ensures in
    rw c.refused-then-not-scanned.ensures
    (step_illegal c.args.unit.now c.args.at (omega (arith, found.ends, c.if-next-start.false))
    (sym found.lawful ∙ not-true _ c.if-not-scanned.true))

pub returns : goal.returns
returns c =
    let s = c.args.unit.now in
    let at = c.args.at in
    let found = c.scan-scanned.ensures in
    part_is s at _ refl (omega (arith, found.ends)) found.ends
    ∙ step_legal s at (omega (arith, found.ends, c.if-next-start.false)) (sym found.lawful ∙ not-false _ c.if-not-scanned.false)
