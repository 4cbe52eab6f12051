-- A PCR is there in both packets, in one or in none. Where it is in both, the six bytes before it and those behind it are compared.
use mathlib.Core.Path.{sym, ap₂, ◌∙◌}
use Rattle.lists.specs.Lists.{same}
use Rattle.lists.proofs.Tests.{and_by_true, and_by_false}
use Rattle.packet.proofs.Copies.{first_alone, second_alone, neither_has, both_have}
use Rattle.packet.proofs.counter.same_bytes.Goals as goal

pub returns-in-false-false : goal.returns-in-false-false
returns-in-false-false c =
    c.same-in-false-false.ensures
    ∙ neither_has _ _ (sym (c.in-false-false.ensures)) (sym (c.in-false-false.ensures'))

pub returns-then-same : goal.returns-then-same
returns-then-same c =
    and_by_true (ap₂ same (sym c.part.ensures) (sym c.part-in-true-true.ensures) ∙ sym c.same.ensures ∙ c.if-same.true)
    (c.same-then-same.ensures ∙ ap₂ same c.rest.ensures c.rest-then-same.ensures)
    ∙ both_have _ _ (sym (c.in-true-true.ensures)) (sym (c.in-true-true.ensures'))

pub returns-else-same : goal.returns-else-same
returns-else-same c =
    and_by_false _ (ap₂ same (sym c.part.ensures) (sym c.part-in-true-true.ensures) ∙ sym c.same.ensures ∙ c.if-same.false)
    c.if-same.false
    ∙ both_have _ _ (sym (c.in-true-true.ensures)) (sym (c.in-true-true.ensures'))

pub returns-in-true-false : goal.returns-in-true-false
returns-in-true-false c = first_alone _ _ (sym c.in-true-false.ensures) (sym c.in-true-false.ensures')

pub returns-in-true-false-2 : goal.returns-in-true-false-2
returns-in-true-false-2 c = second_alone _ _ (sym c.in-true-false.ensures) (sym c.in-true-false.ensures')
