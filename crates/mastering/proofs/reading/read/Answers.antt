-- The refusals in the order of the definition.
use mathlib.Core.Path.{sym, ap, ◌∙◌}
use Rattle.refusal.specs.Verdict.{passed}
use Rattle.mastering.specs.Content.{numbers_of, body_wrong}
use Rattle.mastering.specs.Figures.{figures_of}
use Rattle.mastering.proofs.Readings.{no_type, other_type, other_body, figures}
use Rattle.mastering.proofs.reading.read.Goals as goal

pub returns-in_default : goal.returns-in_default
returns-in_default c = rw c.at.ensures (no_type _ (sym c.read_leb128.ensures ∙ c.in_default.is))

pub returns-then-leb-ne-MDCV : goal.returns-then-leb-ne-MDCV
returns-then-leb-ne-MDCV c =
    rw c.at.ensures (other_type _ _ (sym c.read_leb128.ensures ∙ c.in-Some.is) c.if-leb-ne-MDCV.true)

pub returns-then-body_wrong : goal.returns-then-body_wrong
returns-then-body_wrong c =
    let told = sym c.read_leb128.ensures ∙ c.in-Some.is in
    rw c.at.ensures
    (other_body _ _ told c.if-leb-ne-MDCV.false
    (ap body_wrong (sym c.rest-body.ensures) ∙ sym c.body_wrong.ensures ∙ c.if-body_wrong.true))

pub returns : goal.returns
returns c =
    let told = sym c.read_leb128.ensures ∙ c.in-Some.is in
    let rest = c.rest-body.ensures in
    ap passed (c.figures_of.ensures ∙ ap figures_of (c.numbers_of.ensures ∙ ap numbers_of rest))
    ∙ figures _ _ told c.if-leb-ne-MDCV.false (ap body_wrong (sym rest) ∙ sym c.body_wrong.ensures ∙ c.if-body_wrong.false)
