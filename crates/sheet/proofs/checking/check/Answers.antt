-- The sections of a sheet of the right form, where the pass over each of them finds nothing wrong.
use mathlib.Core.Path.{sym, ◌∙◌}
use Rattle.sheet.proofs.Measures.{unmeasured, within, streams_refused, units_refused, obus_refused, accepted}
use Rattle.sheet.proofs.checking.check.Goals as goal

pub returns-in_err-sections : goal.returns-in_err-sections
returns-in_err-sections c = rw c.from_residual.ensures (unmeasured _ c.in_err-sections.ensures)

pub streams_wrong-requires : goal.streams_wrong-requires
streams_wrong-requires c = (within _ _ c.in_ok-sections.ensures).0

pub returns-then-streams_wrong : goal.returns-then-streams_wrong
returns-then-streams_wrong c = streams_refused _ _ c.in_ok-sections.ensures
    (sym c.streams_wrong.ensures ∙ c.if-streams_wrong.true)

pub units_wrong-requires : goal.units_wrong-requires
units_wrong-requires c = (within _ _ c.in_ok-sections.ensures).1

pub returns-then-units_wrong : goal.returns-then-units_wrong
returns-then-units_wrong c = units_refused _ _ c.in_ok-sections.ensures
    (sym c.units_wrong.ensures ∙ c.if-units_wrong.true)

pub obus_wrong-requires : goal.obus_wrong-requires
obus_wrong-requires c = let w = within _ _ c.in_ok-sections.ensures in (w.1, w.4, w.2)

pub returns-then-obus_wrong : goal.returns-then-obus_wrong
returns-then-obus_wrong c = obus_refused _ _ c.in_ok-sections.ensures
    (sym c.obus_wrong.ensures ∙ c.if-obus_wrong.true)

pub returns : goal.returns
returns c =
    accepted _ _ c.in_ok-sections.ensures (sym c.streams_wrong.ensures ∙ c.if-streams_wrong.false)
    (sym c.units_wrong.ensures ∙ c.if-units_wrong.false) (sym c.obus_wrong.ensures ∙ c.if-obus_wrong.false)
