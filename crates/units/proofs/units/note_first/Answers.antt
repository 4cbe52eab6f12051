-- No unit more has closed, or it has no place in the list, or its first packet stands there.
use Rattle.units.proofs.Firsts.{none_closed, no_place, in_place}
use Rattle.units.proofs.units.note_first.Goals.{then-after-unit-via-then-after-unit}
use Rattle.units.proofs.units.note_first.Goals.{then-after-unit-via-else-after-unit+then-firsts-unit}
use Rattle.units.proofs.units.note_first.Goals as goal

pub returns-then-after-unit : goal.returns-then-after-unit
returns-then-after-unit c =
    let a = c.args in
    elim c.then-after-unit.branch [
      | then-after-unit-via-then-after-unit w ↦ none_closed a.before a.after a.firsts.now w.if-after-unit.true
      | then-after-unit-via-else-after-unit+then-firsts-unit w ↦ no_place a.before a.after a.firsts.now w.if-firsts-unit.true
    ]

pub returns : goal.returns
returns c =
    in_place c.args.before c.args.after c.args.firsts.now c.if-after-unit.false _ c.first_of.ensures
