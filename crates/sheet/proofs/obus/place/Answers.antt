-- The tests are those of the definition.
use Rattle.sheet.proofs.Placings.{begins, elsewhere, full, too_early, goes_on}
use Rattle.sheet.proofs.obus.place.Goals as goal

pub returns-then-row-progress : goal.returns-then-row-progress
returns-then-row-progress c =
    begins c.args.progress c.args.row c.if-row-progress.true

pub returns-then-begun-progress : goal.returns-then-begun-progress
returns-then-begun-progress c =
    elsewhere c.args.progress c.args.row c.if-row-progress.false c.if-begun-progress.true

pub returns-then-progress-ge-MOST_IN_UNIT : goal.returns-then-progress-ge-MOST_IN_UNIT
returns-then-progress-ge-MOST_IN_UNIT c =
    full c.args.progress c.args.row c.if-row-progress.false c.if-begun-progress.false c.if-progress-ge-MOST_IN_UNIT.true

pub returns-then-row-progress-2 : goal.returns-then-row-progress-2
returns-then-row-progress-2 c =
    too_early c.args.progress c.args.row c.if-row-progress.false c.if-begun-progress.false c.if-progress-ge-MOST_IN_UNIT.false
    c.if-row-progress-2.true

pub returns : goal.returns
returns c =
    goes_on c.args.progress c.args.row c.if-row-progress.false c.if-begun-progress.false c.if-progress-ge-MOST_IN_UNIT.false
    c.if-row-progress-2.false
