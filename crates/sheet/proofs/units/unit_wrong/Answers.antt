-- The tests are those of the definition.
use Rattle.lists.proofs.Tests.{ways}
use Rattle.sheet.specs.Passing.{unit_wrong}
use Rattle.sheet.proofs.units.unit_wrong.Goals as goal

pub returns-then-row-low : goal.returns-then-row-low
unfolding unit_wrong
returns-then-row-low c = search ways

pub returns-then-row-ge-MOST_PACKETS : goal.returns-then-row-ge-MOST_PACKETS
unfolding unit_wrong
returns-then-row-ge-MOST_PACKETS c = search ways

pub returns-then-row-gt-MOST_CARRIED : goal.returns-then-row-gt-MOST_CARRIED
unfolding unit_wrong
returns-then-row-gt-MOST_CARRIED c = search ways

pub returns-then-row-gt-MOST_TIME : goal.returns-then-row-gt-MOST_TIME
unfolding unit_wrong
returns-then-row-gt-MOST_TIME c = search ways

pub returns : goal.returns
unfolding unit_wrong
returns c = search ways
