-- The tests are those of the definition.
use Rattle.lists.proofs.Tests.{ways}
use Rattle.sheet.specs.Passing.{stream_wrong}
use Rattle.sheet.proofs.units.stream_wrong.Goals as goal

pub returns-then-row-gt-MOST_PID : goal.returns-then-row-gt-MOST_PID
unfolding stream_wrong
returns-then-row-gt-MOST_PID c = search ways

pub returns : goal.returns
unfolding stream_wrong
returns c = search ways
