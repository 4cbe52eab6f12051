-- The test that the code makes is the one that `in_range` makes.
use Rattle.lists.proofs.Picks.{by_lt, by_ge}
use mathlib.Core.Path.{refl}
use Rattle.obu.specs.Leb128.{in_range}
use Rattle.obu.proofs.leb128.in_range.Goals as goal

pub returns-then-leb-gt-MOST_VALUE : goal.returns-then-leb-gt-MOST_VALUE
unfolding in_range
returns-then-leb-gt-MOST_VALUE c = by_lt _ c.if-leb-gt-MOST_VALUE.true refl

pub returns : goal.returns
unfolding in_range
returns c = by_ge _ c.if-leb-gt-MOST_VALUE.false refl
