-- The test is the one that the definition picks by.
use mathlib.Core.Path.{refl}
use Rattle.lists.proofs.Picks.{by_lt, by_ge}
use Rattle.packet.specs.Streams.{last_in}
use Rattle.packet.proofs.streams.Streams.last_at.Goals as goal

pub returns-then-slot-ge-MOST_RECORDS : goal.returns-then-slot-ge-MOST_RECORDS
unfolding last_in
returns-then-slot-ge-MOST_RECORDS c = by_ge _ c.if-slot-ge-MOST_RECORDS.true refl

pub returns : goal.returns
unfolding last_in
returns c = by_lt _ c.if-slot-ge-MOST_RECORDS.false c.last_from.ensures
