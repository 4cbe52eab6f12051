-- The two numbers of the slot are written; from the fourteenth slot on there is nothing to write.
use Prim.Native.Nat.{ℕ, ◌+◌}
use mathlib.Core.Path.{ap, ap₂, refl}
use mathlib.Core.List.{List}
use lib.ListN.{set}
use Rattle.lists.proofs.Picks.{by_lt, by_ge}
use Rattle.packet.specs.Streams.{with_last}
use Rattle.packet.proofs.streams.Streams.put_last.Goals as goal

pub returns-then-slot-lt-MOST_RECORDS : goal.returns-then-slot-lt-MOST_RECORDS
unfolding with_last
returns-then-slot-lt-MOST_RECORDS c =
    ap (λ (l : List ℕ). record { numbers = l })
    (by_lt c.args.self.now.numbers c.if-slot-lt-MOST_RECORDS.true
    (ap₂ (λ (mark index : ℕ). set (set c.args.self.now.numbers (14 + c.args.slot) mark) (28 + c.args.slot) index)
    c.mark_of.ensures c.index_of.ensures))

pub returns-else-slot-lt-MOST_RECORDS : goal.returns-else-slot-lt-MOST_RECORDS
unfolding with_last
returns-else-slot-lt-MOST_RECORDS c =
    ap (λ (l : List ℕ). record { numbers = l }) (by_ge _ c.if-slot-lt-MOST_RECORDS.false refl)
