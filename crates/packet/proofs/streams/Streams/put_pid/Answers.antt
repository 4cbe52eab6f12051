-- The test is the one that the definition picks by.
use Prim.Native.Nat.{ℕ}
use mathlib.Core.Path.{ap, refl}
use mathlib.Core.List.{List}
use Rattle.lists.proofs.Picks.{by_lt, by_ge}
use Rattle.packet.specs.Streams.{with_pid}
use Rattle.packet.proofs.streams.Streams.put_pid.Goals as goal

pub returns-then-slot-lt-MOST_RECORDS : goal.returns-then-slot-lt-MOST_RECORDS
unfolding with_pid
returns-then-slot-lt-MOST_RECORDS c =
    ap (λ (l : List ℕ). record { numbers = l }) (by_lt c.args.self.now.numbers c.if-slot-lt-MOST_RECORDS.true refl)

pub returns-else-slot-lt-MOST_RECORDS : goal.returns-else-slot-lt-MOST_RECORDS
unfolding with_pid
returns-else-slot-lt-MOST_RECORDS c =
    ap (λ (l : List ℕ). record { numbers = l }) (by_ge _ c.if-slot-lt-MOST_RECORDS.false refl)
