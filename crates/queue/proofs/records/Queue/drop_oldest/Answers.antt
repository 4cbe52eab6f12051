-- A valid queue that is not empty has the oldest unit's length in its first slot, and no less in all.
use native.Mathlib.Omega.{arith}
use mathlib.Core.Path.{refl}
use Rattle.queue.specs.Queue.{no_record}
use Rattle.queue.proofs.Operations.{total_within, drops_empty, first_length, first_within, drops_dropped}
use Rattle.queue.proofs.records.Queue.drop_oldest.Goals.{then-store-used-via-then-store-used}
use Rattle.queue.proofs.records.Queue.drop_oldest.Goals.{then-store-used-via-else-store-used+then-used-first}
use Rattle.queue.proofs.records.Queue.drop_oldest.Goals as goal

pub returns-then-self-eq0 : goal.returns-then-self-eq0
returns-then-self-eq0 c = λ units q. drops_empty units q c.if-self-eq0.true

pub returns-then-store-used : goal.returns-then-store-used
returns-then-store-used c = λ units q.
    let f = first_within units no_record q c.if-self-eq0.false in
    let t = total_within q in
    elim c.then-store-used.branch [
      | then-store-used-via-then-store-used w ↦ absurd (omega (arith, w.if-store-used.true))
      | then-store-used-via-else-store-used+then-used-first w ↦ absurd (omega (arith, w.if-used-first.true))
    ]

pub returns : goal.returns
returns c = λ units q.
    let f = first_length units no_record q c.if-self-eq0.false in
    drops_dropped f.0 f.1 q f.2 _ _ refl f.3 _ _
    c.move_down.ensures c.remove_first.ensures
