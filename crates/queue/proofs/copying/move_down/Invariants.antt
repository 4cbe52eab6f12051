-- The first i bytes have moved, and the rest is to come; what is still to move is where it was.
use Prim.Native.Nat.{◌≤◌}
use lib.ListN.{drop}
use Rattle.lists.proofs.Writing.{Part}
use Rattle.queue.proofs.Moving.{moving}
use Rattle.queue.proofs.copying.move_down.Given as goal

abbrev pub invariant-loop-i : goal.invariant-loop-i
invariant-loop-i l = (l.i ≤ l.n) × Part l.initial.store (moving l.initial.store l.from l.n) l.i
    (drop l.i (moving l.initial.store l.from l.n)) l.store
