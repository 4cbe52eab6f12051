-- Up to `next` the bytes put are counted, by the laws of `Inserts`; `next` is `place`, or the place after it.
use Prim.Native.Nat.{◌+◌, ◌≤◌}
use Rattle.escaping.specs.Parts.{Inserts}
use Rattle.escaping.proofs.escaping.inserted_places.Given as goal

abbrev pub invariant-loop-here : goal.invariant-loop-here
invariant-loop-here l = (l.here ≤ l.next) × (l.next ≤ l.here + 1) × Inserts l.obu l.i l.next l.count
