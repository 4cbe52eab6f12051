-- From one 03 to the next: what is to stand up to the place does. The first block fits, so that the loop goes on before it can stop.
use Prim.Native.Nat.{◌-◌, ◌≤◌, ◌<◌}
use mathlib.Core.Path.{◌≡◌}
use Rattle.escaping.specs.Parts.{Lays}
use Rattle.escaping.proofs.escaping.escape_sparse.Given as goal

abbrev pub invariant-loop-place : goal.invariant-loop-place
invariant-loop-place l = Lays l.obu l.i l.initial.out l.n l.place l.count l.out × (l.i ≤ l.place) × (l.i < l.place → l.n < l.count) ×
    (l.place ≡ l.i → l.count ≡ l.n)

abbrev pub decreases-loop-place : goal.decreases-loop-place
decreases-loop-place l = l.end - l.place
