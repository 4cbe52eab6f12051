-- The first places are laid (`Laid`), and each turn lays two more; where a 03 is left to go in, the place before it is gone back to.
use Prim.Native.Nat.{◌*◌}
use Rattle.escaping.proofs.Dense.{Laid}
use Rattle.escaping.proofs.escaping.escape_dense.Given as goal

abbrev pub invariant-loop-pair : goal.invariant-loop-pair
invariant-loop-pair l = Laid l.obu l.i l.initial.out l.n (2 * l.pair) l.count l.last l.out
