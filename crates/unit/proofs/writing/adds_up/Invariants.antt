-- What was taken from n and what is left of it are n: the lengths add up to n where those from i on add up to what is left.
use Prim.Native.Nat.{◌+◌}
use mathlib.Core.Path.{◌≡◌}
use lib.ListN.{drop}
use Rattle.unit.specs.Unit.{sum}
use Rattle.unit.proofs.writing.adds_up.Given as goal

abbrev pub invariant-loop-length : goal.invariant-loop-length
invariant-loop-length l = sum l.lens + l.left ≡ l.n + sum (drop l.length-index l.lens)
