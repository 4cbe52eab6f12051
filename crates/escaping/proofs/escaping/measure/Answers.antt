-- The escaped form has the bytes of the OBU and those put.
use native.Mathlib.Omega.{arith}
use Prim.Native.Nat.{ℕ, ◌+◌}
use mathlib.Core.Path.{ap, ◌∙◌}
use lib.ListN.{length}
use Rattle.emulation.proofs.Theorems.{inserted_bound}
use Rattle.escaping.proofs.Inserting.{escaped_length}
use Rattle.escaping.proofs.escaping.measure.Goals as goal

pub overflow_add-result : goal.overflow_add-result
overflow_add-result c = omega (arith, c.inserted.ensures, inserted_bound c.args.obu.now)

pub returns : goal.returns
returns c =
    let obu = c.args.obu.now in
    ap (λ (k : ℕ). length obu + k) c.inserted.ensures ∙ escaped_length obu
