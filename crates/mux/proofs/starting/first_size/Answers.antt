-- The unit's bytes, or as many as there is room for.
use native.Mathlib.Omega.{arith}
use Prim.Native.Nat.{ℕ, ◌-◌}
use mathlib.Core.Path.{◌≡◌, ap, ◌∙◌}
use lib.Dec.{ltb}
use borrow.Author.Tests.{ltb-true, ltb-false}
use Rattle.std.specs.Prelude.{min}
use Rattle.lists.specs.Lists.{pick}
use Rattle.lists.proofs.Picks.{by_lt, by_ge}
use Rattle.lists.proofs.Tests.{case}
use Rattle.mux.specs.Parts.{first_size}
use Rattle.mux.proofs.starting.first_size.Goals as goal

least : (n room : ℕ) → min n room ≡ pick (ltb n room) n room
least n room =
    case (ltb n room) (λ t. let h = ltb-true n room t in by_lt _ h (omega arith))
    (λ t. let h = ltb-false n room t in by_ge _ h (omega arith))

pub returns : goal.returns
unfolding first_size
returns c =
    let a = c.args in
    let room = c.first_most.ensures.value in
    record {
      value = c.min.ensures ∙ ap (λ (k : ℕ). min a.n (k - a.head)) room ∙ least a.n _;
      upper_bound = (omega arith, omega arith);
    }
