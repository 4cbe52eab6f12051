-- "in as few packets as possible": no fewer packets carry a unit's PES. Assumes nothing.
use Prim.Native.Nat.{ℕ, ◌*◌, ◌≤◌}
use mathlib.Core.Bool.{true}
use mathlib.Core.Path.{◌≡◌, ap}
use mathlib.Core.List.{List, [], ◌∷◌, flatten}
use native.Mathlib.Omega.{arith}
use borrow.Author.Tests.{leb-true}
use lib.Dec.{leb}
use lib.ListN.{length, length-append, length-drop}
use Rattle.lists.specs.Lists.{Bytes, all}
use Rattle.lists.proofs.Tests.{and_both}
use Rattle.packet.specs.Writing.{most}
use Rattle.mux_rules.specs.Packets.{pes, first_most, others_for, other_parts}
use Rattle.mux_rules.specs.Claim.{Fewest}

carried_by : (more : List Bytes) → all (λ p. leb (length p) most) more ≡ true → length (flatten more) ≤ most * length more
unfolding flatten all
carried_by [] h = omega arith
carried_by (p ∷ more) h =
    let b = and_both (leb (length p) most) (all (λ q. leb (length q) most) more) h in
    omega (arith, length-append p (flatten more), carried_by more b.1, leb-true (length p) most b.0)

enough : (n k : ℕ) → n ≤ most * k → others_for n ≤ k
enough n k h = omega arith

pub fewest : Fewest
fewest u first more a b e =
    let n : length (other_parts u) ≤ most * length more =
    omega (arith, length-drop (first_most u.marked) (pes u), ap length e, length-append first (flatten more), carried_by more b) in
    let k = enough (length (other_parts u)) (length more) n in
    omega arith
