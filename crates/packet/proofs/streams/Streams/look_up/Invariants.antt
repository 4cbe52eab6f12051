-- The lookup from the slot where the loop is gives the answer of the whole.
use Prim.Native.Nat.{◌+◌, ◌-◌, ◌≤◌}
use mathlib.Core.Path.{◌≡◌}
use lib.ListN.{drop}
use Rattle.packet.specs.Streams.{look_up_from, listed_pids}
use Rattle.packet.proofs.streams.Streams.look_up.Given as goal

abbrev pub invariant-loop-i : goal.invariant-loop-i
invariant-loop-i l =
    (l.i ≤ 12)
    × (look_up_from 2 l.pid (listed_pids l.listed l.self) ≡ look_up_from (2 + l.i) l.pid (drop l.i (listed_pids l.listed l.self)))

abbrev pub decreases-loop-i : goal.decreases-loop-i
decreases-loop-i l = 12 - l.i
