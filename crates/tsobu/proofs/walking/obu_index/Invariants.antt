-- The start codes counted, and those before `at` from i on, are all that stand before `at`.
use Prim.Native.Nat.{◌+◌, ◌≤◌}
use mathlib.Core.Path.{◌≡◌}
use Rattle.tsobu.specs.Walk.{obu_index}
use Rattle.tsobu.proofs.Places.{codes_before}
use Rattle.tsobu.proofs.walking.obu_index.Given as goal

abbrev pub invariant-loop-i : goal.invariant-loop-i
invariant-loop-i l = (l.count ≤ l.i) × (l.count + codes_before l.at l.i l.unit ≡ obu_index l.unit l.at)
