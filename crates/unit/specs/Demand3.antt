-- Demand 3, in full. Assumes nothing.
use Rattle.std.specs.Prelude.{ℕ, suc, ◌-◌, ◌/◌, ◌≤◌, ◌<◌, ◌≡◌, ◌⊎◌, ◌↔◌, length}
use mathlib.Core.List.{List, Memᴰ}
use Rattle.lists.specs.Lists.{Bytes, over}
use Rattle.refusal.specs.Verdict.{Verdict, passed, refused}
use Rattle.emulation.specs.Payload.{inserted}
use Rattle.unit.specs.Unit.{AcceptsAs, obus_of, write_refusal, carried}

-- "For every list of OBUs that 01 accepts as one access unit" (l, which is `Accepted`), of a lent output `before`, the
-- writer's answer and the output `after` it:
pub record Demand3 (l : List Bytes) (before : Bytes) (answer : Verdict ℕ) (after : Bytes) : Type 0 where
  -- (a) "the writer's string is accepted by the reader as exactly that list"
  pub one_of_them : AcceptsAs (carried l) l
  -- (b) "and is strictly shorter than every other such string"
  pub shortest : (s : Bytes) → AcceptsAs s l → (s ≡ carried l) ⊎ (length (carried l) < length s)
  -- (c) ""no room" (8) is said exactly when the buffer is too short for all of them"
  pub no_room : (answer ≡ refused 8 0) ↔ ((s : Bytes) → AcceptsAs s l → length before < length s)
  -- (d) in any other buffer that string stands at the front, the rest as it was, and the count is its length
  pub stands : (¬ (answer ≡ refused 8 0)) → (answer ≡ passed (length (carried l))) × (after ≡ over (carried l) before)
  -- (e) "an OBU of n bytes costs at most (n-1)/2"
  pub cost : (obu : Bytes) → Memᴰ obu l → 1 ≤ length obu → inserted obu ≤ (length obu - 1) / 2

-- The same of OBUs lent back to back with their lengths, which writing does not refuse (but by 8). Lengths that don't
-- add up to the bytes can still cut out an accepted list, so this asks for no refusal and not for an accepted list.
abbrev pub Demand3Lent : List ℕ → Bytes → Bytes → Verdict ℕ → Bytes → Type 0
Demand3Lent lens bytes before answer after =
    write_refusal lens bytes ≡ passed tt → Demand3 (obus_of lens bytes) before answer after
