-- The flags of the first j places stand (`Flags`); each turn sets one more.
use Prim.Native.Nat.{◌≤◌}
use mathlib.Core.Path.{◌≡◌}
use lib.ListN.{length}
use Rattle.emulation.specs.Blocks.{block}
use Rattle.emulation.specs.Parts.{critical}
use Rattle.escaping.specs.Parts.{Flags}
use Rattle.escaping.proofs.blocks.flags.Given as goal

abbrev pub invariant-loop-j : goal.invariant-loop-j
invariant-loop-j l = (l.j ≤ block) × (length l.flags ≡ block) × Flags critical l.s l.i l.j l.flags
