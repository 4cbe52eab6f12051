-- The bytes taken so far are the first of the block.
use mathlib.Core.Path.{◌≡◌}
use lib.ListN.{length, drop, take}
use Rattle.emulation.specs.Blocks.{block}
use Rattle.emulation.proofs.writing.load_block.Given as goal

abbrev pub invariant-loop-j : goal.invariant-loop-j
invariant-loop-j l = (length l.bytes ≡ block) × (take l.j l.bytes ≡ take l.j (drop l.i l.s))
