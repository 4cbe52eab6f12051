-- The block is loaded; the bytes stored so far are its first.
use mathlib.Core.Path.{◌≡◌}
use lib.ListN.{length}
use lib.Seq.{paste}
use Rattle.emulation.specs.Blocks.{block}
use Rattle.emulation.proofs.writing.write_block.Given as goal

abbrev pub invariant-loop-j : goal.invariant-loop-j
invariant-loop-j l = (length l.bytes ≡ block) × (length l.out ≡ length l.initial.out) ×
    (l.out ≡ paste l.initial.out l.n l.bytes l.j)
