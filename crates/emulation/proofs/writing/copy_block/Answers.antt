-- Where both have a block it is written; otherwise the output stays as it was.
use borrow.Author.Tests.{leb-true}
use Prim.Native.Nat.{◌+◌, ◌≤◌}
use mathlib.Core.Path.{sym, ◌∙◌}
use lib.ListN.{length}
use Rattle.emulation.specs.Blocks.{block}
use Rattle.emulation.proofs.Outputs.{block_copied_lem, block_unread, block_unwritten}
use Rattle.emulation.proofs.writing.copy_block.Goals.{Else-not-has_block-2}
use Rattle.emulation.proofs.writing.copy_block.Goals as goal

-- both have one
both : (c : Else-not-has_block-2)
    → let at = c.args in
    (at.i + block ≤ length at.s.now) × (at.n + block ≤ length at.out.now)
both c = (
  leb-true _ _ (sym c.has_block.ensures ∙ c.if-not-has_block.false),
  leb-true _ _ (sym c.has_block-2.ensures ∙ c.if-not-has_block-2.false),
)

pub returns-then-not-has_block : goal.returns-then-not-has_block
returns-then-not-has_block c =
    let at = c.args in
    block_unread at.s.now at.out.now at.i at.n (sym c.has_block.ensures ∙ c.if-not-has_block.true)

pub returns-then-not-has_block-2 : goal.returns-then-not-has_block-2
returns-then-not-has_block-2 c =
    let at = c.args in
    block_unwritten at.s.now at.out.now at.i at.n (sym c.has_block-2.ensures ∙ c.if-not-has_block-2.true)

pub returns : goal.returns
returns c =
    let at = c.args in
    c.write_block.ensures ∙ sym (block_copied_lem at.s.now at.out.now at.i at.n (both (goal.at.returns c).Else-not-has_block-2).0
    (both (goal.at.returns c).Else-not-has_block-2).1)

pub write_block-requires : goal.write_block-requires
write_block-requires c = both (goal.at.write_block-requires c).Else-not-has_block-2
