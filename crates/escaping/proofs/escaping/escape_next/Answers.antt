-- Up to the first place at which 00 00 and a byte of 0 to 3 stand the bytes are given as they are, which are copied with the rest of the
-- block (`lays_plain`); then come the 00 00, copied too, and the 03 (`lays_put`). Where the two do not stand in the block they wait.
use borrow.Author.Rules.{rules}
use native.Mathlib.Omega.{arith}
use mathlib.Core.Path.{◌∙◌}
use Rattle.emulation.specs.Blocks.{block}
use Rattle.emulation.specs.Parts.{critical}
use Rattle.escaping.specs.Parts.{First}
use Rattle.emulation.proofs.Outputs.{block_copied_lem}
use Rattle.escaping.proofs.Laying.{lays_plain, lays_put}
use Rattle.escaping.proofs.escaping.escape_next.Goals as goal

pub returns-then-first : goal.returns-then-first
returns-then-first c =
    let s = c.args.obu.now in
    let i = c.args.i in
    let f = c.wide-first.result in
    let first : First critical s i block f = rw c.wide-first.ensures c.before_critical.ensures in
    record {
      lays = rw (c.copy_block.ensures ∙ block_copied_lem s c.args.out.now i c.args.n (omega arith) (omega arith))
          (lays_plain s c.args.out.now i c.args.n f c.requires.0 c.requires.1 first.within first.none);
      i_lt_place = (omega arith, omega arith);
    }

pub returns : goal.returns
returns c =
    let s = c.args.obu.now in
    let i = c.args.i in
    let f = c.wide-first.result in
    let first : First critical s i block f = rw c.wide-first.ensures c.before_critical.ensures in
    record {
      lays = rw (c.copy_block.ensures ∙ block_copied_lem s c.args.out.now i c.args.n (omega arith) (omega arith))
          (lays_put s c.args.out.now i c.args.n f c.requires.0 c.requires.1 first (omega arith));
      i_lt_place = (omega arith, omega arith);
    }

pub overflow_add-result : goal.overflow_add-result
overflow_add-result c = search rules
