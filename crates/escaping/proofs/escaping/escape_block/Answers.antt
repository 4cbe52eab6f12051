-- Where no 03 may go in the block is copied; the others are `escape_sparse` and `escape_dense`, which promise the same.
use native.Mathlib.Omega.{arith}
use mathlib.Core.Path.{sym, ◌∙◌}
use Rattle.emulation.specs.Blocks.{block}
use Rattle.emulation.proofs.Outputs.{block_copied_lem}
use Rattle.escaping.proofs.Laying.{lays_plain}
use Rattle.escaping.proofs.escaping.escape_block.Goals as goal

pub returns-then-crowd-eq0 : goal.returns-then-crowd-eq0
returns-then-crowd-eq0 c =
    let at = c.args in
    let none = sym c.crowd-crowd.ensures ∙ c.if-crowd-eq0.true in
    let laid = lays_plain at.obu.now at.out.now at.i at.n block c.requires.0 c.requires.1 (omega arith) none in
    let e = c.copy_block.ensures ∙ block_copied_lem at.obu.now at.out.now at.i at.n (omega arith) (omega arith) in
    record {
      lays = rw e laid;
      n_lt_count = omega arith;
    }

pub returns : goal.returns
returns c = record { lays = c.escape_dense.ensures.lays; n_lt_count = c.escape_dense.ensures.n_lt_count }
