-- A block in which no 00 00 03 stands is copied where it has room; otherwise nothing is done.
use native.Mathlib.Omega.{arith}
use Prim.Native.Nat.{◌+◌, ◌≤◌}
use mathlib.Core.Path.{◌≡◌, refl, sym, ◌∙◌}
use mathlib.Core.Bool.{true}
use lib.ListN.{length, drop, length-drop}
use Rattle.lists.proofs.Tests.{clash}
use Rattle.emulation.specs.Blocks.{block, free_of}
use Rattle.emulation.specs.Parts.{marked}
use Rattle.emulation.proofs.Outputs.{writes_paste}
use Rattle.emulation.proofs.Hits.{is_free}
use Rattle.emulation.proofs.writing.copy_unmarked.Goals as goal

pub write_block-requires : goal.write_block-requires
write_block-requires c =
    let h = is_free marked c.args.s.now c.args.i (sym c.unmarked.ensures ∙ c.if-unmarked.true) in
    (omega (arith, h.0), omega arith)

pub returns-then-unmarked : goal.returns-then-unmarked
returns-then-unmarked c =
    let s = c.args.s.now in
    let i = c.args.i in
    let o = c.args.out.now in
    let n = c.args.n in
    let t : free_of marked (drop i s) ≡ true = sym c.unmarked.ensures ∙ c.if-unmarked.true in
    let h = is_free marked s i t in
    let k = length-drop i s in
    let room : n + block ≤ length o = omega arith in
    let long : block ≤ length (drop i s) = omega (arith, h.0) in
    let copied = c.write_block.ensures in
    record {
      copied = (λ e. record { tested = t; written = λ rest. rw copied (writes_paste o (drop i s) rest n block room long) });
      out_unchanged = (λ e. clash refl e);
    }

pub returns : goal.returns
returns c = record {
  copied = (λ e. clash e refl);
  out_unchanged = (λ e. refl);
}
