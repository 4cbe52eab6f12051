use native.Mathlib.Omega.{arith}
use Rattle.emulation.proofs.Outputs.{writes_rest}
use Rattle.emulation.proofs.Giving.{gives_then, gives_copied, gives_rest}
use Rattle.emulation.proofs.unescaping.unescape_prefix.Goals as goal

pub loop-i-preserved-then-copy_unmarked : goal.loop-i-preserved-then-copy_unmarked
loop-i-preserved-then-copy_unmarked c =
    gives_copied c.loop-i.invariant (c.copy_unmarked.ensures.copied c.if-copy_unmarked.true)

pub loop-i-preserved-then-end-i : goal.loop-i-preserved-then-end-i
loop-i-preserved-then-end-i c =
    let same = c.copy_unmarked.ensures.out_unchanged c.if-copy_unmarked.false in
    gives_then c.loop-i.invariant (rw same at c.unescape_run-n.ensures.gives)

pub loop-i-preserved : goal.loop-i-preserved
loop-i-preserved c =
    let same = c.copy_unmarked.ensures.out_unchanged c.if-copy_unmarked.false in
    gives_then c.loop-i.invariant (rw same at c.unescape_places-reached.ensures.gives)

pub returns : goal.returns
returns c = record {
  value = (gives_rest c.loop-i.invariant (omega arith)
      (writes_rest c.loop-i.invariant.written.within c.copy_rest.ensures)).0;
  out_after
      = (gives_rest c.loop-i.invariant (omega arith) (writes_rest c.loop-i.invariant.written.within c.copy_rest.ensures)).1;
}
