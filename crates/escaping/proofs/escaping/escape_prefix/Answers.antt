use native.Mathlib.Omega.{arith}
use Rattle.emulation.proofs.Outputs.{writes_rest}
use Rattle.escaping.proofs.Laying.{gives_lays, lays_then, lays_rest}
use Rattle.escaping.proofs.escaping.escape_prefix.Goals as goal

pub loop-i-preserved : goal.loop-i-preserved
loop-i-preserved c =
    lays_then c.loop-i.invariant (gives_lays c.escape_places-reached.ensures.gives)

pub returns : goal.returns
returns c = record {
  value = (lays_rest c.loop-i.invariant (omega arith)
      (writes_rest c.loop-i.invariant.written.within c.copy_rest.ensures)).0;
  out_after
      = (lays_rest c.loop-i.invariant (omega arith) (writes_rest c.loop-i.invariant.written.within c.copy_rest.ensures)).1;
}
