use native.Mathlib.Omega.{arith}
use Prim.Native.Nat.{◌+◌}
use mathlib.Core.Path.{sym, ◌∙◌}
use mathlib.Core.List.{◌∷◌}
use lib.ListN.{drop}
use Rattle.emulation.specs.Payload.{escape}
use Rattle.emulation.proofs.Outputs.{writes_then, writes_fitted, put_onward}
use Rattle.escaping.proofs.Clean.{escape_at_critical, escape_at_uncritical, critical_fits}
use Rattle.emulation.proofs.Giving.{going_on}
use Rattle.escaping.proofs.escaping.escape_places.Goals as goal

pub loop-place-preserved-then-critical_at : goal.loop-place-preserved-then-critical_at
loop-place-preserved-then-critical_at c =
    let s = c.args.obu.now in
    let e = sym c.critical_at.ensures ∙ c.if-critical_at.true in
    let rest = escape (drop (c.loop-place.place + 2) s) in
    let w = writes_fitted (0 ∷ 3 ∷ rest) c.loop-place.invariant.0.written.within c.put-count.ensures in
    let w2 = writes_fitted (3 ∷ rest) w.within c.put-count-then-critical_at.ensures in
    let w3 = writes_fitted rest w2.within c.put-count-then-critical_at-2.ensures in
    let fits = critical_fits s c.loop-place.place c.loop-place.invariant.0.within e in
    going_on c.loop-place.invariant (escape_at_critical s c.loop-place.place e) (omega arith) (writes_then (writes_then w w2) w3)
    (omega (arith, put_onward c.put-count.ensures (omega arith), w2.onward, w3.onward))

pub loop-place-preserved : goal.loop-place-preserved
loop-place-preserved c =
    let s = c.args.obu.now in
    let e = sym c.critical_at.ensures ∙ c.if-critical_at.false in
    let put = c.put-count-else-critical_at.ensures in
    let w = writes_fitted (escape (drop (c.loop-place.place + 1) s)) c.loop-place.invariant.0.written.within put in
    going_on c.loop-place.invariant (escape_at_uncritical s c.loop-place.place (omega arith) e) (omega arith) w
    (put_onward put (omega arith))

pub returns : goal.returns
returns c = record {
  gives = c.loop-place.invariant.0;
  n_lt_count = c.loop-place.invariant.1 (omega arith);
}
