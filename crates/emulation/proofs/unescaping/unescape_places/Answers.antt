use native.Mathlib.Omega.{arith}
use Prim.Native.Nat.{◌+◌}
use mathlib.Core.Bool.{true, false}
use mathlib.Core.Path.{◌≡◌, sym, ◌∙◌}
use mathlib.Core.List.{◌∷◌}
use lib.ListN.{drop}
use Rattle.emulation.specs.Payload.{unescape}
use Rattle.emulation.specs.Parts.{marked}
use Rattle.emulation.proofs.Outputs.{writes_then, writes_fitted, put_onward}
use Rattle.emulation.proofs.Steps.{unescape_at_marked, unescape_at_plain, marked_fits}
use Rattle.emulation.proofs.Giving.{going_on}
use Rattle.emulation.proofs.Zeros.{is_marked}
use Rattle.emulation.proofs.unescaping.unescape_places.Goals as goal

pub loop-place-preserved-then-zeros_then_at : goal.loop-place-preserved-then-zeros_then_at
loop-place-preserved-then-zeros_then_at c =
    let s = c.args.payload.now in
    let e : marked (drop c.loop-place.place s) ≡ true = rw is_marked at (sym c.zeros_then_at.ensures ∙ c.if-zeros_then_at.true) in
    let rest = unescape (drop (c.loop-place.place + 3) s) in
    let w = writes_fitted (0 ∷ rest) c.loop-place.invariant.0.written.within c.put-count.ensures in
    let w2 = writes_fitted rest w.within c.put-count-then-zeros_then_at.ensures in
    let fits = marked_fits s c.loop-place.place c.loop-place.invariant.0.within e in
    going_on c.loop-place.invariant (unescape_at_marked s c.loop-place.place e) fits (writes_then w w2)
    (omega (arith, put_onward c.put-count.ensures (omega arith), w2.onward))

pub loop-place-preserved : goal.loop-place-preserved
loop-place-preserved c =
    let s = c.args.payload.now in
    let e : marked (drop c.loop-place.place s) ≡ false = rw is_marked at (sym c.zeros_then_at.ensures ∙ c.if-zeros_then_at.false) in
    let put = c.put-count-else-zeros_then_at.ensures in
    let w = writes_fitted (unescape (drop (c.loop-place.place + 1) s)) c.loop-place.invariant.0.written.within put in
    going_on c.loop-place.invariant (unescape_at_plain s c.loop-place.place (omega arith) e) (omega arith) w (put_onward put (omega arith))

pub returns : goal.returns
returns c = record {
  gives = c.loop-place.invariant.0;
  n_lt_count = c.loop-place.invariant.1 (omega arith);
}
