use native.Mathlib.Omega.{arith}
use Prim.Native.Nat.{ℕ, ◌+◌, ◌-◌}
use mathlib.Core.Path.{◌≡◌, ap, subst}
use lib.ListN.{get_or, length-set}
use Rattle.emulation.proofs.Outputs.{writes_then}
use Rattle.emulation.proofs.Runs.{keeps_step, run_start, run_step, run_end}
use Rattle.emulation.proofs.unescaping.unescape_run.Goals as goal

pub loop-place-preserved : goal.loop-place-preserved
loop-place-preserved c =
    let h = c.loop-place-test.true in
    let k = keeps_step c.keep-kept.ensures in
    let l = length-set c.loop-place.out c.loop-place.count c.keep-kept.result.byte in
    let e : c.loop-place.place ≡ c.loop-place.place + 1 - 1 = omega arith in (
      omega (arith, c.loop-place.invariant.0),
      omega arith,
      omega (arith, c.loop-place.invariant.2),
      omega (arith, c.loop-place.invariant.3, k),
      omega (arith, c.loop-place.invariant.4, l),
      ap (λ (j : ℕ). get_or c.args.payload.now j 0) e,
      run_step c.args.payload.now c.loop-place.p c.loop-place.q c.loop-place.place _ _ (omega arith)
          (omega (arith, c.loop-place.invariant.3, c.loop-place.invariant.4))
          c.keep-kept.ensures c.loop-place.invariant.6,
    )

pub returns : goal.returns
returns c =
    let s = c.args.payload.now in
    let e : c.loop-place.place ≡ c.args.end = omega (arith, c.loop-place.invariant.1, c.loop-place-test.false) in
    let f = run_end s c.loop-place.p c.loop-place.q c.args.end c.requires.2
    (subst (λ (k : ℕ). c.loop-place.q ≡ get_or s (k - 1) 0) e c.loop-place.invariant.5) in
    let w = writes_then (run_start s c.args.out.now c.args.i c.args.n (omega arith) (omega arith)) c.loop-place.invariant.6 in
    record {
      gives = record { within = omega arith; written = rw f at (rw e at w) };
      lower_bound = c.loop-place.invariant.2;
    }
