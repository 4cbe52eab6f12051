use native.Mathlib.Omega.{arith}
use Rattle.escaping.proofs.Laying.{lays_then}
use Rattle.escaping.proofs.escaping.escape_sparse.Goals as goal

pub loop-place-preserved : goal.loop-place-preserved
loop-place-preserved c =
    let next = c.escape_next-reached.ensures in (
      lays_then c.loop-place.invariant.0 next.lays,
      omega (arith, c.loop-place.invariant.1, next.i_lt_place),
      (λ h. omega (arith, c.loop-place.invariant.0.written.onward, next.i_lt_place)),
      (λ e. absurd (omega (arith, c.loop-place.invariant.1, next.i_lt_place))),
    )

pub returns : goal.returns
returns c = record {
  lays = c.loop-place.invariant.0;
  n_lt_count = c.loop-place.invariant.2 (omega arith);
}
