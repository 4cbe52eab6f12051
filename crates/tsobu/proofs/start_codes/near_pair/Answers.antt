use native.Mathlib.Omega.{arith}
use Rattle.emulation.proofs.Judging.{lawful_past_one, lawful_past_two}
use Rattle.tsobu.proofs.start_codes.near_pair.Goals as goal

pub loop-place-preserved-then-s-place-ne0 : goal.loop-place-preserved-then-s-place-ne0
loop-place-preserved-then-s-place-ne0 c =
    lawful_past_two _ _ _ _ c.loop-place.invariant
    (omega (arith, c.loop-place-test.true, c.near_end-last.ensures)) c.if-s-place-ne0.true

pub loop-place-preserved : goal.loop-place-preserved
loop-place-preserved c =
    lawful_past_one _ _ _ _ c.loop-place.invariant (omega (arith, c.loop-place-test.true, c.near_end-last.ensures))
    c.if-s-place-ne0-2.true

pub returns : goal.returns
returns c = c.loop-place.invariant
