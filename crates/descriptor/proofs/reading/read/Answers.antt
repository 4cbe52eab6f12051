-- 40 by the test; otherwise the fields and the delay are what their calls give.
use native.Mathlib.Omega.{arith}
use Rattle.refusal.proofs.Verdicts.{refuse, pass_on}
use Rattle.descriptor.specs.Descriptor.{reading}
use Rattle.descriptor.proofs.reading.read.Goals as goal

pub returns-then-wrong : goal.returns-then-wrong
unfolding reading
returns-then-wrong c = grind (arith, refuse)

pub returns : goal.returns
unfolding reading
returns c = grind (arith, pass_on)
