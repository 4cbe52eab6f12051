-- The code tries 29, as the definition does.
use native.Mathlib.Omega.{arith}
use Rattle.refusal.proofs.Verdicts.{refuse, pass_on}
use Rattle.pes.specs.Pes.{reading}
use Rattle.pes.proofs.header.read.Goals as goal

pub returns-then-header_wrong : goal.returns-then-header_wrong
unfolding reading
returns-then-header_wrong c = grind (arith, refuse)

pub returns-else-header_wrong : goal.returns-else-header_wrong
unfolding reading
returns-else-header_wrong c = grind (arith, pass_on)
