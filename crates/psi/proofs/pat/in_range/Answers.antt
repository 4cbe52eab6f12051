-- The two tries of the definition, in its order.
use native.Mathlib.Omega.{arith}
use Rattle.refusal.proofs.Verdicts.{refuse, pass_on}
use Rattle.psi.specs.Pat.{map_pid_in_range}
use Rattle.psi.proofs.pat.in_range.Goals as goal

pub returns-then-contains : goal.returns-then-contains
unfolding map_pid_in_range
returns-then-contains c = grind (arith, pass_on)

pub returns-else-contains : goal.returns-else-contains
unfolding map_pid_in_range
returns-else-contains c = grind (arith, refuse, pass_on)
