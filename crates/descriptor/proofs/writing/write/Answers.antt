-- 41 and 8 are tried in order; then the descriptor, which has room, is written.
use native.Mathlib.Omega.{arith}
use Rattle.lists.proofs.Tests.{ways}
use Rattle.refusal.specs.Verdict.{leaves}
use Rattle.refusal.proofs.Verdicts.{refuse, pass_on}
use Rattle.descriptor.specs.Descriptor.{descriptor_of, writing}
use Rattle.descriptor.proofs.writing.write.Goals as goal

pub returns-then-past_width : goal.returns-then-past_width
unfolding writing leaves
returns-then-past_width c = record { result_value = grind (arith, refuse); out_after = search ways }

pub returns-then-out-lt6 : goal.returns-then-out-lt6
unfolding writing leaves descriptor_of
returns-then-out-lt6 c = record { result_value = grind (arith, refuse, pass_on); out_after = search ways }

pub returns : goal.returns
unfolding writing leaves descriptor_of
returns c = record { result_value = grind (arith, pass_on); out_after = grind arith }
