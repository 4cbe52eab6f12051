-- The string from i on begins with the three bytes read (`zeros_then_at`), and `zeros_then` makes the definition's test of them.
use mathlib.Core.Path.{sym, ◌∙◌}
use Rattle.emulation.proofs.Zeros.{zeros_then_at}
use Rattle.emulation.proofs.blocks.zeros_then_at.Goals as goal

pub returns : goal.returns
returns g c =
    c.zeros_then.ensures ∙ sym (zeros_then_at _ _ c.args.s.now c.args.i c.requires)
