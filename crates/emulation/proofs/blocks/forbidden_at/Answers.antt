-- The string from i on begins with the four bytes read (`forbidden_four`), and `forbidden` makes the definition's test of them.
use mathlib.Core.Path.{sym, ◌∙◌}
use Rattle.emulation.proofs.Judging.{forbidden_four}
use Rattle.emulation.proofs.blocks.forbidden_at.Goals as goal

pub returns : goal.returns
returns c =
    c.forbidden.ensures ∙ sym (forbidden_four c.args.s.now c.args.i c.requires)
