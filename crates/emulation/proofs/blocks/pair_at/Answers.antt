-- The string from i on begins with the two bytes read (`paired_at`), and `pair` makes the definition's test of them.
use mathlib.Core.Path.{sym, ◌∙◌}
use Rattle.emulation.proofs.Critical.{paired_at}
use Rattle.emulation.proofs.blocks.pair_at.Goals as goal

pub returns : goal.returns
returns c =
    c.pair.ensures ∙ sym (paired_at c.args.s.now c.args.i c.requires)
