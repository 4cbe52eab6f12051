-- 00 00 and a byte of 0 to 3 are the three bytes read (`zeros_then_at`).
use mathlib.Core.Path.{sym, ap, ◌∙◌}
use mathlib.Core.Bool.{Bool}
use lib.ListN.{drop}
use Rattle.lists.specs.Lists.{Bytes}
use Rattle.emulation.proofs.Zeros.{zeros_then_at, is_critical}
use Rattle.escaping.proofs.blocks.critical_at.Goals as goal

pub returns : goal.returns
returns c =
    let s = c.args.s.now in
    c.zeros_then.ensures ∙ sym (zeros_then_at 0 3 s c.args.i c.requires) ∙ ap (λ (test : Bytes → Bool). test (drop c.args.i s)) is_critical
