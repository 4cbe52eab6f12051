-- A packet repeats the last one where it is a copy of it, and that one was none.
use mathlib.Core.Path.{sym, ◌∙◌}
use Rattle.packet.proofs.Counters.{unseen_repeats, no_copy_repeats, copy_repeats}
use Rattle.packet.proofs.counter.Stream.is_repeated_by.Goals as goal

pub returns-in_default : goal.returns-in_default
returns-in_default c r p s e = unseen_repeats c.args.self _ r p s e c.in_default.is

pub returns-then-is_copy : goal.returns-then-is_copy
returns-then-is_copy c r p s e =
    copy_repeats c.args.self c.args.packet r p s e _ c.in-Some.is (sym c.is_copy.ensures ∙ c.if-is_copy.true)

pub returns-else-is_copy : goal.returns-else-is_copy
returns-else-is_copy c r p s e =
    c.if-is_copy.false ∙ no_copy_repeats c.args.self c.args.packet r p s e _ c.in-Some.is (sym c.is_copy.ensures ∙ c.if-is_copy.false)
