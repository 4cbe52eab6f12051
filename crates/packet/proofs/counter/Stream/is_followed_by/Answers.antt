-- The three parts of the sentence in turn.
use mathlib.Core.Path.{sym, ap, ◌∙◌}
use lib.Dec.{eqb}
use Rattle.lists.proofs.Tests.{or_by_true, or_by_false}
use Rattle.packet.proofs.Counters.{unseen_follows, seen_follows}
use Rattle.packet.proofs.counter.Stream.is_followed_by.Goals as goal

pub returns-in_default : goal.returns-in_default
returns-in_default c r p s e = unseen_follows c.args.self _ r p s e c.in_default.is

pub returns-then-packet : goal.returns-then-packet
returns-then-packet c r p s e =
    or_by_true _ c.if-packet.true c.if-packet.true ∙ sym (seen_follows c.args.self c.args.packet r p s e _ c.in-Some.is)

pub returns-else-packet : goal.returns-else-packet
returns-else-packet c r p s e =
    or_by_false c.if-packet.false (ap (eqb _) c.next_counter.ensures)
    ∙ sym (seen_follows c.args.self c.args.packet r p s e _ c.in-Some.is)
