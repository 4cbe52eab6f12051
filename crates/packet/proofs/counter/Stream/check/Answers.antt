-- The verdict goes by the sentence: a repeat, a counter that is right, or neither; and so does the record given back.
use mathlib.Core.Path.{sym, ◌∙◌}
use Rattle.packet.proofs.Counters.{repeat_follows, right_follows, right_checks, wrong_checks}
use Rattle.packet.proofs.counter.Stream.check.Goals.{else-not-repeat-via-else-not-repeat}
use Rattle.packet.proofs.counter.Stream.check.Goals.{else-not-repeat-via-then-not-repeat+else-not-is_followed_by}
use Rattle.packet.proofs.counter.Stream.check.Goals as goal

pub returns-then-not-is_followed_by-clause-of : goal.returns-then-not-is_followed_by-clause-of
returns-then-not-is_followed_by-clause-of c r p s e =
    rw c.at.ensures (wrong_checks c.args.self c.args.packet r p s e
    (sym (c.is_repeated_by-repeat.ensures r p s e) ∙ c.if-not-repeat.true)
    (sym (c.is_followed_by.ensures r p s e) ∙ c.if-not-is_followed_by.true))

pub returns-clause-of : goal.returns-clause-of
returns-clause-of c r p s e =
    let repeats = c.is_repeated_by-repeat.ensures r p s e in
    right_checks c.args.self c.args.packet r p s e c.is_repeated_by-repeat.result repeats
    (elim c.else-not-repeat.branch [
      | else-not-repeat-via-then-not-repeat+else-not-is_followed_by w ↦
          right_follows r p (sym (w.is_followed_by.ensures r p s e) ∙ w.if-not-is_followed_by.false)
      | else-not-repeat-via-else-not-repeat w ↦ repeat_follows r p (sym repeats ∙ w.if-not-repeat.false)
    ])
