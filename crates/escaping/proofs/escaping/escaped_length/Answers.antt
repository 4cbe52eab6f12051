-- The limit is tried first, then the answer is what `measure` gives.
use borrow.Author.Tests.{lt-ltb, le-ltb}
use mathlib.Core.Path.{ap}
use Rattle.refusal.specs.Verdict.{passed}
use Rattle.refusal.proofs.Verdicts.{refuse, pass_on}
use Rattle.emulation.specs.Answer.{measuring}
use Rattle.escaping.proofs.escaping.escaped_length.Goals as goal

pub returns-then-obu-gt-MOST_ESCAPED : goal.returns-then-obu-gt-MOST_ESCAPED
unfolding measuring
returns-then-obu-gt-MOST_ESCAPED c = rw c.at.ensures (refuse 2 _ (lt-ltb _ _ c.if-obu-gt-MOST_ESCAPED.true))

pub returns : goal.returns
unfolding measuring
returns c = pass_on 2 (le-ltb _ _ c.if-obu-gt-MOST_ESCAPED.false) (ap passed c.measure.ensures)
