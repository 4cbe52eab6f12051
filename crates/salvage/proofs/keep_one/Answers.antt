-- The test that the code makes is the one that the definition picks by.
use mathlib.Core.Path.{refl, sym, ◌∙◌}
use Rattle.lists.proofs.Picks.{by_true, by_false}
use Rattle.salvage.specs.Parts.{kept_one}
use Rattle.salvage.proofs.keep_one.Goals as goal

pub returns-then-closes : goal.returns-then-closes
unfolding kept_one
returns-then-closes c = by_true _ (sym c.closes.ensures ∙ c.if-closes.true) refl

pub returns : goal.returns
unfolding kept_one
returns c = by_false _ (sym c.closes.ensures ∙ c.if-closes.false) refl
