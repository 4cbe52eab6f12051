-- The bounds of the code are the greatest that round to 32 bits.
use mathlib.Core.Path.{refl, sym, ◌∙◌}
use borrow.Author.Tests.{lt-ltb, le-ltb}
use Rattle.lists.proofs.Tests.{or_by_true, or_by_false}
use Rattle.mastering.specs.Steps.{luminance_past}
use Rattle.mastering.proofs.Rounding.{maximum_past, minimum_past}
use Rattle.mastering.proofs.steps.luminance_past.Goals as goal

pub returns-then-s-gt-MOST_MAXIMUM : goal.returns-then-s-gt-MOST_MAXIMUM
unfolding luminance_past
returns-then-s-gt-MOST_MAXIMUM c =
    let past = lt-ltb _ _ c.if-s-gt-MOST_MAXIMUM.true in past ∙ or_by_true _ (sym (maximum_past c.args.s.luminance_max) ∙ past) refl

pub returns-else-s-gt-MOST_MAXIMUM : goal.returns-else-s-gt-MOST_MAXIMUM
unfolding luminance_past
returns-else-s-gt-MOST_MAXIMUM c =
    let s = c.args.s in
    or_by_false (sym (maximum_past s.luminance_max) ∙ le-ltb _ _ c.if-s-gt-MOST_MAXIMUM.false) (minimum_past s.luminance_min)
