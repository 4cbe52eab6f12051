-- The two tests are those of the definition, in its order.
use borrow.Author.Tests.{eq-eqb, ne_eqb}
use mathlib.Core.Bool.{not}
use mathlib.Core.Path.{refl, ap}
use Rattle.lists.proofs.Tests.{and_by_false, and_by_true}
use Rattle.segment_rules.specs.Rules.{length_differs}
use Rattle.units.proofs.units.length_wrong.Goals as goal

pub returns-then-header-ne0 : goal.returns-then-header-ne0
unfolding length_differs
returns-then-header-ne0 c = and_by_true (ap not (ne_eqb _ 0 c.if-header-ne0.true)) refl

pub returns-else-header-ne0 : goal.returns-else-header-ne0
unfolding length_differs
returns-else-header-ne0 c = let e = ap not (eq-eqb c.args.header.length 0 c.if-header-ne0.false) in and_by_false _ e e
