-- The pairs are those of the definition's two lists, in its order.
use Rattle.std.proofs.Common.{zip, sym, ◌∙◌, rules, tests}
use Rattle.std.proofs.lemmas.Iterator.{YieldsList-from_slice}
use Rattle.std.proofs.lemmas.Iterator.Search.{position_from_yields_List}
use Rattle.sequence.specs.Comparison.{of_header, of_descriptor}
use Rattle.sequence.proofs.Headers.{unequal, differing_is}
use Rattle.sequence.proofs.comparing.differing.Goals as goal

pub returns-in_err-first : goal.returns-in_err-first
unfolding of_header of_descriptor
returns-in_err-first c =
    let h = of_header c.args.h in
    let d = of_descriptor c.args.d in
    c.from_residual.ensures ∙ sym c.in_err-first.was
    ∙ position_from_yields_List unequal _ _ c.position.result c.position.ensures.ran (YieldsList-from_slice (zip h d) cc)
    (λ x b q k. search (rules, tests)) ∙ sym (differing_is h d)

pub returns : goal.returns
unfolding of_header of_descriptor
returns c =
    let h = of_header c.args.h in
    let d = of_descriptor c.args.d in
    sym c.in_ok-first.was
    ∙ position_from_yields_List unequal _ _ c.position.result c.position.ensures.ran (YieldsList-from_slice (zip h d) cc)
    (λ x b q k. search (rules, tests)) ∙ sym (differing_is h d)
