-- One of the eight is past the bound: so says `any` of the list, and the definition of one after the other.
use mathlib.Core.Bool.{Bool, true, false, ◌||◌}
use mathlib.Core.Path.{◌≡◌, refl, ◌∙◌}
use mathlib.Core.List.{[], ◌∷◌}
use lib.Dec.{ltb}
use Rattle.std.proofs.Common.{rules, tests}
use Rattle.std.proofs.lemmas.Iterator.{YieldsList-from_slice}
use Rattle.std.proofs.lemmas.Iterator.Search.{any_from_yields_List}
use Rattle.mastering.specs.Steps.{chromaticity_steps, chromaticity_past}
use Rattle.mastering.proofs.steps.chromaticity_past.Goals as goal

one_of : (a b c d e f g h : Bool) → (a || (b || (c || (d || (e || (f || (g || (h || false)))))))) ≡ (a || b || c || d || e || f || g || h)
one_of true b c d e f g h = refl
one_of false true c d e f g h = refl
one_of false false true d e f g h = refl
one_of false false false true e f g h = refl
one_of false false false false true f g h = refl
one_of false false false false false true g h = refl
one_of false false false false false false true h = refl
one_of false false false false false false false true = refl
one_of false false false false false false false false = refl

pub returns : goal.returns
unfolding chromaticity_past
returns c =
    let s = c.args.s in
    let past = ltb chromaticity_steps in
    let all = s.red_x ∷ s.red_y ∷ s.green_x ∷ s.green_y ∷ s.blue_x ∷ s.blue_y ∷ s.white_x ∷ s.white_y ∷ [] in
    any_from_yields_List past _ _ c.any.result c.any.ensures.ran (YieldsList-from_slice all cc)
    (λ x b q k. search (rules, tests))
    ∙ one_of (past s.red_x) (past s.red_y) (past s.green_x) (past s.green_y) (past s.blue_x) (past s.blue_y)
    (past s.white_x) (past s.white_y)
