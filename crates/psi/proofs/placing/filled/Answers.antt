-- The library's `all` recurses over a list as `all` of lists does.
use Prim.Native.Nat.{ℕ}
use mathlib.Core.Bool.{◌&&◌}
use mathlib.Core.Path.{◌≡◌, refl, ap, ◌∙◌}
use mathlib.Core.List.{List, [], ◌∷◌}
use lib.Dec.{eqb}
use Rattle.std.proofs.Common.{rules, tests}
use Rattle.std.proofs.lemmas.Iterator.{YieldsList-from_slice}
use Rattle.std.proofs.lemmas.Iterator.Search.{all_from_yields_List}
use Rattle.std.specs.List.{list_all}
use Rattle.lists.specs.Lists.{all}
use Rattle.psi.proofs.placing.filled.Goals as goal

all_same : (s : List ℕ) → list_all (eqb 0xFF) s ≡ all (eqb 0xFF) s
unfolding all
all_same [] = refl
all_same (x ∷ s) = ap (λ b. eqb 0xFF x && b) (all_same s)

pub returns : goal.returns
returns c =
    all_from_yields_List (eqb 0xFF) _ _ c.all.result c.all.ensures.ran (YieldsList-from_slice c.args.rest.now cc)
    (λ x b q k. search (rules, tests))
    ∙ all_same c.args.rest.now
