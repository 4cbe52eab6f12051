-- The writer's string: splitting it gives the escaped OBUs back. Assumes nothing.
use mathlib.Core.Bool.{true}
use mathlib.Core.Path.{◌≡◌, refl, ap, ◌∙◌}
use mathlib.Core.List.{List, [], ◌∷◌, ◌++◌, map}
use Rattle.lists.specs.Lists.{Bytes}
use Rattle.refusal.proofs.Verdicts.{All}
use Rattle.emulation.specs.Payload.{legal, escape}
use Rattle.emulation.proofs.Theorems.{escape_legal}
use Rattle.tsobu.specs.StartCodes.{split}
use Rattle.tsobu.proofs.Splits.{joined, parts, split_joined}
use Rattle.unit.specs.Unit.{carried}

pub carried_joined : (l : List Bytes) → carried l ≡ joined (map escape l)
unfolding carried joined
carried_joined [] = refl
carried_joined (b ∷ l) = ap (λ (s : Bytes). 0 ∷ 0 ∷ 1 ∷ escape b ++ s) (carried_joined l)

pub escaped_legal : (l : List Bytes) → All (λ p. legal p ≡ true) (map escape l)
escaped_legal [] = tt
escaped_legal (b ∷ l) = (escape_legal b, escaped_legal l)

-- `split` gives the escaped OBUs back
pub split_carried : (l : List Bytes) → split (carried l) ≡ parts [] (map escape l)
split_carried l = ap split (carried_joined l) ∙ split_joined (map escape l) (escaped_legal l)
