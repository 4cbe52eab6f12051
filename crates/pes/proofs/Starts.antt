-- That two strings are equal, as std compares slices. Assumes nothing.
use Prim.Native.Nat.{ℕ}
use mathlib.Core.Path.{◌≡◌, refl}
use mathlib.Core.List.{[], ◌∷◌}
use native.Mathlib.Omega.{arith}
use lib.Dec.{eqb}
use lib.Pointwise.{pointwise}
use Rattle.std.proofs.lemmas.Bool.Decides.{nat_tests}
use Rattle.lists.specs.Lists.{Bytes, same}

eqb_swapped : (a b : ℕ) → eqb a b ≡ eqb b a
eqb_swapped a b = grind (arith, nat_tests)

pub same_by_elements : (s t : Bytes) → same s t ≡ pointwise eqb t s
unfolding same
same_by_elements [] [] = refl
same_by_elements [] (b ∷ t) = refl
same_by_elements (a ∷ s) [] = refl
same_by_elements (a ∷ s) (b ∷ t) = rw (eqb_swapped a b, same_by_elements s t)
