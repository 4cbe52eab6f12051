-- Tests of each element of a list and of any two of them, one behind the other. Assumes nothing.
use Rattle.std.specs.Prelude.{Option, Some, None}
use Prim.Native.Nat.{ℕ, zero, suc, ◌<◌}
use mathlib.Core.Bool.{Bool, true, false, ◌&&◌, ◌||◌}
use mathlib.Core.Path.{◌≡◌, refl, sym, subst}
use mathlib.Core.List.{List, [], ◌∷◌}
use native.Mathlib.Omega.{arith}
use lib.Dec.{eqb}
use borrow.Author.Tests.{eqb-true, eqb-false}
use Rattle.lists.specs.Lists.{pick, any}
use Rattle.lists.proofs.Tests.{case, or_neither}
use Rattle.refusal.proofs.Verdicts.{All, all_so, none_holds}
use Rattle.sheet.specs.Reading.{any_two, any_below}

-- two tests of which each fails where the other does
pub same_test : (x y : Bool) → (x ≡ false → y ≡ false) → (y ≡ false → x ≡ false) → x ≡ y
same_test true true f g = refl
same_test false false f g = refl
same_test true false f g = g refl
same_test false true f g = sym (f refl)

pub neither : {x y : Bool} → x ≡ false → y ≡ false → (x || y) ≡ false
neither e f = rw e f

pub not_both : (x y : Bool) → (x ≡ true → y ≡ false) → (x && y) ≡ false
not_both true y h = h refl
not_both false y h = refl

-- what a value that a test picks says of the test
pub picked_none : {A : Type 0} (t : Bool) (a : A) → ◌≡◌ {A = Option A} None (pick t None (Some a)) → t ≡ true
unfolding pick
picked_none true a e = refl
picked_none false a e = let z : ◌≡◌ {A = ℕ} 0 1 = cc in absurd (omega arith)

pub picked_some : {A : Type 0} (t : Bool) (a b : A) → ◌≡◌ {A = Option A} (Some b) (pick t None (Some a)) → (t ≡ false) × (a ≡ b)
unfolding pick
picked_some true a b e = let z : ◌≡◌ {A = ℕ} 0 1 = cc in absurd (omega arith)
picked_some false a b e = (refl, cc)

-- ---- each element
pub each_by : {A : Type 0} {P Q S : A → Type 0} → ((a : A) → P a → Q a → S a) → (l : List A) → All P l → All Q l → All S l
each_by f [] h k = tt
each_by f (a ∷ l) h k = (f a h.0 k.0, each_by f l h.1 k.1)

pub none_of : {A : Type 0} (f : A → Bool) (l : List A) → All (λ a. f a ≡ false) l → any f l ≡ false
unfolding any
none_of f [] h = refl
none_of f (a ∷ l) h = neither h.0 (none_of f l h.1)

-- ---- any two
abbrev pub Pairs : {A : Type 0} → (A → A → Type 0) → List A → Type 0
Pairs R [] = Unit {0}
Pairs R (a ∷ l) = All (R a) l × Pairs R l

pub pairs_as : {A : Type 0} {R S : A → A → Type 0} → ((a b : A) → R a b → S a b) → (l : List A) → Pairs R l → Pairs S l
pairs_as f [] h = tt
pairs_as f (a ∷ l) h = (all_so l (f a) h.0, pairs_as f l h.1)

pub pairs_by : {A : Type 0} {R S T : A → A → Type 0} → ((a b : A) → R a b → S a b → T a b)
    → (l : List A) → Pairs R l → Pairs S l → Pairs T l
pairs_by f [] h k = tt
pairs_by f (a ∷ l) h k = (each_by (f a) l h.0 k.0, pairs_by f l h.1 k.1)

-- with what holds of each
pub pairs_with : {A : Type 0} {P : A → Type 0} {R S : A → A → Type 0} → ((a b : A) → P a → R a b → S a b)
    → (l : List A) → All P l → Pairs R l → Pairs S l
pairs_with f [] h k = tt
pairs_with f (a ∷ l) h k = (all_so l (λ b r. f a b h.0 r) k.0, pairs_with f l h.1 k.1)

pub no_two : {A : Type 0} (f : A → A → Bool) (l : List A) → any_two f l ≡ false → Pairs (λ a b. f a b ≡ false) l
unfolding any_two
no_two f [] e = tt
no_two f (a ∷ l) e = let h = or_neither (any (f a) l) (any_two f l) e in (none_holds (f a) l h.0, no_two f l h.1)

pub none_of_two : {A : Type 0} (f : A → A → Bool) (l : List A) → Pairs (λ a b. f a b ≡ false) l → any_two f l ≡ false
unfolding any_two
none_of_two f [] h = refl
none_of_two f (a ∷ l) h = neither (none_of (f a) l h.0) (none_of_two f l h.1)

-- ---- any number below one
pub none_below : (f : ℕ → Bool) (n : ℕ) → any_below f n ≡ false → (m : ℕ) → m < n → f m ≡ false
unfolding any_below
none_below f zero e m h = absurd (omega arith)
none_below f (suc n) e m h =
    let both = or_neither (f n) (any_below f n) e in
    case (eqb m n) (λ t. subst (λ (k : ℕ). f k ≡ false) (sym (eqb-true m n t)) both.0)
    (λ t. none_below f n both.1 m (let ne = eqb-false m n t in omega arith))

pub below_none : (f : ℕ → Bool) (n : ℕ) → ((m : ℕ) → m < n → f m ≡ false) → any_below f n ≡ false
unfolding any_below
below_none f zero h = refl
below_none f (suc n) h = neither (h n (omega arith)) (below_none f n (λ m k. h m (omega arith)))
