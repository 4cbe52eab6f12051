-- Lists of OBUs back to back with their lengths, and the bytes cut by the lengths again. Assumes nothing.
use Prim.Native.Nat.{ℕ}
use mathlib.Core.Path.{◌≡◌, refl, ap, ap₂, ◌∙◌}
use mathlib.Core.List.{List, [], ◌∷◌, ◌++◌, map, flatten}
use native.Mathlib.Omega.{arith}
use lib.ListN.{length, take, drop, length-append, length-drop, take-append-drop}
use lib.Seq.{take_at, drop_at, length-take-le}
use Rattle.lists.specs.Lists.{Bytes}
use Rattle.unit.specs.Unit.{sum, obus_of}

-- the lengths of a list and its bytes give the list back
pub obus_of_lem : (l : List Bytes) → obus_of (map length l) (flatten l) ≡ l
unfolding obus_of flatten
obus_of_lem [] = refl
obus_of_lem (b ∷ l) =
    ap₂ (λ (x : Bytes) (r : List Bytes). x ∷ r) (take_at b (flatten l) (length b) refl)
    (ap (obus_of (map length l)) (drop_at b (flatten l) (length b) refl) ∙ obus_of_lem l)

pub sum_lengths : (l : List Bytes) → sum (map length l) ≡ length (flatten l)
unfolding sum flatten
sum_lengths [] = refl
sum_lengths (b ∷ l) = omega (arith, length-append b (flatten l), sum_lengths l)

-- the other way: lengths that add up to the bytes cut them without loss
pub cut_lengths : (lens : List ℕ) (bytes : Bytes) → sum lens ≡ length bytes → map length (obus_of lens bytes) ≡ lens
unfolding obus_of sum
cut_lengths [] bytes e = refl
cut_lengths (n ∷ lens) bytes e =
    ap₂ (λ (x : ℕ) (r : List ℕ). x ∷ r) (length-take-le n bytes (omega arith))
    (cut_lengths lens (drop n bytes) (omega (arith, length-drop n bytes)))

pub cut_bytes : (lens : List ℕ) (bytes : Bytes) → sum lens ≡ length bytes → flatten (obus_of lens bytes) ≡ bytes
unfolding obus_of sum flatten
cut_bytes [] [] e = refl
cut_bytes [] (b ∷ s) e = absurd (omega arith)
cut_bytes (n ∷ lens) bytes e =
    ap (λ (r : Bytes). take n bytes ++ r) (cut_bytes lens (drop n bytes) (omega (arith, length-drop n bytes))) ∙ take-append-drop n bytes
