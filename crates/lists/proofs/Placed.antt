-- Laws of `placed`: what stands before and behind a string that was placed, the length, and two strings in a row. Assumes nothing.
use Prim.Native.Nat.{ℕ, ◌+◌, ◌≤◌}
use mathlib.Core.Path.{◌≡◌, sym, ap, ◌∙◌}
use mathlib.Core.List.{List, ◌++◌, append_assoc}
use native.Mathlib.Omega.{arith}
use lib.ListN.{length, take, drop, length-append, length-drop}
use lib.Seq.{length-take-le, drop-drop, take-append-add, drop-append-add, take-append_seam, drop-append_seam}
use Rattle.lists.specs.Lists.{over, placed}

module _ (out : List ℕ) (at : ℕ) (h : at ≤ length out) (w : List ℕ) where
  pub placed_front : take (at + length w) (placed out at w) ≡ take at out ++ w
  placed_front =
      ap (λ (k : ℕ). take (k + length w) (placed out at w)) (sym (length-take-le at out h))
      ∙ take-append-add (take at out) (over w (drop at out)) (length w)
      ∙ ap (λ (l : List ℕ). take at out ++ l) (take-append_seam w (drop (length w) (drop at out)))

  pub placed_back : drop (at + length w) (placed out at w) ≡ drop (length w) (drop at out)
  placed_back =
      ap (λ (k : ℕ). drop (k + length w) (placed out at w)) (sym (length-take-le at out h))
      ∙ drop-append-add (take at out) (over w (drop at out)) (length w)
      ∙ drop-append_seam w (drop (length w) (drop at out))

  pub placed_long : at + length w ≤ length out → length (placed out at w) ≡ length out
  placed_long fits =
      omega (
        arith,
        length-append (take at out) (over w (drop at out)),
        length-take-le at out h,
        length-append w (drop (length w) (drop at out)),
        length-drop (length w) (drop at out),
        length-drop at out,
      )

  pub placed_twice : (v : List ℕ) → placed (placed out at w) (at + length w) v ≡ placed out at (w ++ v)
  placed_twice v =
      let back : drop (length v) (drop (length w) (drop at out)) ≡ drop (length (w ++ v)) (drop at out) =
      drop-drop (length v) (length w) (drop at out) ∙ ap (λ (k : ℕ). drop k (drop at out)) (sym (length-append w v)) in
      ap (λ (l : List ℕ). l ++ over v (drop (at + length w) (placed out at w))) placed_front
      ∙ ap (λ (l : List ℕ). (take at out ++ w) ++ (v ++ drop (length v) l)) placed_back
      ∙ append_assoc (take at out) w (v ++ drop (length v) (drop (length w) (drop at out)))
      ∙ ap (λ (l : List ℕ). take at out ++ l)
      (sym (append_assoc w v (drop (length v) (drop (length w) (drop at out)))) ∙ ap (λ (l : List ℕ). (w ++ v) ++ l) back)
