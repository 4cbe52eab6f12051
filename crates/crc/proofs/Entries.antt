-- The table of what each byte leaves: a row for each k, computed from what the bytes of one bit leave. Where the sixteen arms of a `match`
-- on a half of a byte meet, the half is one of sixteen numbers, and the value is that of its arm. Assumes nothing.
use Prim.Native.Nat.{ℕ, zero, suc, ◌≤◌, ◌<◌}
use mathlib.Core.Path.{◌≡◌, refl, sym, ap, ◌∙◌}
use mathlib.Core.List.{List, [], map}
use mathlib.Core.Logic.{◌⊎◌, ⊎_elim}
use native.Mathlib.Omega.{arith}
use lib.ListN.{length, get_or}
use Rattle.std.specs.List.{range_with_len}
use Rattle.std.proofs.lemmas.List.{get_or-map}
use Rattle.std.proofs.lemmas.List.FromFn.{get_or-map-range_with_len}
use Rattle.crc.specs.Parts.{left}
use Rattle.crc.proofs.Rows.{spread, rows, by_row}

-- what all bytes leave, by a row of what the bytes of one bit leave
unfoldable pub entries : List ℕ → List ℕ
entries row = map (spread row) (range_with_len 0 256)

sixteen_rows : length rows ≡ 16
unfolding rows
sixteen_rows = refl

pub of_table : (t : List (List ℕ)) (k x : ℕ) (d : List ℕ) (e : ℕ) → t ≡ map entries rows → k < 16 → x < 256
    → get_or (get_or t k d) x e ≡ left k x
unfolding entries
of_table t k x d e is small byte =
    ap (λ (l : List (List ℕ)). get_or (get_or l k d) x e) is
    ∙ ap (λ (l : List ℕ). get_or l x e) (get_or-map entries rows k [] d (omega (arith, sixteen_rows)))
    ∙ get_or-map-range_with_len (spread (get_or rows k [])) 0 256 x x e byte (omega arith)
    ∙ by_row k x small byte

-- x is none of the numbers below n
abbrev NoneBelow : ℕ → ℕ → Type 0
NoneBelow zero x = Unit {0}
NoneBelow (suc n) x = NoneBelow n x × (x ≡ n → ⊥)

none_below : (n x : ℕ) → NoneBelow n x → n ≤ x
none_below zero x h = omega arith
none_below (suc n) x h = let before = none_below n x h.0 in let other = h.1 in omega arith

pub last_number : (x : ℕ) → x < 16 → NoneBelow 15 x → x ≡ 15
last_number x small none = let from = none_below 15 x none in omega arith

-- ---- where the sixteen arms meet, v is what f has at x
module _ (f : ℕ → ℕ) (x v : ℕ) (small : x < 16) where
  -- the arm of i was taken
  abbrev Taken : ℕ → Type 0
  Taken i = (x ≡ i) × (v ≡ f i)

  pub arm : (i : ℕ) → Taken i → v ≡ f x
  arm i w = w.1 ∙ ap f (sym w.0)

  last : NoneBelow 15 x × (v ≡ f 15) → v ≡ f x
  last w = arm 15 (last_number x small w.0, w.1)

  pub at_half : {A B C D E F G H I J K L M N O Q : Type 0}
      → (A → Taken 0) → (B → Taken 1) → (C → Taken 2) → (D → Taken 3) → (E → Taken 4) → (F → Taken 5) → (G → Taken 6) → (H → Taken 7)
      → (I → Taken 8) → (J → Taken 9) → (K → Taken 10) → (L → Taken 11) → (M → Taken 12) → (N → Taken 13) → (O → Taken 14)
      → (Q → NoneBelow 15 x × (v ≡ f 15))
      → A ⊎ (B ⊎ (C ⊎ (D ⊎ (E ⊎ (F ⊎ (G ⊎ (H ⊎ (I ⊎ (J ⊎ (K ⊎ (L ⊎ (M ⊎ (N ⊎ (O ⊎ Q)))))))))))))) → v ≡ f x
  at_half t0 t1 t2 t3 t4 t5 t6 t7 t8 t9 t10 t11 t12 t13 t14 rest =
      ⊎_elim (λ w. arm 0 (t0 w)) (⊎_elim (λ w. arm 1 (t1 w)) (⊎_elim (λ w. arm 2 (t2 w)) (⊎_elim (λ w. arm 3 (t3 w))
      (⊎_elim (λ w. arm 4 (t4 w)) (⊎_elim (λ w. arm 5 (t5 w)) (⊎_elim (λ w. arm 6 (t6 w)) (⊎_elim (λ w. arm 7 (t7 w))
      (⊎_elim (λ w. arm 8 (t8 w)) (⊎_elim (λ w. arm 9 (t9 w)) (⊎_elim (λ w. arm 10 (t10 w)) (⊎_elim (λ w. arm 11 (t11 w))
      (⊎_elim (λ w. arm 12 (t12 w)) (⊎_elim (λ w. arm 13 (t13 w)) (⊎_elim (λ w. arm 14 (t14 w)) (λ w. last (rest w))))))))))))))))
