-- Escaping by the bytes to come: where 00 00 and a byte of 0 to 3 do not stand (`critical`) it gives the byte as it is, and so a clean
-- block as it is (`escape_keeps`); where they stand it gives the 00 00 and a 03. Assumes nothing.
use Prim.Native.Nat.{ℕ, zero, suc, ◌+◌, ◌≤◌, ◌<◌}
use mathlib.Core.Bool.{true, false}
use mathlib.Core.Path.{◌≡◌, refl, sym, ap, ap₂, subst, ◌∙◌}
use mathlib.Core.List.{[], ◌∷◌, ◌++◌}
use native.Mathlib.Omega.{arith}
use lib.ListN.{length, take, drop, get_or, length-drop}
use lib.Seq.{drop-drop}
use borrow.Author.Tests.{ne_eqb}
use Rattle.lists.specs.Lists.{Bytes}
use Rattle.lists.proofs.Tests.{case, clash}
use Rattle.lists.proofs.Parts.{next}
use Rattle.lists.proofs.Threes.{by_three, three_fits}
use Rattle.emulation.specs.Payload.{stuffed, escape, escape_after}
use Rattle.emulation.specs.Blocks.{hits, block, zeros_then}
use Rattle.emulation.specs.Parts.{critical}
use Rattle.emulation.proofs.Steps.{escape_stuffed, escape_plain}
use Rattle.emulation.proofs.Hits.{one, none_first, none_keeps, is_free}
use Rattle.emulation.proofs.Machine.{stuffed_is, stuffed_of}
use Rattle.emulation.proofs.Critical.{critical_three}
use Rattle.emulation.proofs.Zeros.{one_byte}
use Rattle.emulation.proofs.Keeping.{KeepsWithout}
use Rattle.escaping.specs.Parts.{tripled, clean, First}

-- `escape` goes by the bytes written last, of which there are none at first
-- a 03 before the byte written last counts as little as nothing before it
after_three : (q : ℕ) (s : Bytes) → escape_after 3 q s ≡ escape_after 1 q s
unfolding escape_after
after_three q [] = refl
after_three q (b ∷ s) = refl

escape_uncritical : (a : ℕ) (s : Bytes) → critical (a ∷ s) ≡ false → escape (a ∷ s) ≡ a ∷ escape s
unfolding critical escape_after
escape_uncritical a [] e = refl
escape_uncritical a (b ∷ []) e = refl
escape_uncritical a (b ∷ c ∷ s) e = ap (λ (l : Bytes). a ∷ b ∷ l) (escape_plain a b c s e)

escape_zeros : (c : ℕ) (s : Bytes) → c ≤ 3 → escape (0 ∷ 0 ∷ c ∷ s) ≡ 0 ∷ 0 ∷ 3 ∷ escape (c ∷ s)
unfolding escape_after
escape_zeros c s h =
    ap (λ (l : Bytes). 0 ∷ 0 ∷ l) (escape_stuffed 0 0 c s (stuffed_of 0 0 c refl refl h))
    ∙ ap (λ (l : Bytes). 0 ∷ 0 ∷ 3 ∷ c ∷ l) (after_three c s)

escape_critical : (l : Bytes) → critical l ≡ true → escape l ≡ 0 ∷ 0 ∷ 3 ∷ escape (drop 2 l)
unfolding critical
escape_critical =
    by_three critical_three (λ l. escape l ≡ 0 ∷ 0 ∷ 3 ∷ escape (drop 2 l))
    (λ a b c s e.
    let h = stuffed_is a b c e in
    ap₂ (λ (x y : ℕ). escape (x ∷ y ∷ c ∷ s)) h.0 h.1 ∙ escape_zeros c s h.2)

-- without a third 00, one place puts its own byte and no other
unpaired_third : (c : ℕ) (s : Bytes) → (c ≡ 0 → ⊥) → critical (0 ∷ c ∷ s) ≡ false
unfolding critical
unpaired_third c [] h = refl
unpaired_third c (d ∷ s) h = rw (ne_eqb c 0 h)

pub escape_one : (a : ℕ) (l : Bytes) → tripled (a ∷ l) ≡ false → length (escape (a ∷ l)) ≡ suc (one (critical (a ∷ l)) + length (escape l))
unfolding critical tripled
escape_one a [] e = omega (arith, ap length (escape_uncritical a [] refl))
escape_one a (b ∷ []) e = omega (arith, ap length (escape_uncritical a (b ∷ []) refl))
escape_one a (b ∷ c ∷ s) e =
    case (stuffed a b c)
    (λ t.
    let h = stuffed_is a b c t in
    let n : (c ≡ 0 → ⊥) = λ z. clash (rw (h.0, h.1, z)) e in
    let m : length (escape (b ∷ c ∷ s))
    ≡ suc (length (escape (c ∷ s))) = rw h.1 (ap length (escape_uncritical 0 (c ∷ s) (unpaired_third c s n))) in
    omega (arith, ap length (escape_critical (a ∷ b ∷ c ∷ s) t), m, ap one t))
    (λ t. omega (arith, ap length (escape_uncritical a (b ∷ c ∷ s) t), ap one t))

-- ---- at the code's place i
pub critical_fits : (s : Bytes) (i : ℕ) → i ≤ length s → critical (drop i s) ≡ true → i + 3 ≤ length s
critical_fits = three_fits critical_three

pub escape_at_critical : (s : Bytes) (i : ℕ) → critical (drop i s) ≡ true → escape (drop i s) ≡ 0 ∷ 0 ∷ 3 ∷ escape (drop (i + 2) s)
escape_at_critical s i e = escape_critical (drop i s) e ∙ rw (drop-drop 2 i s)

pub escape_at_uncritical : (s : Bytes) (i : ℕ) → i < length s → critical (drop i s) ≡ false
    → escape (drop i s) ≡ get_or s i 0 ∷ escape (drop (i + 1) s)
escape_at_uncritical s i h e = rw (next s i h) (escape_uncritical (get_or s i 0) (drop (i + 1) s) (rw (next s i h) at e))

-- ---- 00 00 00 as 00 00 and a byte of 0 to 0
tripled_at : (l : Bytes) → zeros_then 0 0 l ≡ tripled l
unfolding zeros_then tripled
tripled_at [] = refl
tripled_at (a ∷ []) = refl
tripled_at (a ∷ b ∷ []) = refl
tripled_at (a ∷ b ∷ c ∷ s) = rw (one_byte 0 c)

pub is_tripled : zeros_then 0 0 ≡ tripled
is_tripled = λ i l. tripled_at l i

-- ---- a clean block
-- what each place that is not critical keeps, a clean block keeps
pub clean_keeps : (s : Bytes) (P : ℕ → Type 0) → ((j : ℕ) → j < length s → critical (drop j s) ≡ false → P j → P (j + 1))
    → (i : ℕ) → clean (drop i s) ≡ true → P i → P (i + block)
clean_keeps s P step i e p =
    let h = is_free critical s i e in
    none_keeps critical s P step block i (omega (arith, h.0)) h.1 p

pub escape_keeps : KeepsWithout critical escape
unfolding escape_after
escape_keeps = record { three = critical_three; nothing = refl; byte = escape_uncritical }

-- ---- up to the first place at which 00 00 and a byte of 0 to 3 stand
two_zeros : (l : Bytes) → critical l ≡ true → take 2 l ≡ 0 ∷ 0 ∷ []
unfolding critical
two_zeros =
    by_three critical_three (λ l. take 2 l ≡ 0 ∷ 0 ∷ [])
    (λ a b c s e. let h = stuffed_is a b c e in ap₂ (λ (x y : ℕ). x ∷ y ∷ []) h.0 h.1)

up_to_critical : (f : ℕ) (w : Bytes) → f ≤ length w → hits critical f w ≡ 0 → critical (drop f w) ≡ true
    → escape w ≡ take (suc (suc f)) w ++ (3 ∷ escape (drop (suc (suc f)) w))
up_to_critical zero w h e t =
    escape_critical w t ∙ ap (λ (l : Bytes). l ++ (3 ∷ escape (drop 2 w))) (sym (two_zeros w t))
up_to_critical (suc f) [] h e t = absurd (omega arith)
up_to_critical (suc f) (a ∷ w) h e t =
    let m = none_first critical f a w e in
    escape_uncritical a w m.0 ∙ ap (λ (l : Bytes). a ∷ l) (up_to_critical f w (omega arith) m.1 t)

pub escape_first : (s : Bytes) (i f : ℕ) → First critical s i block f → f < block → i + f ≤ length s
    → escape (drop i s) ≡ take (f + 2) (drop i s) ++ (3 ∷ escape (drop (i + f + 2) s))
escape_first s i f a h k =
    let w : Bytes = drop i s in
    let t : critical (drop f w) ≡ true = rw drop-drop (a.there h) in
    let e : suc (suc f) ≡ f + 2 = omega arith in
    let p : i + (f + 2) ≡ i + f + 2 = omega arith in
    subst (λ (k : ℕ). escape w ≡ take k w ++ (3 ∷ escape (drop k w))) e (up_to_critical f w (omega (arith, length-drop i s)) a.none t)
    ∙ ap (λ (l : Bytes). take (f + 2) w ++ (3 ∷ escape l)) (drop-drop (f + 2) i s ∙ ap (λ (k : ℕ). drop k s) p)
