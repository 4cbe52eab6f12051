-- The strings that reading accepts as a list: the writer's, with a closing 03 after some payloads that end in 00 00. Assumes nothing.
use Prim.Native.Nat.{ℕ, ◌<◌}
use mathlib.Core.Bool.{Bool, true, false, ◌&&◌}
use mathlib.Core.Path.{◌≡◌, refl, sym, ap, subst, ◌∙◌}
use mathlib.Core.Logic.{◌⊎◌, inl, inr}
use mathlib.Core.List.{List, [], ◌∷◌, ◌++◌, map}
use native.Mathlib.Omega.{arith}
use lib.Dec.{eqb}
use lib.ListN.{length, length-append}
use Rattle.lists.specs.Lists.{Bytes}
use Rattle.lists.proofs.Tests.{case}
use Rattle.refusal.proofs.Verdicts.{All}
use Rattle.emulation.specs.Payload.{legal, unescape, escape, marked3}
use Rattle.emulation.specs.Parts.{marked}
use Rattle.emulation.proofs.Steps.{unescape_marked, unescape_plain}
use Rattle.emulation.proofs.Theorems.{unescape_escape, legal_unescape}
use Rattle.tsobu.proofs.Splits.{joined}

-- the bytes end in 00 00
unfoldable pub ends_in00 : Bytes → Bool
ends_in00 [] = false
ends_in00 (a ∷ []) = false
ends_in00 (a ∷ b ∷ []) = eqb a 0 && eqb b 0
ends_in00 (a ∷ b ∷ c ∷ s) = ends_in00 (b ∷ c ∷ s)

ends_tail : (a : ℕ) (s : Bytes) → ends_in00 (a ∷ s) ≡ false → ends_in00 s ≡ false
unfolding ends_in00
ends_tail a [] e = refl
ends_tail a (b ∷ []) e = refl
ends_tail a (b ∷ c ∷ s) e = e

-- a 03 behind anything else is given, not dropped
unescape_closing : (q : Bytes) → ends_in00 q ≡ false → unescape (q ++ (3 ∷ [])) ≡ unescape q ++ (3 ∷ [])
unfolding ends_in00 unescape
unescape_closing [] e = refl
unescape_closing (a ∷ []) e = refl
unescape_closing (a ∷ b ∷ []) e =
    unescape_plain a (b ∷ 3 ∷ []) (unfold marked in (rw e))
unescape_closing (a ∷ b ∷ c ∷ s) e =
    case (marked3 a b c)
    (λ m.
    unescape_marked (a ∷ b ∷ c ∷ s ++ (3 ∷ [])) (unfold marked in m)
    ∙ ap (λ (l : Bytes). 0 ∷ 0 ∷ l) (unescape_closing s (ends_tail c s (ends_tail b (c ∷ s) e)))
    ∙ ap (λ (l : Bytes). l ++ (3 ∷ [])) (sym (unescape_marked (a ∷ b ∷ c ∷ s) (unfold marked in m))))
    (λ m.
    unescape_plain a (b ∷ c ∷ s ++ (3 ∷ [])) (unfold marked in m)
    ∙ ap (λ (l : Bytes). a ∷ l) (unescape_closing (b ∷ c ∷ s) e)
    ∙ ap (λ (l : Bytes). l ++ (3 ∷ [])) (sym (unescape_plain a (b ∷ c ∷ s) (unfold marked in m))))

-- the payloads of the OBUs of a list: escaped, some of those that end in 00 00 with a closing 03
pub data Closings : List Bytes → List Bytes → Type 0 where
  nothing : Closings [] []
  plain : (obu : Bytes) {l ps : List Bytes} → Closings l ps → Closings (obu ∷ l) (escape obu ∷ ps)
  closing : (obu : Bytes) {l ps : List Bytes} → ends_in00 (escape obu) ≡ true → Closings l ps
      → Closings (obu ∷ l) ((escape obu ++ (3 ∷ [])) ∷ ps)

pub closing_ends : (p obu : Bytes) → unescape p ≡ obu → p ≡ escape obu ++ (3 ∷ []) → ends_in00 (escape obu) ≡ true
closing_ends p obu u e =
    case (ends_in00 (escape obu))
    (λ t. t)
    (λ t.
    let w : obu ≡ obu ++ (3 ∷ []) =
    sym u ∙ ap unescape e ∙ unescape_closing (escape obu) t ∙ ap (λ (l : Bytes). l ++ (3 ∷ [])) (unescape_escape obu) in
    absurd (omega (arith, ap length w, length-append obu (3 ∷ []))))

one_payload : (p : Bytes) (l ps : List Bytes) → (p ≡ escape (unescape p)) ⊎ (p ≡ escape (unescape p) ++ (3 ∷ [])) → Closings l ps
    → Closings (unescape p ∷ l) (p ∷ ps)
one_payload p l ps (inl e) h = subst (λ (q : Bytes). Closings (unescape p ∷ l) (q ∷ ps)) (sym e) (plain (unescape p) h)
one_payload p l ps (inr e) h =
    subst (λ (q : Bytes). Closings (unescape p ∷ l) (q ∷ ps)) (sym e) (closing (unescape p) (closing_ends p (unescape p) refl e) h)

pub closings : (ps : List Bytes) → All (λ p. legal p ≡ true) ps → Closings (map unescape ps) ps
closings [] h = nothing
closings (p ∷ ps) h = one_payload p (map unescape ps) ps (legal_unescape p (unescape p) h.0 refl) (closings ps h.1)

-- the writer's payloads are the shortest
abbrev Shortest : List Bytes → List Bytes → Type 0
Shortest l ps = (joined ps ≡ joined (map escape l)) ⊎ (length (joined (map escape l)) < length (joined ps))

longer_plain : (p : Bytes) (l ps : List Bytes) → Shortest l ps
    → (joined (p ∷ ps) ≡ 0 ∷ 0 ∷ 1 ∷ p ++ joined (map escape l))
    ⊎ (length (0 ∷ 0 ∷ 1 ∷ p ++ joined (map escape l)) < length (joined (p ∷ ps)))
unfolding joined
longer_plain p l ps (inl e) = inl (ap (λ (s : Bytes). 0 ∷ 0 ∷ 1 ∷ p ++ s) e)
longer_plain p l ps (inr e) = inr (omega (arith, length-append p (joined ps), length-append p (joined (map escape l))))

longer_closing : (p : Bytes) (l ps : List Bytes) → Shortest l ps
    → length (0 ∷ 0 ∷ 1 ∷ p ++ joined (map escape l)) < length (joined ((p ++ (3 ∷ [])) ∷ ps))
unfolding joined
longer_closing p l ps (inl e) = simp length-append (omega (arith, ap length e))
longer_closing p l ps (inr e) = simp length-append (omega arith)

pub shortest : {l ps : List Bytes} → Closings l ps
    → (joined ps ≡ joined (map escape l)) ⊎ (length (joined (map escape l)) < length (joined ps))
unfolding joined
shortest nothing = inl refl
shortest (plain obu {l = l} {ps = ps} h) = longer_plain (escape obu) l ps (shortest h)
shortest (closing obu {l = l} {ps = ps} e h) = inr (longer_closing (escape obu) l ps (shortest h))
