-- Unescaping and legality once more, a byte at a time, by the payload bytes that came last. `specs/Payload.antt` looks ahead and these look
-- back, so that they go in step with `escape_after`; each is proved to be what the specs say. Assumes nothing.
use Prim.Native.Nat.{ℕ, ◌≤◌}
use mathlib.Core.Bool.{Bool, true, false, not, ◌&&◌, ◌||◌, and-false, or-false, or-true}
use mathlib.Core.Path.{◌≡◌, refl, sym, ap, ◌∙◌}
use mathlib.Core.List.{List, [], ◌∷◌}
use native.Mathlib.Omega.{arith}
use borrow.Author.Tests.{eqb-true, eqb-false, leb-true, le-leb, ltb-false, le-ltb, not-true}
use lib.Dec.{leb, ltb, eqb}
use Rattle.lists.proofs.Tests.{case, clash, and_both}
use Rattle.emulation.specs.Payload.{stuffed, marked3, unescape, forbidden, above3, legal}
use Rattle.emulation.specs.Parts.{marked}
use Rattle.emulation.proofs.Steps.{marked_is, unescape_plain, unescape_marked}

pub stuffed_is : (p q b : ℕ) → stuffed p q b ≡ true → (p ≡ 0) × (q ≡ 0) × (b ≤ 3)
stuffed_is a b c e =
    let h = and_both (eqb a 0 && eqb b 0) (leb c 3) e in
    let k = and_both (eqb a 0) (eqb b 0) h.0 in
    (eqb-true a 0 k.0, eqb-true b 0 k.1, leb-true c 3 h.1)

pub stuffed_of : (p q b : ℕ) → p ≡ 0 → q ≡ 0 → b ≤ 3 → stuffed p q b ≡ true
stuffed_of p q b hp hq hb = rw (hp, hq) (le-leb b 3 hb)

pub marked_of : (p q b : ℕ) → p ≡ 0 → q ≡ 0 → b ≡ 3 → marked3 p q b ≡ true
marked_of p q b hp hq hb = rw (hp, hq, hb)

pub unmarked_of_plain : (p q b : ℕ) → stuffed p q b ≡ false → marked3 p q b ≡ false
unmarked_of_plain p q b e =
    case (marked3 p q b)
    (λ m. let h = marked_is p q b m in
    clash (stuffed_of p q b h.0 h.1 (omega arith)) e)
    (λ m. m)

-- unescaping, where p and q are the payload bytes that came last
pub unescape_after : ℕ → ℕ → List ℕ → List ℕ
unescape_after p q [] = []
unescape_after p q (b ∷ s) = elim (marked3 p q b) [ true ↦ unescape_after 0 3 s | false ↦ b ∷ unescape_after q b s ]

pub drops : (p q b : ℕ) (s : List ℕ) → marked3 p q b ≡ true → unescape_after p q (b ∷ s) ≡ unescape_after 0 3 s
unfolding unescape_after
drops p q b s e = rw (e, unescape_after)

pub gives : (p q b : ℕ) (s : List ℕ) → marked3 p q b ≡ false → unescape_after p q (b ∷ s) ≡ b ∷ unescape_after q b s
unfolding unescape_after
gives p q b s e = rw (e, unescape_after)

pub nothing : (p q : ℕ) → unescape_after p q [] ≡ []
unfolding unescape_after
nothing p q = refl

-- legality, where o, p and q are the payload bytes that came last
pub bad : ℕ → ℕ → ℕ → ℕ → Bool
bad o p q b = (eqb p 0 && eqb q 0 && leb b 2) || (marked3 o p q && ltb 3 b)

pub legal_after : ℕ → ℕ → ℕ → List ℕ → Bool
legal_after o p q [] = true
legal_after o p q (b ∷ s) = not (bad o p q b) && legal_after p q b s

pub good_step : (o p q b : ℕ) (s : List ℕ) → bad o p q b ≡ false → legal_after o p q (b ∷ s) ≡ legal_after p q b s
unfolding legal_after
good_step o p q b s e = rw e

pub step_good : (o p q b : ℕ) (s : List ℕ) → legal_after o p q (b ∷ s) ≡ true → (bad o p q b ≡ false) × (legal_after p q b s ≡ true)
unfolding legal_after
step_good o p q b s e =
    let h = and_both (not (bad o p q b)) (legal_after p q b s) e in
    (not-true (bad o p q b) h.0, h.1)

-- a place where a 03 was just put, and a place after it
pub bad_not : (o p q b : ℕ) → marked3 o p q ≡ false → (eqb p 0 && eqb q 0 && leb b 2) ≡ false → bad o p q b ≡ false
unfolding bad
bad_not o p q b m e = rw (m, e)

pub bad_three : (o p q : ℕ) → marked3 o p q ≡ false → bad o p q 3 ≡ false
bad_three o p q m = bad_not o p q 3 m (and-false (eqb p 0 && eqb q 0))

pub three_apart : (q b : ℕ) → marked3 q 3 b ≡ false
three_apart q b = rw (and-false (eqb q 0))

pub bad_after_three : (p q b : ℕ) → b ≤ 3 → bad p q 3 b ≡ false
unfolding bad
bad_after_three p q b h = rw (and-false (eqb q 0), le-ltb 3 b h, and-false (marked3 p q 3))

pub bad_plain : (o p q b : ℕ) → marked3 o p q ≡ false → stuffed p q b ≡ false → bad o p q b ≡ false
bad_plain o p q b m e =
    bad_not o p q b m
    (case (eqb p 0 && eqb q 0 && leb b 2)
    (λ t.
    let h = and_both (eqb p 0 && eqb q 0) (leb b 2) t in
    let k = and_both (eqb p 0) (eqb q 0) h.0 in
    let l = leb-true b 2 h.1 in
    clash (stuffed_of p q b (eqb-true p 0 k.0) (eqb-true q 0 k.1) (omega arith)) e)
    (λ t. t))

-- ---- `unescape_after` is `unescape`
unmarked_first : (p q c : ℕ) → (p ≡ 0 → ⊥) → marked3 p q c ≡ false
unmarked_first p q c h = case (marked3 p q c) (λ m. absurd (h (marked_is p q c m).0)) (λ m. m)

unmarked_second : (p q c : ℕ) → (q ≡ 0 → ⊥) → marked3 p q c ≡ false
unmarked_second p q c h = case (marked3 p q c) (λ m. absurd (h (marked_is p q c m).1)) (λ m. m)

unmarked_third : (p q c : ℕ) → (c ≡ 3 → ⊥) → marked3 p q c ≡ false
unmarked_third p q c h = case (marked3 p q c) (λ m. absurd (h (marked_is p q c m).2)) (λ m. m)

plain1 : (c : ℕ) (s : List ℕ) → (c ≡ 0 → ⊥) → unescape (c ∷ s) ≡ c ∷ unescape s
unfolding marked
plain1 c [] h = unescape_plain c [] refl
plain1 c (d ∷ []) h = unescape_plain c (d ∷ []) refl
plain1 c (d ∷ e ∷ s) h = unescape_plain c (d ∷ e ∷ s) (unmarked_first c d e h)

plain2 : (c : ℕ) (s : List ℕ) → (c ≡ 0 → ⊥) → unescape (0 ∷ c ∷ s) ≡ 0 ∷ c ∷ unescape s
unfolding marked
plain2 c [] h = unescape_plain 0 (c ∷ []) refl ∙ ap (λ (l : List ℕ). 0 ∷ l) (plain1 c [] h)
plain2 c (d ∷ s) h = unescape_plain 0 (c ∷ d ∷ s) (unmarked_second 0 c d h) ∙ ap (λ (l : List ℕ). 0 ∷ l) (plain1 c (d ∷ s) h)

-- with no zero, one zero and two zeros before
pub record Same (s : List ℕ) : Type 0 where
  pub none : (p q : ℕ) → (q ≡ 0 → ⊥) → unescape s ≡ unescape_after p q s
  pub one : (p : ℕ) → (p ≡ 0 → ⊥) → unescape (0 ∷ s) ≡ 0 ∷ unescape_after p 0 s
  pub two : unescape (0 ∷ 0 ∷ s) ≡ 0 ∷ 0 ∷ unescape_after 0 0 s

same_step : (c : ℕ) (s : List ℕ) → Same s → Same (c ∷ s)
same_step c s h =
    let none : (q : ℕ) → (q ≡ 0 → ⊥) → unescape (c ∷ s) ≡ c ∷ unescape_after q c s =
    λ q n. case (eqb c 0) (λ e. rw (eqb-true c 0 e) (h.one q n))
    (λ e. plain1 c s (eqb-false c 0 e) ∙ ap (λ (l : List ℕ). c ∷ l) (h.none q c (eqb-false c 0 e))) in
    let one : unescape (0 ∷ c ∷ s) ≡ 0 ∷ c ∷ unescape_after 0 c s =
    case (eqb c 0) (λ e. rw (eqb-true c 0 e) h.two)
    (λ e. plain2 c s (eqb-false c 0 e) ∙ ap (λ (l : List ℕ). 0 ∷ c ∷ l) (h.none 0 c (eqb-false c 0 e))) in
    record {
      none = λ p q n. none q n ∙ sym (gives p q c s (unmarked_second p q c n));
      one = λ p n. one ∙ ap (λ (l : List ℕ). 0 ∷ l) (sym (gives p 0 c s (unmarked_first p 0 c n)));
      two =
          case (eqb c 3)
          (λ e. rw (eqb-true c 3 e) (unescape_marked (0 ∷ 0 ∷ 3 ∷ s) (unfold marked in refl)
          ∙ ap (λ (l : List ℕ). 0 ∷ 0 ∷ l) (h.none 0 3 (λ z. absurd (omega arith)) ∙ sym (drops 0 0 3 s refl))))
          (λ e. unescape_plain 0 (0 ∷ c ∷ s) (unfold marked in e) ∙ ap (λ (l : List ℕ). 0 ∷ l) one
          ∙ ap (λ (l : List ℕ). 0 ∷ 0 ∷ l) (sym (gives 0 0 c s (unmarked_third 0 0 c (eqb-false c 3 e)))));
    }

same_nil : Same []
unfolding unescape unescape_after
same_nil = record { none = λ p q h. refl; one = λ p h. refl; two = refl }

pub same : (s : List ℕ) → Same s
same [] = same_nil
same (c ∷ s) = same_step c s (same s)

pub unescape_is : (s : List ℕ) → unescape s ≡ unescape_after 1 1 s
unescape_is s = (same s).none 1 1 (λ z. absurd (omega arith))

-- ---- `legal_after` is `legal`
regroup : (A Q E X B L : Bool) → not (A && (Q || (E && X))) && (not B && L) ≡ not (A && Q) && (not (B || (A && E && X)) && L)
regroup true true E X B L = refl
regroup true false true true true L = refl
regroup true false true true false L = refl
regroup true false true false true L = refl
regroup true false true false false L = refl
regroup true false false X true L = refl
regroup true false false X false L = refl
regroup false Q E X true L = refl
regroup false Q E X false L = refl

legal_same : (o p q : ℕ) (s : List ℕ) → legal (o ∷ p ∷ q ∷ s) ≡ not (eqb o 0 && eqb p 0 && leb q 2) && legal_after o p q s
unfolding legal legal_after forbidden above3 bad
legal_same o p q [] = simp (and-false, or-false)
legal_same o p q (x ∷ s) =
    ap (λ (t : Bool). not (eqb o 0 && eqb p 0 && (leb q 2 || (eqb q 3 && ltb 3 x))) && t) (legal_same p q x s)
    ∙ regroup (eqb o 0 && eqb p 0) (leb q 2) (eqb q 3) (ltb 3 x) (eqb p 0 && eqb q 0 && leb x 2) (legal_after p q x s)

legal_one : (s : List ℕ) → legal (1 ∷ s) ≡ legal s
unfolding legal forbidden
legal_one [] = refl
legal_one (b ∷ []) = refl
legal_one (b ∷ c ∷ s) = refl

pub legal_is : (s : List ℕ) → legal s ≡ legal_after 1 1 1 s
legal_is s = sym (legal_one s) ∙ sym (legal_one (1 ∷ s)) ∙ sym (legal_one (1 ∷ 1 ∷ s)) ∙ legal_same 1 1 1 s

pub legal_nothing : (o p q : ℕ) → legal_after o p q [] ≡ true
unfolding legal_after
legal_nothing o p q = refl

-- a byte that is neither bad nor dropped gets no 03 before it
bad_of : (o p q b : ℕ) → p ≡ 0 → q ≡ 0 → b ≤ 2 → bad o p q b ≡ true
unfolding bad
bad_of o p q b hp hq hb = rw (hp, hq, le-leb b 2 hb)

pub plain_of_good : (o p q b : ℕ) → bad o p q b ≡ false → marked3 p q b ≡ false → stuffed p q b ≡ false
plain_of_good o p q b g k =
    case (stuffed p q b)
    (λ e.
    let h = stuffed_is p q b e in
    case (eqb b 3)
    (λ t. clash (marked_of p q b h.0 h.1 (eqb-true b 3 t)) k)
    (λ t. let n = eqb-false b 3 t in clash (bad_of o p q b h.0 h.1 (omega arith)) g))
    (λ e. e)

-- what follows a dropped 03 is at most 3
pub small_after : (p q b x : ℕ) → marked3 p q b ≡ true → bad p q b x ≡ false → x ≤ 3
unfolding bad
small_after p q b x k g =
    case (ltb 3 x)
    (λ e.
    let z : bad p q b x ≡ true = rw (k, e) (or-true (eqb q 0 && eqb b 0 && leb x 2)) in clash z g)
    (λ e. ltb-false 3 x e)
