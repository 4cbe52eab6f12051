-- The writer's form of a legal payload is the payload, but for a closing 03 (`rewritten`). Assumes nothing.
use Prim.Native.Nat.{ℕ, suc, ◌-◌}
use Rattle.std.specs.List.{ends_with}
use Rattle.std.specs.Cmp.Lexicographic.{pointwise}
use mathlib.Core.Bool.{Bool, true, false, ◌&&◌, and-false}
use mathlib.Core.Path.{◌≡◌, refl, sym, ap, ◌∙◌}
use mathlib.Core.Logic.{◌⊎◌, inl, inr}
use mathlib.Core.List.{[], ◌∷◌, ◌++◌}
use native.Mathlib.Omega.{arith}
use borrow.Author.Tests.{eq-eqb, ne_eqb, eqb-true, eqb-false}
use lib.Dec.{eqb}
use lib.ListN.{length, take, drop, length-append}
use lib.Seq.{take_at}
use Rattle.lists.specs.Lists.{Bytes, pick}
use Rattle.lists.proofs.Tests.{case}
use Rattle.emulation.specs.Payload.{legal, unescape, escape, escape_after, stuffed, marked3}
use Rattle.emulation.proofs.Machine.{unmarked_of_plain, three_apart}
use Rattle.emulation.proofs.Theorems.{legal_unescape}
use Rattle.unit.proofs.Closings.{ends_in00, closing_ends}
use Rattle.salvage.specs.Salvage.{closes}

-- ---- a form that ends in 00 00 closes with a 03 behind it
skip_one : (a b c : ℕ) (s : Bytes) → closes (a ∷ b ∷ c ∷ s ++ (3 ∷ [])) ≡ closes (b ∷ c ∷ s ++ (3 ∷ []))
unfolding closes
skip_one a b c [] = refl
skip_one a b c (d ∷ s) = refl

closes_after : (q : Bytes) → ends_in00 q ≡ true → closes (q ++ (3 ∷ [])) ≡ true
unfolding ends_in00 closes
closes_after [] e = e
closes_after (a ∷ []) e = e
closes_after (a ∷ b ∷ []) e = rw e
closes_after (a ∷ b ∷ c ∷ s) e = skip_one a b c s ∙ closes_after (b ∷ c ∷ s) e

-- ---- no writer's form closes
open_step : (a b c : ℕ) (s : Bytes) → marked3 a b c ≡ false → closes (b ∷ c ∷ s) ≡ false → closes (a ∷ b ∷ c ∷ s) ≡ false
unfolding closes
open_step a b c [] e h = e
open_step a b c (d ∷ s) e h = h

-- after two bytes p and q, what is written (with them before it) does not close
form_open : (p q : ℕ) (s : Bytes) → closes (p ∷ q ∷ escape_after p q s) ≡ false
unfolding escape_after closes
form_open p q [] = refl
form_open p q (b ∷ s) =
    let more3 = form_open 3 b s in
    let more = form_open q b s in
    case (stuffed p q b)
    (λ e. rw (e, escape_after) (open_step q 3 b (escape_after 3 b s) (three_apart q b) more3))
    (λ e. rw (e, escape_after) (open_step p q b (escape_after q b s) (unmarked_of_plain p q b e) more))

front_off : (s : Bytes) → closes (1 ∷ 1 ∷ s) ≡ false → closes s ≡ false
unfolding closes
front_off [] e = refl
front_off (a ∷ []) e = refl
front_off (a ∷ b ∷ []) e = refl
front_off (a ∷ b ∷ c ∷ s) e = e

pub escape_open : (b : Bytes) → closes (escape b) ≡ false
escape_open b = front_off (escape b) (form_open 1 1 b)

-- ---- the writer's form of a legal payload
by_form : (p : Bytes) → (p ≡ escape (unescape p)) ⊎ (p ≡ escape (unescape p) ++ (3 ∷ []))
    → escape (unescape p) ≡ pick (closes p) (take (length p - 1) p) p
unfolding pick
by_form p (inl e) = let shut : closes p ≡ false = ap closes e ∙ escape_open (unescape p) in rw shut (sym e)
by_form p (inr e) =
    let b : Bytes = escape (unescape p) in
    let shut : closes p ≡ true = ap closes e ∙ closes_after b (closing_ends p (unescape p) refl e) in
    let n : length b ≡ length p - 1 = omega (arith, ap length e, length-append b (3 ∷ [])) in
    rw shut (sym (ap (take (length p - 1)) e ∙ take_at b (3 ∷ []) (length p - 1) n))

-- a payload that is a form with a 03 behind it closes
pub closes_with : (p : Bytes) → p ≡ escape (unescape p) ++ (3 ∷ []) → closes p ≡ true
closes_with p e = ap closes e ∙ closes_after (escape (unescape p)) (closing_ends p (unescape p) refl e)

pub rewritten : (p : Bytes) → legal p ≡ true → escape (unescape p) ≡ pick (closes p) (take (length p - 1) p) p
rewritten p l = by_form p (legal_unescape p (unescape p) l refl)

-- ---- by the last three bytes
swap : (m n : ℕ) → eqb m n ≡ eqb n m
swap m n =
    case (eqb m n)
    (λ e. e ∙ sym (eq-eqb n m (sym (eqb-true m n e))))
    (λ e. e ∙ sym (ne_eqb n m (λ h. eqb-false m n e (sym h))))

joined : (x y z : Bool) → (x && (y && (z && true))) ≡ (x && y && z)
joined false y z = refl
joined true false z = refl
joined true true false = refl
joined true true true = refl

last_three : (a b c : ℕ) → ends_with eqb (a ∷ b ∷ c ∷ []) (0 ∷ 0 ∷ 3 ∷ []) ≡ marked3 a b c
last_three a b c = rw (swap a 0, swap b 0, swap c 3) (joined (eqb 0 a) (eqb 0 b) (eqb 3 c))

pub closes_ends : (p : Bytes) → ends_with eqb p (0 ∷ 0 ∷ 3 ∷ []) ≡ closes p
unfolding closes
closes_ends [] = refl
closes_ends (a ∷ []) = and-false (eqb 0 a)
closes_ends (a ∷ b ∷ []) = ap (λ (t : Bool). eqb 0 a && t) (and-false (eqb 0 b)) ∙ and-false (eqb 0 a)
closes_ends (a ∷ b ∷ c ∷ []) = last_three a b c
closes_ends (a ∷ b ∷ c ∷ d ∷ s) =
    let one : length (a ∷ b ∷ c ∷ d ∷ s) - 3 ≡ suc (length (b ∷ c ∷ d ∷ s) - 3) = omega arith in
    ap (λ (n : ℕ). pointwise eqb (0 ∷ 0 ∷ 3 ∷ []) (drop n (a ∷ b ∷ c ∷ d ∷ s))) one ∙ closes_ends (b ∷ c ∷ d ∷ s)
