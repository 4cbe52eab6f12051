-- The laws of payloads. Of escaping: what it gives is legal (`escape_legal`), unescaping undoes it (`unescape_escape`), it is the only
-- legal payload but for a 03 at the end (`legal_unescape`), and its length (`escape_length`, `inserted_bound`, `escape_longer`). Of
-- unescaping: what it drops (`dropped_is`), and that something is left (`unescape_some`). Of legality: at no place a forbidden sequence
-- begins (`legal_everywhere`). Assumes nothing.
use Prim.Native.Nat.{ℕ, zero, suc, ◌+◌, ◌-◌, ◌*◌, ◌/◌, ◌≤◌, ◌<◌}
use mathlib.Core.Bool.{Bool, true, false, not, ◌&&◌}
use mathlib.Core.Path.{◌≡◌, refl, sym, ap, ap₂, ◌∙◌}
use mathlib.Core.List.{[], ◌∷◌, ◌++◌}
use mathlib.Core.Logic.{◌⊎◌, inl, inr, ⊎_map, ◌↔◌}
use native.Mathlib.Omega.{arith}
use borrow.Author.Tests.{not-true}
use lib.ListN.{length, drop}
use lib.Dec.{eqb}
use Rattle.lists.specs.Lists.{Bytes}
use Rattle.lists.proofs.Tests.{case, and_both}
use Rattle.emulation.specs.Payload.{stuffed, escape, escape_after, inserted, marked3, unescape, dropped, forbidden, legal}
use Rattle.emulation.specs.Parts.{marked}
use Rattle.emulation.proofs.Steps.{marked_is, escape_stuffed, escape_plain, dropped_marked, dropped_plain, given_or_dropped}
use Rattle.emulation.proofs.Machine.{stuffed_is, stuffed_of, marked_of, unmarked_of_plain, unescape_after, drops, gives, nothing}
use Rattle.emulation.proofs.Machine.{unescape_is, legal_after, good_step, step_good, bad_three, three_apart, bad_after_three}
use Rattle.emulation.proofs.Machine.{bad_plain, legal_is, legal_nothing, plain_of_good, small_after}

-- unescaping undoes escaping, from any two bytes on
back : (p q : ℕ) (s : Bytes) → unescape_after p q (escape_after p q s) ≡ s
unfolding escape_after
back p q [] = nothing p q
back p q (b ∷ s) =
    case (stuffed p q b)
    (λ e.
    let h = stuffed_is p q b e in
    rw (escape_stuffed p q b s e)
    (drops p q 3 (b ∷ escape_after 3 b s) (marked_of p q 3 h.0 h.1 refl)
    ∙ gives 0 3 b (escape_after 3 b s) refl ∙ ap (λ (l : Bytes). b ∷ l) (back 3 b s)))
    (λ e.
    rw (escape_plain p q b s e)
    (gives p q b (escape_after q b s) (unmarked_of_plain p q b e) ∙ ap (λ (l : Bytes). b ∷ l) (back q b s)))

pub unescape_escape : (b : Bytes) → unescape (escape b) ≡ b
unescape_escape b = unescape_is (escape b) ∙ back 1 1 b

-- what escaping gives is legal, from any three bytes on that are not 00 00 03
fine : (o p q : ℕ) (s : Bytes) → marked3 o p q ≡ false → legal_after o p q (escape_after p q s) ≡ true
unfolding escape_after
fine o p q [] m = legal_nothing o p q
fine o p q (b ∷ s) m =
    case (stuffed p q b)
    (λ e.
    rw (escape_stuffed p q b s e)
    (good_step o p q 3 (b ∷ escape_after 3 b s) (bad_three o p q m)
    ∙ good_step p q 3 b (escape_after 3 b s) (bad_after_three p q b (stuffed_is p q b e).2) ∙ fine q 3 b s (three_apart q b)))
    (λ e.
    rw (escape_plain p q b s e)
    (good_step o p q b (escape_after q b s) (bad_plain o p q b m e) ∙ fine p q b s (unmarked_of_plain p q b e)))

pub escape_legal : (b : Bytes) → legal (escape b) ≡ true
escape_legal b = legal_is (escape b) ∙ fine 1 1 1 b refl

-- a legal payload is the escaped form of what it unescapes to, perhaps with a 03 at the end
abbrev Only : ℕ → ℕ → Bytes → Type 0
Only p q t = (t ≡ escape_after p q (unescape_after p q t)) ⊎ (t ≡ escape_after p q (unescape_after p q t) ++ (3 ∷ []))

-- one byte that is neither put nor dropped
grow : (p q b : ℕ) (t : Bytes) → stuffed p q b ≡ false → Only q b t → Only p q (b ∷ t)
grow p q b t e h =
    let g : escape_after p q (unescape_after p q (b ∷ t)) ≡ b ∷ escape_after q b (unescape_after q b t) =
    ap (escape_after p q) (gives p q b t (unmarked_of_plain p q b e)) ∙ escape_plain p q b (unescape_after q b t) e in
    rw g (⊎_map (λ w. ap (λ (l : Bytes). b ∷ l) w) (λ w. ap (λ (l : Bytes). b ∷ l) w) h)

-- a 03 that is dropped, and the byte after it
grow3 : (x : ℕ) (t : Bytes) → x ≤ 3 → Only 3 x t → Only 0 0 (3 ∷ x ∷ t)
grow3 x t k h =
    let g : escape_after 0 0 (unescape_after 0 0 (3 ∷ x ∷ t)) ≡ 3 ∷ x ∷ escape_after 3 x (unescape_after 3 x t) =
    ap (escape_after 0 0) (drops 0 0 3 (x ∷ t) refl ∙ gives 0 3 x t refl)
    ∙ escape_stuffed 0 0 x (unescape_after 3 x t) (stuffed_of 0 0 x refl refl k) in
    rw g (⊎_map (λ w. ap (λ (l : Bytes). 3 ∷ x ∷ l) w) (λ w. ap (λ (l : Bytes). 3 ∷ x ∷ l) w) h)

last3 : Only 0 0 (3 ∷ [])
last3 = inr (rw (drops 0 0 3 [] refl, nothing 0 3) (unfold escape_after in refl))

only : (o p q : ℕ) (t : Bytes) → marked3 o p q ≡ false → legal_after o p q t ≡ true → Only p q t
only o p q [] m l = inl (rw (nothing p q) (unfold escape_after in refl))
only o p q (b ∷ []) m l =
    case (marked3 p q b)
    (λ k. let h = marked_is p q b k in rw (h.0, h.1, h.2) last3)
    (λ k. grow p q b [] (plain_of_good o p q b (step_good o p q b [] l).0 k) (inl (rw (nothing q b) (unfold escape_after in refl))))
only o p q (b ∷ x ∷ t) m l =
    case (marked3 p q b)
    (λ k.
    let h = marked_is p q b k in
    let r = step_good p q b x t (step_good o p q b (x ∷ t) l).1 in
    rw (h.0, h.1, h.2) (grow3 x t (small_after p q b x k r.0) (only 0 3 x t refl (rw (h.1, h.2) at r.1))))
    (λ k.
    let good = step_good o p q b (x ∷ t) l in
    grow p q b (x ∷ t) (plain_of_good o p q b good.0 k) (only p q b (x ∷ t) k good.1))

-- the two preimages: a legal payload that unescapes to b is the escaped form of b, or that and a closing 03
pub legal_unescape : (p b : Bytes) → legal p ≡ true → unescape p ≡ b → (p ≡ escape b) ⊎ (p ≡ escape b ++ (3 ∷ []))
legal_unescape p b l e =
    let r : unescape_after 1 1 p ≡ b = sym (unescape_is p) ∙ e in
    rw r at (only 1 1 1 p refl (sym (legal_is p) ∙ l))

-- each byte dropped stood behind two zeros of its own
three_each : (l : Bytes) → 3 * dropped l ≤ length l
unfolding dropped marked
three_each [] = omega arith
three_each (a ∷ []) = omega arith
three_each (a ∷ b ∷ []) = omega arith
three_each (a ∷ b ∷ c ∷ s) =
    case (marked3 a b c)
    (λ e. omega (arith, dropped_marked (a ∷ b ∷ c ∷ s) e, three_each s))
    (λ e. omega (arith, dropped_plain a (b ∷ c ∷ s) e, three_each (b ∷ c ∷ s)))

-- how many zeros stand at the end of the two bytes written last, by whether each is zero
run : Bool → Bool → ℕ
run x false = 0
run false true = 1
run true true = 2

run_more : (x y z : Bool) → run y z ≤ run x y + 1
unfolding run
run_more x false false = omega arith
run_more x false true = omega arith
run_more x true false = omega arith
run_more false true true = omega arith
run_more true true true = omega arith

run_after_three : (y : Bool) → run false y ≤ 1
unfolding run
run_after_three false = omega arith
run_after_three true = omega arith

run_two : (p q b : ℕ) → stuffed p q b ≡ true → run (eqb p 0) (eqb q 0) ≡ 2
unfolding run
run_two p q b e = let h = stuffed_is p q b e in rw (h.0, h.1)

-- a 03 takes two zeros before it: twice the length and one is at most three times the bytes and the zeros at hand
bound : (p q b : ℕ) (s : Bytes) → 2 * length (escape_after p q (b ∷ s)) + 1 ≤ 3 * length (b ∷ s) + run (eqb p 0) (eqb q 0)
unfolding escape_after
bound p q b [] =
    case (stuffed p q b)
    (λ e. omega (arith, ap length (escape_stuffed p q b [] e), run_two p q b e))
    (λ e. omega (arith, ap length (escape_plain p q b [] e)))
bound p q b (c ∷ s) =
    case (stuffed p q b)
    (λ e. omega (arith, ap length (escape_stuffed p q b (c ∷ s) e), run_two p q b e, bound 3 b c s, run_after_three (eqb b 0)))
    (λ e. omega (arith, ap length (escape_plain p q b (c ∷ s) e), bound q b c s, run_more (eqb p 0) (eqb q 0) (eqb b 0)))

-- the bound on the escaped form
pub escape_length : (b : Bytes) → length (escape b) ≤ length b + (length b - 1) / 2
unfolding escape_after run
escape_length [] = omega arith
escape_length (b ∷ s) = omega (arith, bound 1 1 b s)

-- "An OBU of n bytes costs at most (n-1)/2"
pub inserted_bound : (b : Bytes) → inserted b ≤ (length b - 1) / 2
inserted_bound b = omega (arith, escape_length b)

longer_after : (p q : ℕ) (s : Bytes) → length s ≤ length (escape_after p q s)
unfolding escape_after
longer_after p q [] = omega arith
longer_after p q (b ∷ s) =
    case (stuffed p q b)
    (λ e. omega (arith, ap length (escape_stuffed p q b s e), longer_after 3 b s))
    (λ e. omega (arith, ap length (escape_plain p q b s e), longer_after q b s))

pub escape_longer : (b : Bytes) → length b ≤ length (escape b)
escape_longer b = longer_after 1 1 b

-- the count of bytes dropped is the payload's length minus the OBU's
pub dropped_is : (p : Bytes) → dropped p ≡ length p - length (unescape p)
dropped_is p = omega (arith, given_or_dropped p)

-- "A payload is legal if at no place" a forbidden sequence begins
legal_at : (s : Bytes) → legal s ≡ true → (i : ℕ) → i < length s → forbidden (drop i s) ≡ false
unfolding legal
legal_at [] e i h = absurd (omega arith)
legal_at (a ∷ s) e zero h = not-true (forbidden (a ∷ s)) (and_both (not (forbidden (a ∷ s))) (legal s) e).0
legal_at (a ∷ s) e (suc i) h = legal_at s (and_both (not (forbidden (a ∷ s))) (legal s) e).1 i (omega arith)

at_legal : (s : Bytes) → ((i : ℕ) → i < length s → forbidden (drop i s) ≡ false) → legal s ≡ true
unfolding legal
at_legal [] f = refl
at_legal (a ∷ s) f = ap₂ (λ (x y : Bool). not x && y) (f 0 (omega arith)) (at_legal s (λ i h. f (suc i) (omega arith)))

pub legal_everywhere : (s : Bytes) → (legal s ≡ true) ↔ ((i : ℕ) → i < length s → forbidden (drop i s) ≡ false)
legal_everywhere s = (legal_at s, at_legal s)

-- a payload that is not empty unescapes to an OBU that is not empty
pub unescape_some : (p : Bytes) → 1 ≤ length p → 1 ≤ length (unescape p)
unescape_some p h = omega (arith, three_each p, given_or_dropped p)
