-- Steps of the definitions of specs/Payload.antt, at a test's value. Assumes nothing.
use Prim.Native.Nat.{ℕ, suc, ◌+◌, ◌≤◌, ◌<◌}
use mathlib.Core.Bool.{true, false, ◌&&◌, ◌||◌}
use mathlib.Core.Path.{◌≡◌, refl, sym, ap, ◌∙◌}
use mathlib.Core.List.{[], ◌∷◌}
use native.Mathlib.Omega.{arith}
use lib.ListN.{length, drop, get_or, drop_of_length-le}
use lib.Seq.{drop-drop}
use lib.Dec.{leb, ltb, eqb}
use borrow.Author.Tests.{eqb-true}
use Rattle.lists.specs.Lists.{Bytes}
use Rattle.lists.specs.Bytes.{byte}
use Rattle.lists.proofs.Tests.{case, clash, chosen_true, chosen_false, and_both}
use Rattle.lists.proofs.Parts.{next, next3}
use Rattle.lists.proofs.Threes.{AsksThree, by_three, three_long, three_fits, three_at}
use Rattle.emulation.specs.Payload.{stuffed, escape_after, marked3, unescape, dropped, forbidden, above3, first_forbidden, legal}
use Rattle.emulation.specs.Parts.{marked}

pub escape_stuffed : (p q b : ℕ) (s : Bytes) → stuffed p q b ≡ true → escape_after p q (b ∷ s) ≡ 3 ∷ b ∷ escape_after 3 b s
unfolding escape_after
escape_stuffed p q b s e = rw (e, escape_after)

pub escape_plain : (p q b : ℕ) (s : Bytes) → stuffed p q b ≡ false → escape_after p q (b ∷ s) ≡ b ∷ escape_after q b s
unfolding escape_after
escape_plain p q b s e = rw (e, escape_after)

-- ---- three bytes at the head
pub marked_is : (a b c : ℕ) → marked3 a b c ≡ true → (a ≡ 0) × (b ≡ 0) × (c ≡ 3)
marked_is a b c e =
    let h = and_both (eqb a 0 && eqb b 0) (eqb c 3) e in
    let k = and_both (eqb a 0) (eqb b 0) h.0 in
    (eqb-true a 0 k.0, eqb-true b 0 k.1, eqb-true c 3 h.1)

-- 00 00 stands at the head
pub marked_zeros : (a : ℕ) (l : Bytes) → marked (a ∷ l) ≡ true → (a ≡ 0) × (rest : Bytes) × (l ≡ 0 ∷ rest)
unfolding marked
marked_zeros a [] e = clash e refl
marked_zeros a (b ∷ []) e = clash e refl
marked_zeros a (b ∷ c ∷ s) e = let z = marked_is a b c e in (z.0, c ∷ s, ap (λ (x : ℕ). x ∷ c ∷ s) z.1)

pub marked_three : AsksThree marked
unfolding marked
marked_three = record { none = refl; one = λ a. refl; two = λ a b. refl }

pub marked_at : (s : Bytes) (i : ℕ) → i + 2 < length s → marked (drop i s) ≡ marked3 (get_or s i 0) (get_or s (i + 1) 0)
    (get_or s (i + 2) 0)
unfolding marked
marked_at = three_at marked marked3 (λ a b c s. refl)

pub forbidden_at : (s : Bytes) (i : ℕ) → i + 2 < length s
    → forbidden (drop i s)
    ≡ eqb (get_or s i 0) 0 && eqb (get_or s (i + 1) 0) 0
    && (leb (get_or s (i + 2) 0) 2 || (eqb (get_or s (i + 2) 0) 3 && above3 (drop (i + 3) s)))
unfolding forbidden
forbidden_at s i h = rw (next3 s i h)

pub above3_at : (s : Bytes) (i : ℕ) → i < length s → above3 (drop i s) ≡ ltb 3 (get_or s i 0)
unfolding above3
above3_at s i h = rw (next s i h)

pub above3_end : (s : Bytes) (i : ℕ) → length s ≤ i → above3 (drop i s) ≡ false
unfolding above3
above3_end s i h = rw (drop_of_length-le s h)

-- ---- one step of unescaping
pub unescape_marked : (l : Bytes) → marked l ≡ true → unescape l ≡ 0 ∷ 0 ∷ unescape (drop 3 l)
unfolding marked unescape
unescape_marked =
    by_three marked_three (λ l. unescape l ≡ 0 ∷ 0 ∷ unescape (drop 3 l))
    (λ a b c s. chosen_true (0 ∷ 0 ∷ unescape s) (a ∷ unescape (b ∷ c ∷ s)))

pub unescape_plain : (a : ℕ) (l : Bytes) → marked (a ∷ l) ≡ false → unescape (a ∷ l) ≡ a ∷ unescape l
unfolding marked unescape
unescape_plain a [] e = refl
unescape_plain a (b ∷ []) e = refl
unescape_plain a (b ∷ c ∷ s) e = chosen_false (0 ∷ 0 ∷ unescape s) (a ∷ unescape (b ∷ c ∷ s)) e

-- so unescaping leaves the first byte
pub unescaped_first : (l : Bytes) → byte (unescape l) 0 ≡ byte l 0
unfolding unescape
unescaped_first [] = refl
unescaped_first (a ∷ l) =
    case (marked (a ∷ l))
    (λ e. ap (λ (x : Bytes). byte x 0) (unescape_marked (a ∷ l) e) ∙ sym (marked_zeros a l e).0)
    (λ e. ap (λ (x : Bytes). byte x 0) (unescape_plain a l e))

pub dropped_marked : (l : Bytes) → marked l ≡ true → dropped l ≡ suc (dropped (drop 3 l))
unfolding marked dropped
dropped_marked =
    by_three marked_three (λ l. dropped l ≡ suc (dropped (drop 3 l)))
    (λ a b c s. chosen_true (suc (dropped s)) (dropped (b ∷ c ∷ s)))

pub dropped_plain : (a : ℕ) (l : Bytes) → marked (a ∷ l) ≡ false → dropped (a ∷ l) ≡ dropped l
unfolding marked dropped
dropped_plain a [] e = refl
dropped_plain a (b ∷ []) e = refl
dropped_plain a (b ∷ c ∷ s) e = chosen_false (suc (dropped s)) (dropped (b ∷ c ∷ s)) e

pub marked_long : (l : Bytes) → marked l ≡ true → 3 ≤ length l
marked_long = three_long marked_three

forbidden_three : AsksThree forbidden
unfolding forbidden
forbidden_three = record { none = refl; one = λ a. refl; two = λ a b. refl }

pub forbidden_long : (l : Bytes) → forbidden l ≡ true → 3 ≤ length l
forbidden_long = three_long forbidden_three

pub marked3_rest : (a b c : ℕ) → a ≡ 0 → b ≡ 0 → marked3 a b c ≡ eqb c 3
marked3_rest a b c p q = rw (p, q)

-- ---- the same at the code's place i
pub unescape_at_marked : (s : Bytes) (i : ℕ) → marked (drop i s) ≡ true → unescape (drop i s) ≡ 0 ∷ 0 ∷ unescape (drop (i + 3) s)
unescape_at_marked s i e = unescape_marked (drop i s) e ∙ rw (drop-drop 3 i s)

pub unescape_at_plain : (s : Bytes) (i : ℕ) → i < length s → marked (drop i s) ≡ false
    → unescape (drop i s) ≡ get_or s i 0 ∷ unescape (drop (i + 1) s)
unescape_at_plain s i h e = rw (next s i h) (unescape_plain (get_or s i 0) (drop (i + 1) s) (rw (next s i h) at e))

pub dropped_at_marked : (s : Bytes) (i : ℕ) → marked (drop i s) ≡ true → dropped (drop i s) ≡ suc (dropped (drop (i + 3) s))
dropped_at_marked s i e = dropped_marked (drop i s) e ∙ rw (drop-drop 3 i s)

pub dropped_at_plain : (s : Bytes) (i : ℕ) → i < length s → marked (drop i s) ≡ false → dropped (drop i s) ≡ dropped (drop (i + 1) s)
dropped_at_plain s i h e = rw (next s i h) (dropped_plain (get_or s i 0) (drop (i + 1) s) (rw (next s i h) at e))

pub marked_fits : (s : Bytes) (i : ℕ) → i ≤ length s → marked (drop i s) ≡ true → i + 3 ≤ length s
marked_fits = three_fits marked_three

pub first_found : (s : Bytes) (i : ℕ) → i < length s → forbidden (drop i s) ≡ true → first_forbidden (drop i s) ≡ 0
unfolding first_forbidden
first_found s i h e = rw (next s i h) (rw (rw (next s i h) at e, first_forbidden))

pub first_next : (s : Bytes) (i : ℕ) → i < length s → forbidden (drop i s) ≡ false
    → first_forbidden (drop i s) ≡ suc (first_forbidden (drop (i + 1) s))
unfolding first_forbidden
first_next s i h e = rw (next s i h) (rw (rw (next s i h) at e, first_forbidden))

-- ---- whole payloads
-- each byte of a payload is given or dropped
pub given_or_dropped : (l : Bytes) → length (unescape l) + dropped l ≡ length l
unfolding unescape dropped marked
given_or_dropped [] = refl
given_or_dropped (a ∷ []) = refl
given_or_dropped (a ∷ b ∷ []) = refl
given_or_dropped (a ∷ b ∷ c ∷ s) =
    case (marked3 a b c)
    (λ e. omega (arith, ap length (unescape_marked (a ∷ b ∷ c ∷ s) e), dropped_marked (a ∷ b ∷ c ∷ s) e, given_or_dropped s))
    (λ e. omega (arith, ap length (unescape_plain a (b ∷ c ∷ s) e), dropped_plain a (b ∷ c ∷ s) e, given_or_dropped (b ∷ c ∷ s)))

pub first_yes : (a : ℕ) (l : Bytes) → forbidden (a ∷ l) ≡ true → first_forbidden (a ∷ l) ≡ 0
unfolding first_forbidden
first_yes a l e = rw (e, first_forbidden)

pub first_no : (a : ℕ) (l : Bytes) → forbidden (a ∷ l) ≡ false → first_forbidden (a ∷ l) ≡ suc (first_forbidden l)
unfolding first_forbidden
first_no a l e = rw (e, first_forbidden)

pub legal_yes : (a : ℕ) (l : Bytes) → forbidden (a ∷ l) ≡ true → legal (a ∷ l) ≡ false
unfolding legal
legal_yes a l e = rw e

pub legal_no : (a : ℕ) (l : Bytes) → forbidden (a ∷ l) ≡ false → legal (a ∷ l) ≡ legal l
unfolding legal
legal_no a l e = rw e

-- a payload is illegal where the search for a forbidden sequence stops before the end, and legal where it comes to the end
pub illegal_before : (l : Bytes) → first_forbidden l < length l → legal l ≡ false
unfolding first_forbidden
illegal_before [] h = absurd (omega arith)
illegal_before (a ∷ l) h =
    case (forbidden (a ∷ l))
    (λ e. legal_yes a l e)
    (λ e. legal_no a l e ∙ illegal_before l (omega (arith, first_no a l e)))

pub legal_after : (l : Bytes) → length l ≤ first_forbidden l → legal l ≡ true
unfolding legal
legal_after [] h = refl
legal_after (a ∷ l) h =
    case (forbidden (a ∷ l))
    (λ e. absurd (omega (arith, first_yes a l e)))
    (λ e. legal_no a l e ∙ legal_after l (omega (arith, first_no a l e)))
