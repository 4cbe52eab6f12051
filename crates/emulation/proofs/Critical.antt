-- Places at which 00 00 and a byte of 0 to 3 stand (`critical`): at any other place nothing is dropped and no forbidden sequence begins.
-- Assumes nothing.
use Prim.Native.Nat.{ℕ, ◌+◌, ◌<◌}
use mathlib.Core.Bool.{Bool, true, false, ◌&&◌, ◌||◌}
use mathlib.Core.Path.{◌≡◌, refl, ◌∙◌}
use mathlib.Core.List.{[], ◌∷◌}
use native.Mathlib.Omega.{arith}
use lib.ListN.{length, drop, get_or}
use lib.Dec.{leb, eqb}
use borrow.Author.Tests.{leb-false, lt-leb, ne_eqb}
use Rattle.lists.specs.Lists.{Bytes}
use Rattle.lists.proofs.Tests.{case, clash}
use Rattle.lists.proofs.Parts.{next}
use Rattle.lists.proofs.Threes.{AsksThree, by_three, three_at}
use Rattle.emulation.specs.Payload.{stuffed, forbidden, above3}
use Rattle.emulation.specs.Blocks.{paired}
use Rattle.emulation.specs.Parts.{marked, critical}
use Rattle.emulation.proofs.Machine.{stuffed_is, marked_of, unmarked_of_plain}

pub critical_three : AsksThree critical
unfolding critical
critical_three = record { none = refl; one = λ a. refl; two = λ a b. refl }

-- ---- what begins at such a place alone
pub uncritical_unmarked : (l : Bytes) → critical l ≡ false → marked l ≡ false
unfolding critical marked
uncritical_unmarked [] e = refl
uncritical_unmarked (a ∷ []) e = refl
uncritical_unmarked (a ∷ b ∷ []) e = refl
uncritical_unmarked (a ∷ b ∷ c ∷ s) e = unmarked_of_plain a b c e

above : (c : ℕ) (x : Bool) → leb c 3 ≡ false → leb c 2 || (eqb c 3 && x) ≡ false
above c x e =
    let h : 3 < c = leb-false c 3 e in
    rw (lt-leb c 2 (omega arith), ne_eqb c 3 (λ k. absurd (omega arith)))

pub uncritical_lawful : (l : Bytes) → critical l ≡ false → forbidden l ≡ false
unfolding critical forbidden
uncritical_lawful [] e = refl
uncritical_lawful (a ∷ []) e = refl
uncritical_lawful (a ∷ b ∷ []) e = refl
uncritical_lawful (a ∷ b ∷ c ∷ s) e = case (eqb a 0 && eqb b 0) (λ t. rw (t, above c (above3 s) (rw t at e))) (λ t. rw t)

-- where no forbidden sequence begins at such a place, it is 00 00 03
pub critical_marked : (l : Bytes) → critical l ≡ true → forbidden l ≡ false → marked l ≡ true
unfolding critical forbidden marked
critical_marked =
    by_three critical_three (λ l. forbidden l ≡ false → marked l ≡ true)
    (λ a b c s e f.
    let h = stuffed_is a b c e in
    case (leb c 2)
    (λ t. let k : forbidden (a ∷ b ∷ c ∷ s) ≡ true = rw (h.0, h.1, t) in clash k f)
    (λ t. let k = leb-false c 2 t in marked_of a b c h.0 h.1 (omega arith)))

-- ---- at the code's place i
pub critical_at : (s : Bytes) (i : ℕ) → i + 2 < length s → critical (drop i s) ≡ stuffed (get_or s i 0) (get_or s (i + 1) 0)
    (get_or s (i + 2) 0)
unfolding critical
critical_at = three_at critical stuffed (λ a b c s. refl)

-- ---- 00 00 at a place
pub paired_at : (s : Bytes) (i : ℕ) → i + 1 < length s → paired (drop i s) ≡ eqb (get_or s i 0) 0 && eqb (get_or s (i + 1) 0) 0
unfolding paired
paired_at s i h =
    let e : drop (i + 1) s ≡ get_or s (i + 1) 0 ∷ drop (i + 1 + 1) s = next s (i + 1) h in
    rw (next s i (omega arith), e)

pub paired_of : (s : Bytes) (i : ℕ) → i + 1 < length s → get_or s i 0 ≡ 0 → get_or s (i + 1) 0 ≡ 0 → paired (drop i s) ≡ true
paired_of s i h e f = paired_at s i h ∙ rw (e, f)

-- without 00 00 the place is not critical, and no 00 00 03
pub unpaired_uncritical : (l : Bytes) → paired l ≡ false → critical l ≡ false
unfolding paired critical
unpaired_uncritical [] e = refl
unpaired_uncritical (a ∷ []) e = refl
unpaired_uncritical (a ∷ b ∷ []) e = refl
unpaired_uncritical (a ∷ b ∷ c ∷ s) e = rw e

pub unpaired_unmarked : (l : Bytes) → paired l ≡ false → marked l ≡ false
unpaired_unmarked l e = uncritical_unmarked l (unpaired_uncritical l e)
