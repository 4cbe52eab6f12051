-- 00 00 and a byte in a range (`zeros_then`): at their ranges it is 00 00 03 (`marked`), and 00 00 and a byte of 0 to 3 (`critical`).
-- Assumes nothing.
use Prim.Native.Nat.{ℕ, ◌+◌, ◌<◌}
use mathlib.Core.Bool.{Bool, ◌&&◌}
use mathlib.Core.Path.{◌≡◌, refl}
use mathlib.Core.List.{[], ◌∷◌}
use native.Mathlib.Omega.{arith}
use lib.ListN.{length, drop, get_or}
use lib.Dec.{leb, eqb}
use borrow.Author.Tests.{eqb-true, eqb-false, leb-true, le-leb, lt-leb}
use Rattle.lists.specs.Lists.{Bytes}
use Rattle.lists.proofs.Tests.{case}
use Rattle.lists.proofs.Threes.{three_at}
use Rattle.emulation.specs.Payload.{marked3}
use Rattle.emulation.specs.Blocks.{zeros_then3, zeros_then}
use Rattle.emulation.specs.Parts.{marked, critical}

pub zeros_then_at : (least most : ℕ) (s : Bytes) (i : ℕ) → i + 2 < length s
    → zeros_then least most (drop i s) ≡ zeros_then3 least most (get_or s i 0) (get_or s (i + 1) 0) (get_or s (i + 2) 0)
unfolding zeros_then
zeros_then_at least most = three_at (zeros_then least most) (zeros_then3 least most) (λ a b c s. refl)

-- a range of one byte
pub one_byte : (n c : ℕ) → leb n c && leb c n ≡ eqb c n
one_byte n c =
    case (eqb c n)
    (λ t. rw (t, eqb-true c n t, le-leb n n (omega arith)))
    (λ t.
    let k = eqb-false c n t in
    case (leb n c)
    (λ u. rw (t, u, lt-leb c n (omega (arith, leb-true n c u))))
    (λ u. rw (t, u)))

pub is_marked3 : (a b c : ℕ) → zeros_then3 3 3 a b c ≡ marked3 a b c
is_marked3 a b c = rw (one_byte 3 c)

marked_at : (l : Bytes) → zeros_then 3 3 l ≡ marked l
unfolding zeros_then marked
marked_at [] = refl
marked_at (a ∷ []) = refl
marked_at (a ∷ b ∷ []) = refl
marked_at (a ∷ b ∷ c ∷ s) = is_marked3 a b c

pub is_marked : zeros_then 3 3 ≡ marked
is_marked = λ i l. marked_at l i

-- a range from 0
pub from_zero : (c : ℕ) (t : Bool) → leb 0 c && t ≡ t
from_zero c t = rw (le-leb 0 c (omega arith))

critical_at : (l : Bytes) → zeros_then 0 3 l ≡ critical l
unfolding zeros_then critical
critical_at [] = refl
critical_at (a ∷ []) = refl
critical_at (a ∷ b ∷ []) = refl
critical_at (a ∷ b ∷ c ∷ s) = rw (from_zero c (leb c 3))

pub is_critical : zeros_then 0 3 ≡ critical
is_critical = λ i l. critical_at l i
