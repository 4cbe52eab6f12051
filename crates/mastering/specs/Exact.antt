-- What holds of the figures and of the rounding, as statements. They are proved in proofs/. `HasValue x s a b` of the
-- kit's `lib.Ieee.Exact` says that the double x is finite, has the sign s (false: plus), and is a / b in size. Assumes
-- nothing.
use Rattle.std.specs.Prelude.{ℕ, ◌+◌, ◌-◌, ◌*◌, ◌^◌, ◌<◌, false, ◌≡◌, ltb, pos}
use lib.Ieee.{binary64, of_int}
use Rattle.std.specs.Float.Ieee.Exact.{HasValue}
use Rattle.mastering.specs.Figures.{figure}
use Rattle.mastering.specs.Steps.{greatest}

-- of a whole number of so many bits, neither the conversion nor the division by 2 ^ k rounds
abbrev pub ExactFigure : ℕ → ℕ → Type 0
ExactFigure width k =
    (n : ℕ) → n < 2 ^ width → HasValue (of_int binary64 (pos n)) false n 1 × HasValue (figure k n) false n (2 ^ k)

-- "no half can arise": a / b is never a whole number and a half
abbrev pub NoHalf : ℕ → ℕ → Type 0
NoHalf a b = (w : ℕ) → 2 * a ≡ (2 * w + 1) * b → ⊥

-- how far the whole number w is from a / b, in bths: one of the two differences is 0
abbrev pub far : ℕ → ℕ → ℕ → ℕ
far a b w = (w * b - a) + (a - w * b)

-- "the content's nearest whole number": q is nearer to a / b than every other whole number
abbrev pub Nearest : ℕ → ℕ → ℕ → Type 0
Nearest a b q = (w : ℕ) → (w ≡ q → ⊥) → far a b q < far a b w

-- so many steps are 1, of which the content counts so many parts
abbrev pub Rounds : ℕ → ℕ → (ℕ → ℕ) → Type 0
Rounds steps parts number = (n : ℕ) → NoHalf (n * parts) steps × Nearest (n * parts) steps (number n)

-- "a luminance that rounds past 32 bits": where 49 begins
abbrev pub PastFrom : (ℕ → ℕ) → ℕ → Type 0
PastFrom number most = (n : ℕ) → ltb most n ≡ ltb greatest (number n)
