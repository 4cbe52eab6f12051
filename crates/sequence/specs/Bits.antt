-- Reading a content bit by bit (AV1 4.10), up to where it ends. Assumes nothing.
use Rattle.std.specs.Prelude.{ℕ, zero, suc, ◌+◌, ◌*◌, Bool, List, [], ◌∷◌, eqb, ltb}
use Rattle.lists.specs.Lists.{Bytes, pick}
use Rattle.lists.specs.Bytes.{bits}
use Rattle.refusal.specs.Verdict.{NoValue}

-- the bits of a content, the highest of each byte first
unfoldable pub bits_of : Bytes → List ℕ
bits_of [] = []
bits_of (b ∷ s) =
    bits 7 7 b ∷ bits 6 6 b ∷ bits 5 5 b ∷ bits 4 4 b ∷ bits 3 3 b ∷ bits 2 2 b ∷ bits 1 1 b ∷ bits 0 0 b ∷ bits_of s

-- what a read says: its value and the bits that are left; or the content is "cut short": it ends before the read's last
-- bit
pub data Outcome (A : Type 0) : Type 0 where
  read : A → List ℕ → Outcome A
  cut_short : Outcome A

-- a read, of the bits that are left before it
abbrev pub Reader : Type 0 → Type 0
Reader A = List ℕ → Outcome A

-- one read after another
abbrev pub after : {A B : Type 0} → (A → Reader B) → Outcome A → Outcome B
after next (read a left) = next a left
after next cut_short = cut_short

infixr 20 ◌>>=◌
unfoldable pub ◌>>=◌ : {A B : Type 0} → Reader A → (A → Reader B) → Reader B
(m >>= next) left = after next (m left)

infixr 20 ◌>>◌
unfoldable pub ◌>>◌ : {A B : Type 0} → Reader A → Reader B → Reader B
(m >> next) left = after (λ _. next) (m left)

-- no bit is read
unfoldable pub return : {A : Type 0} → A → Reader A
return a left = read a left

-- f(n): a number of n bits, the highest first
unfoldable pub f_from : ℕ → ℕ → Reader ℕ
f_from x zero left = read x left
f_from x (suc n) [] = cut_short
f_from x (suc n) (b ∷ left) = f_from (2 * x + b) n left

abbrev pub f : ℕ → Reader ℕ
f n = f_from 0 n

-- f(1) as a test
unfoldable pub flag : Reader Bool
flag = do
  x ← f 1
  return (eqb x 1)

-- f(n) whose value is not looked at
unfoldable pub skip : ℕ → Reader NoValue
skip n = f n >> return tt

-- the read that "if" makes where the test holds
unfoldable pub when : Bool → Reader NoValue → Reader NoValue
when test m = pick test m (return tt)

-- so many reads of one form, whose values are not looked at
unfoldable pub times : {A : Type 0} → ℕ → Reader A → Reader NoValue
times zero m = return tt
times (suc n) m = m >> times n m

-- uvlc(): zeros up to a one, and, where there are fewer than 32, a number of as many bits. Its value is not looked at.
unfoldable pub zeros_from : ℕ → Reader ℕ
zeros_from n [] = cut_short
zeros_from n (zero ∷ left) = zeros_from (suc n) left
zeros_from n (suc b ∷ left) = read n left

unfoldable pub uvlc : Reader NoValue
uvlc = do
  zeros ← zeros_from 0
  when (ltb zeros 32) (skip zeros)
