-- Blocks of a string, which are looked at and copied as one. Assumes nothing.
use Rattle.std.specs.Prelude.{ℕ, zero, suc, ◌+◌, Bool, true, false, ◌&&◌, [], ◌∷◌, leb, eqb, length}
use Rattle.std.specs.Prelude.{Option, Some, None, take, drop}
use Rattle.lists.specs.Lists.{Bytes, placed, pick}

-- how many bytes a block has
abbrev pub block : ℕ
block = 64

-- at how many of the first n places a test holds
unfoldable pub hits : (Bytes → Bool) → ℕ → Bytes → ℕ
hits test zero s = 0
hits test (suc n) [] = 0
hits test (suc n) (a ∷ s) = elim (test (a ∷ s)) [ true ↦ suc (hits test n s) | false ↦ hits test n s ]

-- at how many places of the block at the head a test holds, if two bytes come after the block
unfoldable pub counted : (Bytes → Bool) → Bytes → Option ℕ
counted test s = pick (leb (block + 2) (length s)) (Some (hits test block s)) None

-- a block and two bytes after it are there, and a test holds at no place of the block
unfoldable pub free_of : (Bytes → Bool) → Bytes → Bool
free_of test s = leb (block + 2) (length s) && eqb (hits test block s) 0

-- 00 00 stands at the head
unfoldable pub paired : Bytes → Bool
paired [] = false
paired (a ∷ []) = false
paired (a ∷ b ∷ s) = eqb a 0 && eqb b 0

-- three bytes are 00 00 and a byte of least to most
abbrev pub zeros_then3 : ℕ → ℕ → ℕ → ℕ → ℕ → Bool
zeros_then3 least most a b c = eqb a 0 && eqb b 0 && (leb least c && leb c most)

-- 00 00 and a byte of least to most stand at the head
unfoldable pub zeros_then : ℕ → ℕ → Bytes → Bool
zeros_then least most [] = false
zeros_then least most (a ∷ []) = false
zeros_then least most (a ∷ b ∷ []) = false
zeros_then least most (a ∷ b ∷ c ∷ s) = zeros_then3 least most a b c

-- the block of s at i in an output from n on, where both have one; otherwise the output as it was
unfoldable pub block_copied : Bytes → ℕ → Bytes → ℕ → Bytes
block_copied s i out n =
    pick (leb (i + block) (length s) && leb (n + block) (length out)) (placed out n (take block (drop i s))) out
