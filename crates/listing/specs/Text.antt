-- Text as bytes: words in ASCII, and numbers in decimal. Assumes nothing.
use Rattle.std.specs.Prelude.{ℕ, zero, suc, ◌^◌, true, false, [], ◌∷◌, ltb}
use Prim.Native.Char.{code}
use Prim.Native.String.{String, [] as end, ◌∷◌ as ◌then◌}
use Rattle.lists.specs.Lists.{Bytes}
use Rattle.io.specs.Digits.{last_digits}

-- the bytes of a word, whose characters are all in ASCII
abbrev pub ascii : String → Bytes
ascii end = []
ascii (c then s) = code c ∷ ascii s

-- the least number of digits, from k on, that hold n in decimal; it is found within so many turns
unfoldable pub places_from : ℕ → ℕ → ℕ → ℕ
places_from zero k n = k
places_from (suc turns) k n = elim (ltb n (10 ^ k)) [ true ↦ k | false ↦ places_from turns (suc k) n ]

-- how many digits a number has: the fewest that hold it, and at least one. n turns are enough, since n < 10 ^ (n + 1)
abbrev pub places : ℕ → ℕ
places n = places_from n 1 n

-- a number's decimal digits in ASCII, the most significant first (`digits` is the kit's, of its library io)
unfoldable pub decimal : ℕ → Bytes
decimal n = last_digits 10 (places n) n
