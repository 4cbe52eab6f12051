-- What the promises of private functions cite; no public promise does. Assumes nothing.
use Rattle.std.specs.Prelude.{ℕ, ◌/◌, ◌%◌, [], ◌∷◌, ltb}
use Rattle.lists.specs.Lists.{Bytes, pick}

-- the first four bytes of a PCR, of its base
abbrev pub base_bytes : ℕ → Bytes
base_bytes base = base / 33554432 ∷ base / 131072 % 256 ∷ base / 512 % 256 ∷ base / 2 % 256 ∷ []

-- a number of 16 bits, or 0 where it has more
unfoldable pub field_of : ℕ → ℕ
field_of n = pick (ltb 65535 n) 0 n
