-- What the promises of private functions cite; no public promise does. Assumes nothing.
use Rattle.std.specs.Prelude.{ℕ, ◌+◌, ◌-◌, ◌≤◌, ◌<◌, Bool, true, false, ◌&&◌, ◌≡◌, [], ◌∷◌, ◌++◌, eqb, length, take}
use Rattle.std.specs.Prelude.{drop, get_or, set}
use mir.Val.{bool_byte}
use Rattle.lists.specs.Lists.{Bytes}
use Rattle.emulation.specs.Payload.{escape}
use Rattle.emulation.specs.Blocks.{hits, free_of}
use Rattle.emulation.specs.Parts.{critical, Counts}

-- ---- places
-- 00 00 00 stands at the head
unfoldable pub tripled : Bytes → Bool
tripled [] = false
tripled (a ∷ []) = false
tripled (a ∷ b ∷ []) = false
tripled (a ∷ b ∷ c ∷ s) = eqb a 0 && eqb b 0 && eqb c 0

-- at no place of the block 00 00 and a byte of 0 to 3 stand
abbrev pub clean : Bytes → Bool
clean s = free_of critical s

-- at no place of the block 00 00 00 stands
abbrev pub single : Bytes → Bool
single s = free_of tripled s

-- of n places from i on a test holds at none of the first so many, and, where there is one more, at the next
pub record First (test : Bytes → Bool) (s : Bytes) (i n count : ℕ) : Type 0 where
  pub within : count ≤ n
  pub none : hits test count (drop i s) ≡ 0
  pub there : count < n → test (drop (i + count) s) ≡ true

-- a number for each of the first n places from i on: 1 where a test holds, 0 where not
pub record Flags (test : Bytes → Bool) (s : Bytes) (i n : ℕ) (flags : Bytes) : Type 0 where
  pub within : n ≤ length flags
  pub each : (k : ℕ) → k < n → get_or flags k 0 ≡ bool_byte (test (drop (i + k) s))

-- ---- a pass over a string, which has gone from place i to place j: escaping puts so many bytes there
abbrev pub Inserts : Bytes → ℕ → ℕ → ℕ → Type 0
Inserts s i j count = Counts (λ k. k + length (escape (drop k s))) s i j count

-- ---- writing, as far as there is room
-- `whole` is to stand in `out` from n on: up to m it does, in `later`, and `rest` is to come, over whatever stands
-- there; behind the end of the whole, as far as it has room, all is as it was
pub record Fills (out : Bytes) (n : ℕ) (whole : Bytes) (m : ℕ) (rest later : Bytes) : Type 0 where
  pub onward : n ≤ m
  pub within : m ≤ length later
  pub long : length later ≡ length out
  pub front : take m later ++ take (length out - m) rest ≡ take n out ++ take (length out - n) whole
  pub back : drop (n + length (take (length out - n) whole)) later ≡ drop (n + length (take (length out - n) whole)) out

-- a byte is stored at n, and a 03 behind it
abbrev pub laid : Bytes → ℕ → ℕ → Bytes
laid out n b = set (set out n b) (n + 1) 3

-- the escaped form of a string from place i on is to stand in `out` from n on: that up to place j does, up to m
pub record Lays (s : Bytes) (i : ℕ) (out : Bytes) (n j m : ℕ) (later : Bytes) : Type 0 where
  pub within : j ≤ length s
  pub written : Fills out n (escape (drop i s)) m (escape (drop j s)) later
