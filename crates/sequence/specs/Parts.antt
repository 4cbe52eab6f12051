-- What the code's reads promise: `BitReader` (src/reader.rt) holds the payload and the place that it has come to.
-- Assumes nothing.
use Rattle.std.specs.Prelude.{ℕ, suc, ◌+◌, ◌<◌, min, true, false, ◌≡◌, List, ◌∷◌, ◌++◌, length, take, drop, get_or}
use Rattle.lists.specs.Lists.{Bytes, pick}
use Rattle.emulation.specs.Payload.{unescape}
use Rattle.sequence.specs.Bits.{Reader, Outcome, read, cut_short, bits_of, zeros_from}
use Rattle.sequence.specs.declared.place.Place.{Place}
use Rattle.sequence.specs.declared.reader.BitReader.{BitReader}

-- the bytes of the OBU that its payload gives from a place on. A paired place is that of the second 00 of a 00 00 03,
-- behind which the 03 is dropped.
unfoldable pub given : Bytes → Place → Bytes
given payload p =
    pick
    p.paired
    (take 1 (drop p.byte payload) ++ unescape (drop (p.byte + 2) payload))
    (unescape (drop p.byte payload))

-- at p the payload gives the byte that stands there, and then what it gives from q on
abbrev pub Follows : Bytes → Place → Place → Type 0
Follows payload p q = given payload p ≡ get_or payload p.byte 0 ∷ given payload q

-- the bits that are left to a reader
unfoldable pub left : BitReader → List ℕ
left r = drop r.bit (bits_of (given r.payload.now r.place))

-- what is left are the bits of the payload's OBU behind so many of its bytes
pub record Starts (payload : Bytes) (at : ℕ) (r : BitReader) : Type 0 where
  pub uncut : r.cut ≡ false
  pub behind : left r ≡ bits_of (drop at (unescape payload))

-- a value and the reader behind it; a reader that is cut has passed the payload's end
unfoldable pub said : {A : Type 0} → A → BitReader → Outcome A
said v r = pick r.cut cut_short (read v (left r))

-- from r on, its payload reads as m: the value is v and the reader behind it s, or s is cut
pub record Reads {A : Type 0} (r : BitReader) (m : Reader A) (v : A) (s : BitReader) : Type 0 where
  pub same : s.payload.now ≡ r.payload.now
  pub stays : r.cut ≡ true → s.cut ≡ true
  pub says : r.cut ≡ false → said v s ≡ m (left r)

-- how much a reader can still read, and that it falls
unfoldable pub size : BitReader → ℕ
size r = pick r.cut 0 (suc (length (left r)))

abbrev pub Falls : BitReader → BitReader → Type 0
Falls r s = r.cut ≡ false → size s < size r

-- zeros up to a one, counted to 32
abbrev pub CountsZeros : BitReader → ℕ → BitReader → Type 0
CountsZeros r count s = (n : ℕ) × Reads r (zeros_from 0) n s × (count ≡ min n 32)
