-- The content of metadata_hdr_mdcv (AV1 5.8). `Numbers` (src/numbers.rt) are its ten whole numbers, in the content's
-- order. The words of document 02, request 2026-14, stand over each definition. Assumes nothing.
use Rattle.std.specs.Prelude.{ℕ, ◌+◌, ◌/◌, ◌%◌, ◌^◌, Bool, not, ◌||◌, eqb, length, drop, Option, Some, None}
use mathlib.Core.List.{[], ◌∷◌, flatten}
use Rattle.lists.specs.Lists.{Bytes}
use Rattle.lists.specs.Bytes.{byte, word}
use Rattle.refusal.specs.Verdict.{Verdict, passed, refused, ◌>>=◌, ◌>>◌, given}
use Rattle.obu.specs.Leb128.{leb128}
use Rattle.obu.specs.declared.leb128.Leb128.{Leb128}
use Rattle.mastering.specs.declared.numbers.Numbers.{Numbers}

-- metadata_type of metadata_hdr_mdcv: "type 2"
abbrev pub mdcv_type : ℕ
mdcv_type = 2

-- "the trailing bits as the one byte 80"
abbrev pub trailing : ℕ
trailing = 0x80

-- ---- the numbers behind the type
-- the number of 16 or 32 bits from a place on
abbrev pub bits16 : Bytes → ℕ → ℕ
bits16 s i = word (byte s i) (byte s (i + 1))

abbrev pub bits32 : Bytes → ℕ → ℕ
bits32 s i = word (word (word (byte s i) (byte s (i + 1))) (byte s (i + 2))) (byte s (i + 3))

-- "eight 16-bit chromaticities, maximum luminance and minimum luminance of 32 bits": primary_chromaticity_x[i] and
-- _y[i] for red, green and blue, white_point_chromaticity_x and _y, luminance_max, luminance_min
unfoldable pub numbers_of : Bytes → Numbers
numbers_of s =
    record {
      red_x = bits16 s 0;
      red_y = bits16 s 2;
      green_x = bits16 s 4;
      green_y = bits16 s 6;
      blue_x = bits16 s 8;
      blue_y = bits16 s 10;
      white_x = bits16 s 12;
      white_y = bits16 s 14;
      luminance_max = bits32 s 16;
      luminance_min = bits32 s 20;
    }

-- ---- reading: 48, "content not of this form"
-- "type 2 as leb128": what stands behind it
abbrev pub behind_type : Bytes → Option Leb128 → Verdict Bytes
behind_type content None = refused 48 0
behind_type content (Some l) = given 48 (not (eqb l.value mdcv_type)) >> passed (drop l.width content)

-- the ten numbers are 24 bytes, "then the trailing bits as the one byte 80", and nothing else
unfoldable pub body_wrong : Bytes → Bool
body_wrong s = not (eqb (length s) 25) || not (eqb (byte s 24) trailing)

unfoldable pub numbers_in : Bytes → Verdict Numbers
numbers_in content = do
  s ← behind_type content (leb128 content)
  given 48 (body_wrong s)
  passed (numbers_of s)

-- ---- the content of these numbers: type 2 "written as 02"
unfoldable pub bytes2 : ℕ → Bytes
bytes2 n = n / 2 ^ 8 % 256 ∷ n % 256 ∷ []

unfoldable pub bytes4 : ℕ → Bytes
bytes4 n = n / 2 ^ 24 % 256 ∷ n / 2 ^ 16 % 256 ∷ n / 2 ^ 8 % 256 ∷ n % 256 ∷ []

unfoldable pub content_of : Numbers → Bytes
content_of n =
    flatten
    ((mdcv_type ∷ [])
    ∷ bytes2 n.red_x
    ∷ bytes2 n.red_y
    ∷ bytes2 n.green_x
    ∷ bytes2 n.green_y
    ∷ bytes2 n.blue_x
    ∷ bytes2 n.blue_y
    ∷ bytes2 n.white_x
    ∷ bytes2 n.white_y
    ∷ bytes4 n.luminance_max
    ∷ bytes4 n.luminance_min
    ∷ (trailing ∷ [])
    ∷ [])
