-- The whole numbers of ST 2086 that the writer takes, and what it makes of them. `Steps` (src/steps.rt) has them in the
-- content's order. The words of document 02, request 2026-14, stand over each definition. Assumes nothing.
use Rattle.std.specs.Prelude.{ℕ, ◌+◌, ◌*◌, ◌/◌, min, Bool, ◌||◌, ltb, length}
use Rattle.refusal.specs.Verdict.{Verdict, passed, ◌>>◌, given}
use Rattle.mastering.specs.Content.{content_of}
use Rattle.mastering.specs.declared.numbers.Numbers.{Numbers}
use Rattle.mastering.specs.declared.steps.Steps.{Steps}

-- "rounds to the content's nearest whole number": the whole part of a / b and a half. `Rounds` (Exact.antt) is proved
-- of it.
abbrev pub nearest : ℕ → ℕ → ℕ
nearest a b = (2 * a + b) / (2 * b)

-- "chromaticity in steps of 0.00002", of which 50,000 are 1, in 65,536ths
abbrev pub chromaticity_steps : ℕ
chromaticity_steps = 50000

abbrev pub nearest_chromaticity : ℕ → ℕ
nearest_chromaticity n = nearest (n * 65536) chromaticity_steps

-- "50,000 would become 65,536 and is written as 65,535"
abbrev pub chromaticity_number : ℕ → ℕ
chromaticity_number n = min (nearest_chromaticity n) 65535

-- "luminance in steps of 0.0001", of which 10,000 are 1: in 256ths, and in 16,384ths
abbrev pub luminance_steps : ℕ
luminance_steps = 10000

abbrev pub maximum_number : ℕ → ℕ
maximum_number n = nearest (n * 256) luminance_steps

abbrev pub minimum_number : ℕ → ℕ
minimum_number n = nearest (n * 16384) luminance_steps

unfoldable pub numbers_from : Steps → Numbers
numbers_from s =
    record {
      red_x = chromaticity_number s.red_x;
      red_y = chromaticity_number s.red_y;
      green_x = chromaticity_number s.green_x;
      green_y = chromaticity_number s.green_y;
      blue_x = chromaticity_number s.blue_x;
      blue_y = chromaticity_number s.blue_y;
      white_x = chromaticity_number s.white_x;
      white_y = chromaticity_number s.white_y;
      luminance_max = maximum_number s.luminance_max;
      luminance_min = minimum_number s.luminance_min;
    }

-- 49: "a chromaticity past 50,000"
unfoldable pub chromaticity_past : Steps → Bool
chromaticity_past s =
    ltb chromaticity_steps s.red_x
    || ltb chromaticity_steps s.red_y
    || ltb chromaticity_steps s.green_x
    || ltb chromaticity_steps s.green_y
    || ltb chromaticity_steps s.blue_x
    || ltb chromaticity_steps s.blue_y
    || ltb chromaticity_steps s.white_x
    || ltb chromaticity_steps s.white_y

-- 49: "or a luminance that rounds past 32 bits"
abbrev pub greatest : ℕ
greatest = 4294967295

unfoldable pub luminance_past : Steps → Bool
luminance_past s =
    ltb greatest (maximum_number s.luminance_max) || ltb greatest (minimum_number s.luminance_min)

unfoldable pub steps_past : Steps → Bool
steps_past s = chromaticity_past s || luminance_past s

-- writing into an output of so many bytes: "49 .., then 8"; the answer is how many bytes were written
unfoldable pub writing : Steps → ℕ → Verdict ℕ
writing s room = do
  given 49 (steps_past s)
  given 8 (ltb room (length (content_of (numbers_from s))))
  passed (length (content_of (numbers_from s)))
