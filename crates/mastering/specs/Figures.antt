-- The figures that the monitor takes. The words of document 02, request 2026-14, stand over each definition. Assumes
-- nothing.
use Rattle.std.specs.Prelude.{ℕ, false, pos, Float}
use Rattle.std.specs.Float.{fin, binary64}
use Rattle.std.specs.Float.Ieee.{div, of_int}
use Rattle.lists.specs.Lists.{Bytes}
use Rattle.refusal.specs.Verdict.{Verdict, passed, ◌>>=◌}
use Rattle.mastering.specs.Content.{numbers_in}
use Rattle.mastering.specs.declared.numbers.Numbers.{Numbers}
use Rattle.mastering.specs.declared.figures.Figures.{Figures}

-- the double 2 ^ k
abbrev pub power : ℕ → Float
power k = fin false 1 (pos k)

-- "each the whole number converted and divided once by" 2 ^ k: both as IEEE 754 has them for binary64, "bit for bit"
abbrev pub figure : ℕ → ℕ → Float
figure k n = div binary64 (of_int binary64 (pos n)) (power k)

-- "65,536, 256 or 16,384": a chromaticity has 16 bits behind the point, the maximum luminance 8, the minimum luminance
-- 14 (AV1 6.7.4)
abbrev pub chromaticity_figure : ℕ → Float
chromaticity_figure n = figure 16 n

abbrev pub maximum_figure : ℕ → Float
maximum_figure n = figure 8 n

abbrev pub minimum_figure : ℕ → Float
minimum_figure n = figure 14 n

-- "the ten figures as doubles"
unfoldable pub figures_of : Numbers → Figures
figures_of n =
    record {
      red_x = chromaticity_figure n.red_x;
      red_y = chromaticity_figure n.red_y;
      green_x = chromaticity_figure n.green_x;
      green_y = chromaticity_figure n.green_y;
      blue_x = chromaticity_figure n.blue_x;
      blue_y = chromaticity_figure n.blue_y;
      white_x = chromaticity_figure n.white_x;
      white_y = chromaticity_figure n.white_y;
      luminance_max = maximum_figure n.luminance_max;
      luminance_min = minimum_figure n.luminance_min;
    }

unfoldable pub reading : Bytes → Verdict Figures
reading content = do
  n ← numbers_in content
  passed (figures_of n)
