-- The bounds of what 49 does not refuse, and of the numbers that it is written as. Assumes nothing.
use Prim.Native.Nat.{◌≤◌, ◌<◌}
use mathlib.Core.Bool.{false}
use mathlib.Core.Path.{◌≡◌}
use lib.Dec.{ltb}
use borrow.Author.Tests.{ltb-false}
use Rattle.lists.proofs.Tests.{or_neither}
use Rattle.mastering.specs.declared.numbers.Numbers.{Numbers}
use Rattle.mastering.specs.declared.steps.Steps.{Steps}
use Rattle.mastering.specs.Steps.{chromaticity_steps, maximum_number, minimum_number, greatest, numbers_from}
use Rattle.mastering.specs.Steps.{chromaticity_past, luminance_past, steps_past}
use Rattle.mastering.proofs.Rounding.{chromaticity_within}

pub record Chromaticities (s : Steps) : Type 0 where
  pub red_x : s.red_x ≤ chromaticity_steps
  pub red_y : s.red_y ≤ chromaticity_steps
  pub green_x : s.green_x ≤ chromaticity_steps
  pub green_y : s.green_y ≤ chromaticity_steps
  pub blue_x : s.blue_x ≤ chromaticity_steps
  pub blue_y : s.blue_y ≤ chromaticity_steps
  pub white_x : s.white_x ≤ chromaticity_steps
  pub white_y : s.white_y ≤ chromaticity_steps

pub chromaticities : (s : Steps) → steps_past s ≡ false → Chromaticities s
unfolding steps_past chromaticity_past
chromaticities s e =
    let past = or_neither (chromaticity_past s) (luminance_past s) e in
    let white_y = or_neither _ (ltb chromaticity_steps s.white_y) past.0 in
    let white_x = or_neither _ (ltb chromaticity_steps s.white_x) white_y.0 in
    let blue_y = or_neither _ (ltb chromaticity_steps s.blue_y) white_x.0 in
    let blue_x = or_neither _ (ltb chromaticity_steps s.blue_x) blue_y.0 in
    let green_y = or_neither _ (ltb chromaticity_steps s.green_y) blue_x.0 in
    let green_x = or_neither _ (ltb chromaticity_steps s.green_x) green_y.0 in
    let red = or_neither _ (ltb chromaticity_steps s.red_y) green_x.0 in
    record {
      red_x = ltb-false chromaticity_steps _ red.0;
      red_y = ltb-false chromaticity_steps _ red.1;
      green_x = ltb-false chromaticity_steps _ green_x.1;
      green_y = ltb-false chromaticity_steps _ green_y.1;
      blue_x = ltb-false chromaticity_steps _ blue_x.1;
      blue_y = ltb-false chromaticity_steps _ blue_y.1;
      white_x = ltb-false chromaticity_steps _ white_x.1;
      white_y = ltb-false chromaticity_steps _ white_y.1;
    }

pub luminances : (s : Steps) → steps_past s ≡ false
    → (maximum_number s.luminance_max ≤ greatest) × (minimum_number s.luminance_min ≤ greatest)
unfolding steps_past luminance_past
luminances s e =
    let past = or_neither (chromaticity_past s) (luminance_past s) e in
    let h = or_neither (ltb greatest (maximum_number s.luminance_max)) _ past.1 in
    (ltb-false greatest _ h.0, ltb-false greatest _ h.1)

-- each number is within its bits
pub record Widths (n : Numbers) : Type 0 where
  pub red_x : n.red_x < 65536
  pub red_y : n.red_y < 65536
  pub green_x : n.green_x < 65536
  pub green_y : n.green_y < 65536
  pub blue_x : n.blue_x < 65536
  pub blue_y : n.blue_y < 65536
  pub white_x : n.white_x < 65536
  pub white_y : n.white_y < 65536
  pub luminance_max : n.luminance_max ≤ greatest
  pub luminance_min : n.luminance_min ≤ greatest

pub widths : (s : Steps) → steps_past s ≡ false → Widths (numbers_from s)
unfolding numbers_from
widths s e =
    let h = luminances s e in
    record {
      red_x = chromaticity_within _;
      red_y = chromaticity_within _;
      green_x = chromaticity_within _;
      green_y = chromaticity_within _;
      blue_x = chromaticity_within _;
      blue_y = chromaticity_within _;
      white_x = chromaticity_within _;
      white_y = chromaticity_within _;
      luminance_max = h.0;
      luminance_min = h.1;
    }
