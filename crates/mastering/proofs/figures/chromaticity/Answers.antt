-- The conversion and the division are those of the definition.
use mathlib.Core.Path.{refl}
use lib.Ieee.{of_bits}
use Rattle.mastering.proofs.figures.chromaticity.Goals as goal

pub returns : goal.returns
unfolding of_bits
returns c = refl
