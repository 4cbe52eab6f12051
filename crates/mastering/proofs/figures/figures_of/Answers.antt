-- Each figure is what its call gives of its number, as in the definition.
use Rattle.mastering.specs.Figures.{figures_of}
use Rattle.mastering.proofs.figures.figures_of.Goals as goal

pub returns : goal.returns
unfolding figures_of
returns c =
    rw (c.minimum.ensures, c.maximum.ensures)
    (rw (c.chromaticity-8.ensures, c.chromaticity-7.ensures)
    (rw (c.chromaticity-6.ensures, c.chromaticity-5.ensures)
    (rw (c.chromaticity-4.ensures, c.chromaticity-3.ensures)
    (rw (c.chromaticity-2.ensures, c.chromaticity.ensures)))))
