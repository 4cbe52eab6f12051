-- Each number is what its call gives, by the definition of that number; that the steps are not past their bounds is what the calls require.
use Rattle.mastering.specs.Steps.{numbers_from}
use Rattle.mastering.proofs.Bounds.{chromaticities, luminances}
use Rattle.mastering.proofs.steps.numbers_from.Goals as goal

pub chromaticity-requires : goal.chromaticity-requires
chromaticity-requires c = (chromaticities _ c.requires).red_x

pub chromaticity-requires-2 : goal.chromaticity-requires-2
chromaticity-requires-2 c = (chromaticities _ c.requires).red_y

pub chromaticity-requires-3 : goal.chromaticity-requires-3
chromaticity-requires-3 c = (chromaticities _ c.requires).green_x

pub chromaticity-requires-4 : goal.chromaticity-requires-4
chromaticity-requires-4 c = (chromaticities _ c.requires).green_y

pub chromaticity-requires-5 : goal.chromaticity-requires-5
chromaticity-requires-5 c = (chromaticities _ c.requires).blue_x

pub chromaticity-requires-6 : goal.chromaticity-requires-6
chromaticity-requires-6 c = (chromaticities _ c.requires).blue_y

pub chromaticity-requires-7 : goal.chromaticity-requires-7
chromaticity-requires-7 c = (chromaticities _ c.requires).white_x

pub chromaticity-requires-8 : goal.chromaticity-requires-8
chromaticity-requires-8 c = (chromaticities _ c.requires).white_y

pub maximum-requires : goal.maximum-requires
maximum-requires c = (luminances _ c.requires).0

pub minimum-requires : goal.minimum-requires
minimum-requires c = (luminances _ c.requires).1

pub returns : goal.returns
unfolding numbers_from
returns c =
    rw (c.minimum.ensures, c.maximum.ensures)
    (rw (c.chromaticity-8.ensures, c.chromaticity-7.ensures)
    (rw (c.chromaticity-6.ensures, c.chromaticity-5.ensures)
    (rw (c.chromaticity-4.ensures, c.chromaticity-3.ensures)
    (rw (c.chromaticity-2.ensures, c.chromaticity.ensures)))))
