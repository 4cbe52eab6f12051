-- Each number is read where the definition has it.
use Rattle.mastering.specs.Content.{numbers_of}
use Rattle.mastering.proofs.numbers.numbers_of.Goals as goal

pub returns : goal.returns
unfolding numbers_of
returns c =
    rw (c.bits32_at-2.ensures, c.bits32_at.ensures)
    (rw (c.bits16_at-8.ensures, c.bits16_at-7.ensures, c.bits16_at-6.ensures, c.bits16_at-5.ensures)
    (rw (c.bits16_at-4.ensures, c.bits16_at-3.ensures, c.bits16_at-2.ensures, c.bits16_at.ensures)))
