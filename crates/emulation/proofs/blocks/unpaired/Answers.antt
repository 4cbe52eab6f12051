-- A block without two bytes after it does not count; of another the places are counted.
use Rattle.std.proofs.Common.{ℕ, refl, sym, ap, ◌∙◌, eqb}
use Rattle.emulation.specs.Blocks.{paired}
use Rattle.emulation.proofs.Hits.{decides, free_short, free_whole}
use Rattle.emulation.proofs.blocks.unpaired.Goals as goal

pub returns-then-is_followed : goal.returns-then-is_followed
unfolding paired
returns-then-is_followed c =
    ap (λ (n : ℕ). eqb n 0) (c.count_places.ensures paired (decides paired refl _ _))
    ∙ sym (free_whole paired c.args.s.now c.args.i (sym c.is_followed.ensures ∙ c.if-is_followed.true))

pub returns-else-is_followed : goal.returns-else-is_followed
returns-else-is_followed c =
    c.if-is_followed.false ∙ sym (free_short paired c.args.s.now c.args.i (sym c.is_followed.ensures ∙ c.if-is_followed.false))
