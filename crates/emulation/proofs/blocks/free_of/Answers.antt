-- A block without two bytes after it does not count; of another the places are counted.
use Rattle.std.proofs.Common.{ℕ, refl, sym, ap, ◌∙◌, eqb}
use Rattle.emulation.specs.Blocks.{zeros_then}
use Rattle.emulation.proofs.Hits.{decides, free_short, free_whole}
use Rattle.emulation.proofs.blocks.free_of.Goals as goal

pub returns-then-is_followed : goal.returns-then-is_followed
unfolding zeros_then
returns-then-is_followed g c =
    let test = zeros_then g.row.LEAST g.row.MOST in
    ap (λ (n : ℕ). eqb n 0) (c.count_places.ensures test (decides test refl _ _))
    ∙ sym (free_whole test c.args.s.now c.args.i (sym c.is_followed.ensures ∙ c.if-is_followed.true))

pub returns-else-is_followed : goal.returns-else-is_followed
returns-else-is_followed g c =
    c.if-is_followed.false ∙ sym (free_short _ c.args.s.now c.args.i (sym c.is_followed.ensures ∙ c.if-is_followed.false))
