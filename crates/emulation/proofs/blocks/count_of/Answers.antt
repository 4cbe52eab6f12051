-- A block without two bytes after it is not counted.
use Rattle.std.proofs.Common.{refl, sym, ap, ◌∙◌, ℕ, Some}
use Rattle.emulation.specs.Blocks.{zeros_then}
use Rattle.emulation.proofs.Hits.{decides, counted_short, counted_whole}
use Rattle.emulation.proofs.blocks.count_of.Goals as goal

pub returns-then-not-is_followed : goal.returns-then-not-is_followed
returns-then-not-is_followed g c =
    sym (counted_short _ c.args.s.now c.args.i (sym c.is_followed.ensures ∙ c.if-not-is_followed.true))

pub returns : goal.returns
unfolding zeros_then
returns g c =
    let test = zeros_then g.row.LEAST g.row.MOST in
    ap (λ (n : ℕ). Some n) (c.count_places.ensures test (decides test refl _ _))
    ∙ sym (counted_whole test c.args.s.now c.args.i (sym c.is_followed.ensures ∙ c.if-not-is_followed.false))
