-- Each turn lays two places (`laid_pair`), so that the places laid are twice the turns.
use Rattle.std.proofs.Common.{◌≡◌, ◌+◌, ◌*◌, arith, subst}
use Rattle.escaping.proofs.Dense.{Laid, laid_pair}
use Rattle.escaping.proofs.escaping.escape_dense.Goals as goal

pub loop-pair-preserved : goal.loop-pair-preserved
loop-pair-preserved c =
    let laid = c.lay_pair-laid in
    let twice : 2 * c.loop-pair.pair + 2 ≡ 2 * (c.loop-pair.pair + 1) = omega arith in
    subst (λ j. Laid c.args.obu.now c.args.i c.args.out.now c.args.n j laid.result.count laid.result.last laid.new.out) twice
    (laid_pair c.requires.0 c.requires.1 c.flags-flags.ensures (omega arith) c.loop-pair.invariant laid.ensures.count_value
    laid.ensures.out_after)
