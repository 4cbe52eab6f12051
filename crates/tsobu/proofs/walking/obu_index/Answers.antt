use native.Mathlib.Omega.{arith}
use Rattle.emulation.proofs.Hits.{one_most}
use Rattle.tsobu.proofs.Places.{index_one, index_end}
use Rattle.tsobu.proofs.walking.obu_index.Goals as goal

pub loop-i-preserved : goal.loop-i-preserved
loop-i-preserved c =
    let one = index_one c.args.at c.loop-i.i c.args.unit.now c.code_at.result (omega arith) (omega arith) c.code_at.ensures in
    (omega (arith, c.loop-i.invariant.0, one_most c.code_at.result), omega (arith, c.loop-i.invariant.1, one))

pub returns : goal.returns
returns c = omega (arith, index_end c.args.at c.loop-i.i c.args.unit.now (omega arith))
