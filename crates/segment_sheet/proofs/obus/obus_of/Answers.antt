use native.Mathlib.Omega.{arith}
use Rattle.segment_sheet.proofs.Walking.{counting_start, counting_next, counting_done, payload_passes}
use Rattle.segment_sheet.proofs.obus.obus_of.Goals as goal

pub loop-code-init : goal.loop-code-init
loop-code-init c = counting_start c.args.unit.now c.requires

pub end_of-code-requires : goal.end_of-code-requires
end_of-code-requires c = payload_passes c.loop-code.invariant.here c.loop-code-test.true

pub loop-code-preserved : goal.loop-code-preserved
loop-code-preserved c = counting_next c.loop-code.invariant c.loop-code-test.true _ c.end_of-code.ensures

pub returns : goal.returns
returns c =
    let inv = c.loop-code.invariant in
    (counting_done inv c.loop-code-test.false, omega (arith, inv.few, inv.here.at.within))
