use Rattle.std.proofs.Common.{arith, refl, sym}
use Rattle.emulation.proofs.Hits.{one_most, counted_start, counted_next, counted_all}
use Rattle.emulation.proofs.blocks.count_places.Goals as goal

pub loop-j-init : goal.loop-j-init
loop-j-init g c = (omega arith, λ what d. counted_start what _ _)

pub loop-j-preserved : goal.loop-j-preserved
loop-j-preserved g c =
    let t = c.test.result in (
      omega (arith, c.loop-j.invariant.0, one_most t),
      λ what d.
          counted_next what d.0 t (c.loop-j.invariant.1 what d) c.loop-j-test.true (sym
          (d.1 c.args.s c.loop-j.j t refl c.loop-j-test.true c.test.ensures)),
    )

pub returns : goal.returns
returns g c = λ what d. counted_all what (c.loop-j.invariant.1 what d) (omega (arith, c.loop-j-test.false))
