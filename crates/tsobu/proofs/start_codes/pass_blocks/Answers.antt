use native.Mathlib.Omega.{arith}
use mathlib.Core.Path.{sym, ◌∙◌}
use Rattle.tsobu.proofs.Scanning.{uncoded_passes}
use Rattle.tsobu.proofs.start_codes.pass_blocks.Goals as goal

pub loop-i-smaller : goal.loop-i-smaller
loop-i-smaller c =
    omega (
      arith,
      (uncoded_passes c.args.s.now c.loop-i.i
          (sym c.coded.ensures ∙ c.loop-i-test.true)).0,
    )

pub loop-i-preserved : goal.loop-i-preserved
loop-i-preserved c =
    let p = uncoded_passes c.args.s.now c.loop-i.i
    (sym c.coded.ensures ∙ c.loop-i-test.true) in
    (p.0, omega (arith, p.1, c.loop-i.invariant.1))

pub returns : goal.returns
returns c = c.loop-i.invariant
