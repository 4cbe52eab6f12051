use native.Mathlib.Omega.{arith}
use borrow.Author.Tests.{ne_eqb}
use mathlib.Core.Path.{sym}
use Rattle.unit.specs.Unit.{sum}
use Rattle.unit.proofs.Rests.{sum_next, sum_end, sum_is}
use Rattle.unit.proofs.writing.adds_up.Goals as goal

pub returns-then-left-length : goal.returns-then-left-length
returns-then-left-length c =
    let lens = c.args.lens.now in
    let more = sum_next lens c.loop-length.length-index (omega arith) in
    sym (ne_eqb (sum lens) c.args.n (λ e. omega (arith, more)))

pub loop-length-preserved : goal.loop-length-preserved
loop-length-preserved c =
    let lens = c.args.lens.now in
    omega (arith, sum_next lens c.loop-length.length-index (omega arith))

pub returns : goal.returns
returns c =
    let lens = c.args.lens.now in
    sum_is (sum lens) c.args.n c.loop-length.left (omega (arith, sum_end lens c.loop-length.length-index (omega arith)))
