use native.Mathlib.Omega.{arith}
use mathlib.Core.Path.{sym, ap, ◌∙◌}
use Rattle.lists.specs.Lists.{any}
use Rattle.sheet.specs.Reading.{stream_row}
use Rattle.sheet.specs.Passing.{stream_wrong}
use Rattle.sheet.proofs.RowByRow.{pairs_first, pairs_step, streams_end, streams_found, streams_on}
use Rattle.sheet.proofs.units.streams_wrong.Goals as goal

pub loop-n-init : goal.loop-n-init
loop-n-init c = ap (any stream_wrong) (pairs_first (stream_row c.args.sheet.now) c.args.count 1)

pub returns-then-stream_wrong : goal.returns-then-stream_wrong
returns-then-stream_wrong c =
    let told = ap stream_wrong (sym c.stream_row.ensures) ∙ sym c.stream_wrong.ensures ∙ c.if-stream_wrong.true in
    sym (c.loop-n.invariant ∙ streams_found _ _ _ (omega arith) told)

pub loop-n-preserved : goal.loop-n-preserved
loop-n-preserved c =
    let told = ap stream_wrong (sym c.stream_row.ensures) ∙ sym c.stream_wrong.ensures ∙ c.if-stream_wrong.false in
    c.loop-n.invariant ∙ streams_on _ _ _ (omega arith) told
    ∙ ap (any stream_wrong) (pairs_step (stream_row c.args.sheet.now) c.args.count 1 c.loop-n.n)

pub returns : goal.returns
returns c = sym (c.loop-n.invariant ∙ streams_end c.args.sheet.now _ _ (omega arith))
