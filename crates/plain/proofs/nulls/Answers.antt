use native.Mathlib.Omega.{arith}
use Prim.Native.Nat.{◌+◌, ◌/◌, ◌≤◌, ◌<◌}
use mathlib.Core.Path.{◌≡◌, sym, ap, ◌∙◌}
use lib.ListN.{length}
use Rattle.plain.specs.Runs.{is_null}
use Rattle.plain.proofs.Following.{one_more, stops, ends}
use Rattle.plain.proofs.nulls.Goals as goal

pub returns-then-not-is_null : goal.returns-then-not-is_null
returns-then-not-is_null c =
    let s = c.args.segment.now in
    let from = c.args.from in
    let h : from + c.loop-n.n < length s / 188 = omega arith in
    stops s from c.loop-n.n c.loop-n.invariant h
    (ap is_null (sym c.packet_at.ensures) ∙ sym c.is_null.ensures ∙ c.if-not-is_null.true)

pub loop-n-preserved : goal.loop-n-preserved
loop-n-preserved c =
    let s = c.args.segment.now in
    let from = c.args.from in
    let h : from + c.loop-n.n < length s / 188 = omega arith in
    one_more s from c.loop-n.n c.loop-n.invariant h
    (ap is_null (sym c.packet_at.ensures) ∙ sym c.is_null.ensures ∙ c.if-not-is_null.false)

pub returns : goal.returns
returns c =
    let s = c.args.segment.now in
    let from = c.args.from in
    let h : length s / 188 ≤ from + c.loop-n.n = omega arith in
    let e : c.packets_from-left.result ≡ c.loop-n.n = omega arith in
    e ∙ ends s from c.loop-n.n c.loop-n.invariant h
