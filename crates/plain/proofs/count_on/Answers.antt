use native.Mathlib.Omega.{arith}
use Prim.Native.Nat.{◌+◌, ◌/◌, ◌≤◌, ◌<◌}
use mathlib.Core.Path.{◌≡◌, sym, ◌∙◌}
use lib.ListN.{length}
use Rattle.plain.proofs.Following.{counts_end, counts_one, counts_stop}
use Rattle.plain.proofs.count_on.Goals as goal

pub returns-then-not-counts_on : goal.returns-then-not-counts_on
returns-then-not-counts_on c =
    let a = c.args in
    let s = a.segment.now in
    let h : a.from + c.loop-n.n < length s / 188 = omega arith in
    counts_stop s a.from a.pid a.last c.loop-n.n c.loop-n.counter c.loop-n.invariant h _ c.packet_at.ensures
    (sym c.counts_on.ensures ∙ c.if-not-counts_on.true)

pub loop-n-preserved : goal.loop-n-preserved
loop-n-preserved c =
    let a = c.args in
    let s = a.segment.now in
    let h : a.from + c.loop-n.n < length s / 188 = omega arith in
    counts_one s a.from a.pid a.last c.loop-n.n c.loop-n.counter c.loop-n.invariant h _ c.packet_at.ensures
    (sym c.counts_on.ensures ∙ c.if-not-counts_on.false) _ c.next_counter-counter.ensures

pub returns : goal.returns
returns c =
    let a = c.args in
    let s = a.segment.now in
    let h : length s / 188 ≤ a.from + c.loop-n.n = omega arith in
    let e : c.packets_from-left.result ≡ c.loop-n.n = omega arith in
    e ∙ counts_end s a.from a.pid a.last c.loop-n.n c.loop-n.counter c.loop-n.invariant h
