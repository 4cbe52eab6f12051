use native.Mathlib.Omega.{arith}
use Prim.Native.Nat.{◌+◌, ◌-◌, ◌/◌, ◌≤◌, ◌<◌}
use lib.ListN.{length, drop, length-take, length-drop}
use mathlib.Core.Path.{◌≡◌, sym, ap, ◌∙◌}
use Rattle.lists.proofs.Parts.{tail_placed}
use Rattle.plain.proofs.Following.{follows_none, at_end, no_room, another, payload_long, follows_one}
use Rattle.plain.proofs.Places.{packet_length_lem}
use Rattle.plain.proofs.follow.Goals as goal

pub loop-n-init : goal.loop-n-init
loop-n-init c = let a = c.args in follows_none a.segment.now a.from a.pid a.last a.out.now

pub returns-then-out-written-lt-PAYLOAD_LENGTH-clause-value : goal.returns-then-out-written-lt-PAYLOAD_LENGTH-clause-value
returns-then-out-written-lt-PAYLOAD_LENGTH-clause-value c =
    let a = c.args in
    let h : a.from + c.loop-n.n < length a.segment.now / 188 = omega arith in
    no_room a.segment.now a.from a.pid a.last a.out.now c.loop-n.out c.loop-n.n c.loop-n.counter c.loop-n.written c.loop-n.invariant h
    c.if-out-written-lt-PAYLOAD_LENGTH.true

pub returns-then-not-goes_on-clause-value : goal.returns-then-not-goes_on-clause-value
returns-then-not-goes_on-clause-value c =
    let a = c.args in
    let h : a.from + c.loop-n.n < length a.segment.now / 188 = omega arith in
    another a.segment.now a.from a.pid a.last a.out.now c.loop-n.out c.loop-n.n c.loop-n.counter c.loop-n.written c.loop-n.invariant h _
    c.packet_at-packet.ensures (sym c.goes_on.ensures ∙ c.if-not-goes_on.true)

pub put_payload-requires : goal.put_payload-requires
put_payload-requires c =
    let a = c.args in
    let h : a.from + c.loop-n.n < length a.segment.now / 188 = omega arith in (
      ap length c.packet_at-packet.ensures
          ∙ packet_length_lem a.segment.now (a.from + c.loop-n.n) h,
      omega (
        arith,
        length-take (length c.loop-n.out - c.loop-n.written) (drop c.loop-n.written c.loop-n.out),
        length-drop c.loop-n.written c.loop-n.out,
      ),
    )

pub loop-n-preserved : goal.loop-n-preserved
loop-n-preserved c =
    let a = c.args in
    let s = a.segment.now in
    let h : a.from + c.loop-n.n < length s / 188 = omega arith in
    let p = c.packet_at-packet.result.now in
    let lent = c.packet_at-packet.ensures in
    let long = payload_long s a.from a.pid a.last a.out.now c.loop-n.out c.loop-n.n c.loop-n.counter c.loop-n.written c.loop-n.invariant h p
    lent in
    let r : 184 ≤ length c.loop-n.out - c.loop-n.written = omega arith in
    follows_one s a.from a.pid a.last a.out.now c.loop-n.out c.loop-n.n c.loop-n.counter c.loop-n.written c.loop-n.invariant h p lent
    (sym c.goes_on.ensures ∙ c.if-not-goes_on.false) r _
    (tail_placed c.loop-n.written c.loop-n.out (drop 4 p) _ (omega (arith, r, long)) c.put_payload.ensures)
    _ c.next_counter-counter.ensures

pub returns-clause-value : goal.returns-clause-value
returns-clause-value c =
    let a = c.args in
    let s = a.segment.now in
    let h : length s / 188 ≤ a.from + c.loop-n.n = omega arith in
    let e : c.packets_from-left.result ≡ c.loop-n.n = omega arith in
    e ∙ at_end s a.from a.pid a.last a.out.now c.loop-n.out c.loop-n.n c.loop-n.counter c.loop-n.written c.loop-n.invariant h
