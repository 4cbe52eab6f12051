use native.Mathlib.Omega.{arith}
use Rattle.unit.proofs.Rests.{at_within}
use Rattle.unit.proofs.Writings.{carried_most, counting_next, counting_end}
use Rattle.unit.proofs.writing.carried_length.Goals as goal

pub overflow_add-end : goal.overflow_add-end
overflow_add-end c = omega (
  arith,
  at_within c.args.lens.now c.args.obus.now c.loop-length.length-index c.loop-length.at
      c.loop-length.invariant.place (omega arith),
)

pub slice_bounds-escaped_bytes-end : goal.slice_bounds-escaped_bytes-end
slice_bounds-escaped_bytes-end c =
    at_within c.args.lens.now c.args.obus.now c.loop-length.length-index c.loop-length.at c.loop-length.invariant.place (omega arith)

pub overflow_add-n : goal.overflow_add-n
overflow_add-n c =
    let most = carried_most c.args.lens.now c.args.obus.now c.requires.0 c.requires.1 c.requires.2 in
    let next = counting_next c.args.lens.now c.args.obus.now c.loop-length.n c.loop-length.length-index c.loop-length.at
    c.loop-length.invariant (omega arith) _
    c.escaped_bytes.ensures in
    omega (arith, next.count, most)

pub overflow_add-n-in-loop-length : goal.overflow_add-n-in-loop-length
overflow_add-n-in-loop-length c =
    let most = carried_most c.args.lens.now c.args.obus.now c.requires.0 c.requires.1 c.requires.2 in
    let next = counting_next c.args.lens.now c.args.obus.now c.loop-length.n c.loop-length.length-index c.loop-length.at
    c.loop-length.invariant (omega arith) _
    c.escaped_bytes.ensures in
    omega (arith, next.count, most)

pub loop-length-preserved : goal.loop-length-preserved
loop-length-preserved c =
    counting_next c.args.lens.now c.args.obus.now c.loop-length.n c.loop-length.length-index c.loop-length.at c.loop-length.invariant
    (omega arith) _
    c.escaped_bytes.ensures

pub returns : goal.returns
returns c =
    counting_end c.args.lens.now c.args.obus.now c.loop-length.n c.loop-length.length-index c.loop-length.at c.loop-length.invariant
    (omega arith)
