use native.Mathlib.Omega.{arith}
use Rattle.unit.proofs.Rests.{at_within}
use Rattle.unit.proofs.Writings.{writing_room, writing_next, writing_end}
use Rattle.unit.proofs.writing.write_obus.Goals as goal

pub overflow_add-end : goal.overflow_add-end
overflow_add-end c = omega (
  arith,
  at_within c.args.lens.now c.args.obus.now c.loop-bytes.bytes-index c.loop-bytes.at
      c.loop-bytes.invariant.place (omega arith),
)

pub slice_bounds-write_obu-end : goal.slice_bounds-write_obu-end
slice_bounds-write_obu-end c =
    at_within c.args.lens.now c.args.obus.now c.loop-bytes.bytes-index c.loop-bytes.at c.loop-bytes.invariant.place (omega arith)

pub write_obu-n-requires : goal.write_obu-n-requires
write_obu-n-requires c =
    writing_room c.args.lens.now c.args.obus.now c.args.out.now c.loop-bytes.n c.loop-bytes.bytes-index c.loop-bytes.at c.loop-bytes.out
    c.loop-bytes.invariant
    c.requires.1 (omega arith)

pub loop-bytes-preserved : goal.loop-bytes-preserved
loop-bytes-preserved c =
    writing_next c.args.lens.now c.args.obus.now c.args.out.now c.loop-bytes.n c.loop-bytes.bytes-index c.loop-bytes.at c.loop-bytes.out
    c.loop-bytes.invariant
    c.requires.1 (omega arith) _ c.write_obu-n.ensures.value _ c.write_obu-n.ensures.out_after

pub returns : goal.returns
returns c =
    let all = writing_end c.args.lens.now c.args.obus.now c.args.out.now c.loop-bytes.n c.loop-bytes.bytes-index c.loop-bytes.at
    c.loop-bytes.out c.loop-bytes.invariant (omega arith) in
    record { value = all.0; out_after = all.1 }
