-- The first packet has the header and the unit's first bytes; the others follow it.
use native.Mathlib.Omega.{arith}
use Prim.Native.Nat.{◌<◌}
use mathlib.Core.Path.{◌≡◌}
use lib.ListN.{length}
use Rattle.lists.specs.Lists.{Bytes}
use Rattle.queue.specs.Queue.{TimedUnit}
use Rattle.packet_writer.specs.declared.Start.{Start}
use Rattle.packet_writer.specs.Putting.{start_put}
use Rattle.mux.specs.Parts.{slot_unit}
use Rattle.mux.proofs.Placing.{Begun, begun_by}
use Rattle.mux.proofs.writing.put_unit.Goals.{After-put_start}
use Rattle.mux.proofs.writing.put_unit.Goals as goal

-- the first packet is put, with the header and the unit's first bytes
begins : (c : After-put_start)
    → let a = c.args in
    let u : TimedUnit = slot_unit a.slot a.unit.now in
    let flags = c.first_flags-flags.result in
    let s : Start = record { flags = flags; pts = u.pts; dts = u.dts; length = length u.carried } in
    (out1 : Bytes) → out1 ≡ start_put a.stream.pid a.stream.counter s c.part-begun.result.now a.out.now
    → Begun a.stream.pid a.stream.counter u a.out.now c.first_size-first.result flags out1
begins c out1 put =
    let a = c.args in
    let pre = c.requires in
    let size = c.head_size in
    let range = a.stream.in_range in
    begun_by a.stream.pid a.stream.counter (slot_unit a.slot a.unit.now) a.out.now range.0 range.1 pre.0 pre.1 pre.2
    size.result c.first_size-first.result c.first_flags-flags.result size.ensures.value
    c.first_size-first.ensures.value c.first_size-first.ensures.upper_bound c.first_flags-flags.ensures _ out1 c.part-begun.ensures put

pub invariant_of-next : goal.invariant_of-next
invariant_of-next c =
    let n : c.counter_after.result < 16 = omega (arith, c.counter_after.ensures) in
    record { in_range = (c.args.stream.in_range.0, n) }

pub put_others-requires : goal.put_others-requires
put_others-requires c = (begins (goal.at.put_others-requires c).After-put_start _ c.put_start.ensures).room _ c.rest-behind.ensures

pub returns : goal.returns
returns c =
    (begins (goal.at.returns c).After-put_start _ c.put_start.ensures).written _ _ _ c.rest-behind.ensures c.counter_after.ensures
    c.put_others.ensures
