use native.Mathlib.Omega.{arith}
use Prim.Native.Nat.{◌+◌, ◌≤◌}
use mathlib.Core.Path.{◌≡◌, ap, ◌∙◌}
use lib.ListN.{length, drop, length-take}
use Rattle.mux.proofs.Slotting.{slot_next, slot_last, well, well_slots, slot_short, packets_next, packets_none}
use Rattle.mux.specs.Parts.{slots_packets}
use Rattle.queue.specs.Queue.{no_record}
use Rattle.mux.proofs.measuring.queue_packets.Goals as goal

pub filled-slots-requires : goal.filled-slots-requires
filled-slots-requires c = (well c.args.queue.now c.args.room c.requires).0

pub slot_packets-total-requires : goal.slot_packets-total-requires
slot_packets-total-requires c =
    let rs = c.filled-slots.result.now in
    slot_short rs c.args.room c.loop-slot.slot-index no_record (well_slots c.args.queue.now rs _ c.filled-slots.ensures c.requires)
    (omega arith)

pub overflow_add-total : goal.overflow_add-total
overflow_add-total c =
    let q = c.args.queue.now in
    omega (
      arith,
      ap length c.filled-slots.ensures,
      length-take q.count q.units,
      (well q c.args.room c.requires).0,
      c.slot_packets-total.ensures.1,
      c.loop-slot.invariant.1,
    )

pub loop-slot-preserved : goal.loop-slot-preserved
loop-slot-preserved c =
    let rs = c.filled-slots.result.now in
    let i = c.loop-slot.slot-index in
    let p = c.slot_packets-total.ensures in
    let n = ap slots_packets (slot_next rs i no_record (omega arith)) ∙ packets_next _ (drop (i + 1) rs) in
    (omega (arith, p.0, n, c.loop-slot.invariant.0), omega (arith, p.1, c.loop-slot.invariant.1))

pub returns : goal.returns
returns c =
    let q = c.args.queue.now in
    let rs = c.filled-slots.result.now in
    let e = c.filled-slots.ensures in
    let n = ap slots_packets (slot_last rs c.loop-slot.slot-index (omega arith)) ∙ packets_none in
    let all : c.loop-slot.total ≡ slots_packets rs = omega (arith, n, c.loop-slot.invariant.0) in
    let few : length rs ≤ 8 = omega (arith, ap length e, length-take q.count q.units, (well q c.args.room c.requires).0) in
    (all ∙ ap slots_packets e, omega (arith, c.loop-slot.invariant.1))
