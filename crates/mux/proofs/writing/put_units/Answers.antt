use native.Mathlib.Omega.{arith}
use Prim.Native.Nat.{◌-◌, ◌*◌, ◌≤◌}
use mathlib.Core.Path.{sym, ap, subst, ◌∙◌}
use mathlib.Core.List.{List, flatten}
use lib.ListN.{length, get_or}
use Rattle.lists.specs.Lists.{Bytes, over}
use Rattle.mux.proofs.Placing.{filling_start, filling_done, Turn, turn, part_is}
use Rattle.mux.specs.Parts.{slot_unit, slot_units, slots_packets}
use Rattle.mux_rules.specs.Packets.{packets_for, unit_packets, units_packets}
use Rattle.queue.specs.Queue.{no_record}
use Rattle.queue.specs.declared.records.Queued.{Queued}
use borrow.Rule.Slice.PartMut.{mid_of}
use Rattle.mux.proofs.Slotting.{well, well_slots, slot_next, slot_last}
use Rattle.mux.proofs.writing.put_units.Goals.{In-loop-slot}
use Rattle.mux.proofs.writing.put_units.Goals as goal

-- the slot of this turn
slot : (c : In-loop-slot)
    → let a = c.args in
    let rs = c.filled-slots.result.now in
    let l = c.loop-slot in
    Turn a.stream.pid a.stream.counter rs a.store.now a.out.now l.slot-index l.at l.to l.counter l.out (get_or rs l.slot-index no_record)
slot c =
    let a = c.args in
    let rs = c.filled-slots.result.now in
    let i = c.loop-slot.slot-index in
    turn a.stream.pid a.stream.counter rs a.store.now a.out.now (omega (arith, c.requires.1, ap slots_packets c.filled-slots.ensures))
    (well_slots a.queue.now rs _ c.filled-slots.ensures c.requires.0) c.loop-slot.invariant
    (get_or rs i no_record) (slot_next rs i no_record (omega arith))

pub filled-slots-requires : goal.filled-slots-requires
filled-slots-requires c = (well c.args.queue.now (length c.args.store.now) c.requires.0).0

pub loop-slot-init : goal.loop-slot-init
loop-slot-init c =
    let a = c.args in
    filling_start a.stream.pid a.stream.counter c.filled-slots.result.now a.store.now a.out.now a.stream.in_range.1
    (well_slots a.queue.now _ _ c.filled-slots.ensures c.requires.0)

pub overflow_add-end : goal.overflow_add-end
overflow_add-end c = omega (arith, (slot (goal.at.overflow_add-end c).In-loop-slot).ends)

pub slice_bounds-put_unit-end : goal.slice_bounds-put_unit-end
slice_bounds-put_unit-end c = (slot (goal.at.slice_bounds-put_unit-end c).In-loop-slot).ends

pub invariant_of-next : goal.invariant_of-next
invariant_of-next c = record { in_range = (c.args.stream.in_range.0, (slot (goal.at.invariant_of-next c).In-loop-slot).low) }

pub put_unit-requires : goal.put_unit-requires
put_unit-requires c =
    let store = c.args.store.now in
    let r = get_or c.filled-slots.result.now c.loop-slot.slot-index no_record in
    let s = slot (goal.at.put_unit-requires c).In-loop-slot in
    let p = part_is store c.loop-slot.at r.length in (
      s.sound.pts,
      s.sound.dts,
      subst (λ (x : Bytes). 188 * packets_for (slot_unit r x) ≤ length
          (mid_of c.loop-slot.to (length c.loop-slot.out - c.loop-slot.to) c.loop-slot.out)) (sym p) s.room,
    )

pub slot_packets-packets-requires : goal.slot_packets-packets-requires
slot_packets-packets-requires c = (slot (goal.at.slot_packets-packets-requires c).In-loop-slot).sound.short

pub loop-slot-preserved : goal.loop-slot-preserved
loop-slot-preserved c =
    let a = c.args in
    let r = get_or c.filled-slots.result.now c.loop-slot.slot-index no_record in
    let p = part_is a.store.now c.loop-slot.at r.length in
    (slot (goal.at.loop-slot-preserved c).In-loop-slot).filling _ _ _ c.slot_packets-packets.ensures.0 c.counter_after-counter.ensures
    (c.put_unit.ensures
    ∙ ap (λ (x : Bytes). over (flatten (unit_packets a.stream.pid c.loop-slot.counter (slot_unit r x)))
    (mid_of c.loop-slot.to (length c.loop-slot.out - c.loop-slot.to) c.loop-slot.out)) p)

pub returns : goal.returns
returns c =
    let a = c.args in
    let rs = c.filled-slots.result.now in
    filling_done a.stream.pid a.stream.counter rs a.store.now a.out.now
    (omega (arith, c.requires.1, ap slots_packets c.filled-slots.ensures))
    (well_slots a.queue.now rs _ c.filled-slots.ensures c.requires.0) c.loop-slot.invariant
    (slot_last rs c.loop-slot.slot-index (omega arith))
    ∙ ap (λ (l : List Queued). over (flatten (units_packets a.stream.pid a.stream.counter (slot_units l a.store.now))) a.out.now)
    c.filled-slots.ensures
