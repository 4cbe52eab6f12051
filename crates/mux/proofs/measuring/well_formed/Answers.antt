use native.Mathlib.Omega.{arith}
use Prim.Native.Nat.{◌+◌}
use mathlib.Core.Path.{refl, sym, ap, ◌∙◌}
use mathlib.Core.List.{[]}
use lib.ListN.{drop}
use borrow.Author.Tests.{le-leb, lt-leb}
use Rattle.lists.proofs.Tests.{and_by_true, and_by_false}
use Rattle.mux.proofs.Slotting.{slot_next, slot_last, slot_fits, formed_none, formed_not, formed_on}
use Rattle.mux.specs.Parts.{formed, well_formed}
use Rattle.queue.specs.Queue.{no_record, most_units}
use Rattle.mux.proofs.measuring.well_formed.Goals as goal

pub returns-then-queue-gt8 : goal.returns-then-queue-gt8
unfolding well_formed
returns-then-queue-gt8 c = and_by_false _ (lt-leb c.args.queue.now.count most_units c.if-queue-gt8.true) refl

pub returns-then-slot_wrong : goal.returns-then-slot_wrong
unfolding well_formed
returns-then-slot_wrong c =
    let rs = c.filled-slots.result.now in
    let i = c.loop-slot.slot-index in
    let left = c.loop-slot.left in
    and_by_true (le-leb c.args.queue.now.count most_units (omega arith))
    (formed_not _ (drop (i + 1) rs) left (sym c.slot_wrong.ensures ∙ c.if-slot_wrong.true)
    ∙ ap (λ l. formed l left) (sym (slot_next rs i no_record (omega arith))) ∙ c.loop-slot.invariant
    ∙ ap (λ l. formed l c.args.room) c.filled-slots.ensures)

pub overflow_sub-left : goal.overflow_sub-left
overflow_sub-left c = slot_fits _ [] _ (sym c.slot_wrong.ensures ∙ c.if-slot_wrong.false)

pub loop-slot-preserved : goal.loop-slot-preserved
loop-slot-preserved c =
    let rs = c.filled-slots.result.now in
    let i = c.loop-slot.slot-index in
    let left = c.loop-slot.left in
    sym
    (ap (λ l. formed l left) (slot_next rs i no_record (omega arith))
    ∙ formed_on _ (drop (i + 1) rs) left (sym c.slot_wrong.ensures ∙ c.if-slot_wrong.false))
    ∙ c.loop-slot.invariant

pub returns : goal.returns
unfolding well_formed
returns c =
    let rs = c.filled-slots.result.now in
    let left = c.loop-slot.left in
    and_by_true (le-leb c.args.queue.now.count most_units (omega arith))
    (formed_none left ∙ ap (λ l. formed l left) (sym (slot_last rs c.loop-slot.slot-index (omega arith))) ∙ c.loop-slot.invariant
    ∙ ap (λ l. formed l c.args.room) c.filled-slots.ensures)
