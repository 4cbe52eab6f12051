-- The other records move down by one slot.
use Prim.Native.Nat.{ℕ}
use native.Mathlib.Omega.{arith}
use mathlib.Core.Path.{◌≡◌, ap, ◌∙◌}
use mathlib.Core.List.{◌++◌}
use lib.ListN.{length, take, drop, set}
use Rattle.queue.specs.declared.records.Queued.{Queued}
use Rattle.queue.specs.Queue.{no_record}
use Rattle.queue.proofs.Slots.{same_queue, record_moved, shifted}
use Rattle.queue.proofs.records.Queue.remove_first.Goals as goal

pub loop-i-preserved : goal.loop-i-preserved
loop-i-preserved c =
    let long : length c.args.self.now.units ≡ 8 = omega arith in
    let h = c.loop-i.invariant in
    (h.0, h.1, record_moved c.args.self.now.units c.loop-i.self.units c.loop-i.i no_record (omega arith) h.2)

pub returns : goal.returns
returns c =
    let l = c.args.self.now.units in
    let long : length l ≡ 8 = omega arith in
    let h = c.loop-i.invariant in
    let end : c.loop-i.i ≡ 7 = omega arith in
    same_queue h.0
    (ap (λ (r : Queued). set c.loop-i.self.units 7 r) c.none.ensures
    ∙ shifted l c.loop-i.self.units no_record long (h.2 ∙ ap (λ (i : ℕ). take i (drop 1 l) ++ drop i l) end)) h.1
