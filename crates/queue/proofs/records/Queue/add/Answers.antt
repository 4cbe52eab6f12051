-- The tries are those of the definition, in its order; where none refuses, the unit's bytes stand behind those that are queued.
use native.Mathlib.Omega.{arith}
use mathlib.Core.Path.{refl, sym, ◌∙◌}
use Rattle.queue.specs.Queue.{timed}
use Rattle.lists.proofs.Parts.{tail_prefix}
use Rattle.queue.proofs.Operations.{total_within, adds_full, adds_unacceptable, adds_no_room, adds_added}
use Rattle.queue.proofs.records.Queue.add.Goals as goal

pub returns-then-self-ge-MOST_UNITS : goal.returns-then-self-ge-MOST_UNITS
returns-then-self-ge-MOST_UNITS c = λ units q.
    let a = c.args in
    adds_full q (timed a.unit.now a.pts a.dts a.marked) c.if-self-ge-MOST_UNITS.true _ c.at.ensures

pub returns-then-not_acceptable : goal.returns-then-not_acceptable
returns-then-not_acceptable c = λ units q.
    let a = c.args in
    adds_unacceptable q (timed a.unit.now a.pts a.dts a.marked) (omega arith) (sym c.not_acceptable.ensures
    ∙ c.if-not_acceptable.true) _ c.at-then-not_acceptable.ensures

pub returns-then-store-used-2 : goal.returns-then-store-used-2
returns-then-store-used-2 c = λ units q.
    let a = c.args in
    adds_no_room q (timed a.unit.now a.pts a.dts a.marked) (omega arith) (sym c.not_acceptable.ensures
    ∙ c.if-not_acceptable.false) _ refl c.if-store-used-2.true _ c.at-then-store-used-2.ensures

pub returns : goal.returns
returns c = λ units q.
    let a = c.args in
    let t = total_within q in
    adds_added q (timed a.unit.now a.pts a.dts a.marked) (omega arith) (sym c.not_acceptable.ensures
    ∙ c.if-not_acceptable.false) a.self.now.total refl (omega arith) _ _
    (tail_prefix a.self.now.total a.store.now a.unit.now _ (omega arith) c.copy.ensures) c.push.ensures
