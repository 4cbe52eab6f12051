-- What `step_at` leaves is handed back: where a packet is refused, the state and the records are made anew.
use Rattle.std.specs.Prelude.{Ok, Err}
use mathlib.Core.Path.{refl, ap, ◌∙◌}
use Rattle.packet.proofs.Keeping.{fresh_numbers_lem}
use Rattle.segment_rules.specs.Check.{outputs_of}
use Rattle.extraction.specs.declared.packets.State.{State}
use Rattle.extraction.specs.Packets.{stepped}
use Rattle.extraction.proofs.Stepping.{steps_back}
use Rattle.extraction.proofs.packets.State.step.Goals as goal

pub returns-in-Ok : goal.returns-in-Ok
returns-in-Ok c =
    let a = c.args in
    let n = c.step_at.new in
    let e = c.in-Ok.ensures in
    steps_back a.self.now.tables.edition a.segment.now a.index a.self.now a.records.now (outputs_of a.out.now a.lens.now a.times.now)
    (outputs_of n.out n.lens n.times) (stepped n.self (Ok c.in-Ok.kind)) n.records (λ there. e.0 there _) e.1.0 e.1.1.0 e.1.1.1
    _ refl _ refl

pub returns-in-Err : goal.returns-in-Err
returns-in-Err c =
    let a = c.args in
    let n = c.step_at.new in
    let e = c.in-Err.ensures in
    steps_back a.self.now.tables.edition a.segment.now a.index a.self.now a.records.now (outputs_of a.out.now a.lens.now a.times.now)
    (outputs_of n.out n.lens n.times) (stepped n.self (Err c.in-Err.refused)) n.records (λ there. e.0 there _) e.1.0 e.1.1.0 e.1.1.1 _
    (ap (λ (x : State). stepped x (Err c.in-Err.refused)) c.fresh.ensures) _ (c.fresh-in-Err.ensures ∙ fresh_numbers_lem)
