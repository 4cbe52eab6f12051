-- The PCR is noted and the counter is checked; where that passed, a packet with payload that is no repeat goes on with what it carries.
use Rattle.std.specs.Prelude.{Ok, Err}
use mathlib.Core.Bool.{Bool, true, false, not, ◌&&◌}
use mathlib.Core.Path.{◌≡◌, refl, sym, ap, ◌∙◌}
use Rattle.std.proofs.lemmas.Result.{err_from_is_err_and}
use Rattle.lists.specs.Lists.{Bytes}
use Rattle.descriptor.specs.Naming.{edition_says}
use Rattle.packet.specs.Header.{fields, has_payload}
use Rattle.packet.proofs.Headers.{passed_fields}
use Rattle.segment_rules.specs.Check.{outputs_of, rooms_of}
use Rattle.tables.specs.Tables.{kind_says, counter_result}
use Rattle.extraction.specs.declared.packets.State.{State}
use Rattle.extraction.specs.Packets.{StateKept}
use Rattle.extraction.specs.Parts.{with_clock}
use Rattle.extraction.proofs.Stepping.{counted, counter_wrong, has_payload_so, next_stands, passed_over, taken_both, with_content}
use Rattle.extraction.proofs.packets.State.step_read.Goals as goal

pub returns-in_err-repeat : goal.returns-in_err-repeat
returns-in_err-repeat c =
    let a = c.args in
    let k = a.packet in
    let x = err_from_is_err_and c.from_residual.result c.from_residual.ensures.1 in
    let next : State = with_clock a.self.now c.last_pcr-self.result in
    let now = outputs_of a.out.now a.lens.now a.times.now in
    rw (x.1, x.2) (
      (λ edition before p st same right there s.
          counter_wrong (edition_says edition) (rooms_of before) k.index p (kind_says k.kind) st k.header right (Err _) false
          (StateKept edition a.segment.now before now next c.check_counter.new.records)
          (counted s k p next (counter_result (Err _)) c.check_counter.new.records same (passed_fields p _ right) there
          (refl, c.last_pcr-self.ensures) c.in_err-repeat.ensures.counter_refines) _ refl),
      ((λ k p. (refl, refl)), (λ q k. refl)),
    )

pub returns-then-not-is_taken : goal.returns-then-not-is_taken
returns-then-not-is_taken c =
    let a = c.args in
    let k = a.packet in
    let repeat = c.in_ok-repeat.repeat in
    let next : State = with_clock a.self.now c.last_pcr-self.result in
    let now = outputs_of a.out.now a.lens.now a.times.now in
    let over : (p : Bytes) → k.header ≡ fields p → (has_payload p && not repeat) ≡ false =
    λ p e. ap (λ (b : Bool). b && not repeat) (has_payload_so p k.header e ∙ sym c.is_some.ensures) ∙ sym c.is_taken.ensures
    ∙ c.if-not-is_taken.true in (
      (λ edition before p st same right there s.
          let fits = passed_fields p _ right in
          passed_over (edition_says edition) (rooms_of before) k.index p (kind_says k.kind) st k.header right (Ok tt) repeat
          (StateKept edition a.segment.now before now next c.check_counter.new.records)
          (counted s k p next (counter_result (Ok repeat)) c.check_counter.new.records same fits there
          (refl, c.last_pcr-self.ensures) c.in_ok-repeat.ensures.counter_refines) refl (over p fits)),
      ((λ k p. (refl, refl)), (λ q k. refl)),
    )

pub returns : goal.returns
returns c =
    let a = c.args in
    let k = a.packet in
    let repeat = c.in_ok-repeat.repeat in
    let next : State = with_clock a.self.now c.last_pcr-self.result in
    let now = outputs_of a.out.now a.lens.now a.times.now in
    let taken : (p : Bytes) → k.header ≡ fields p → (has_payload p ≡ true) × (repeat ≡ false) =
    λ p e. taken_both (has_payload p) repeat
    (ap (λ (b : Bool). b && not repeat) (has_payload_so p k.header e ∙ sym c.is_some.ensures) ∙ sym c.is_taken.ensures
    ∙ c.if-not-is_taken.false) in (
      (λ edition before p st same right there s.
          let fits = passed_fields p _ right in
          let Stands = StateKept edition a.segment.now before now next c.check_counter.new.records in
          let counts = counted s k p next (counter_result (Ok repeat)) c.check_counter.new.records same fits there
          (refl, c.last_pcr-self.ensures) c.in_ok-repeat.ensures.counter_refines in
          with_content (edition_says edition) (rooms_of before) k.index p (kind_says k.kind) st k.header right (Ok tt) repeat Stands counts
          refl (taken p fits).1 c.take_content.result _
          (c.take_content.ensures.0 edition before p _ same fits
          (taken p fits).0
          (next_stands (edition_says edition) (rooms_of before) k.index p (kind_says k.kind) st k.header right (Ok tt) repeat Stands counts
          refl))),
      c.take_content.ensures.1,
    )
