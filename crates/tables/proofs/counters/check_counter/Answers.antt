-- A kind that has no slot has no record; of another the record in the slot is checked, and put back where its packet passed.
use mathlib.Core.Path.{sym, ap, ◌∙◌}
use Rattle.refusal.specs.Number.{refused_by}
use Rattle.tables.proofs.Counting.{counter_away, checks_by, counter_refused, counter_right}
use Rattle.tables.proofs.counters.check_counter.Goals as goal

pub returns-in_default-clause-counter_refines : goal.returns-in_default-clause-counter_refines
returns-in_default-clause-counter_refines c p records own read looked lie few kept =
    counter_away c.args.segment.now c.args.packet _ p records looked lie few kept (sym c.slot.ensures ∙ c.in_default.is)

pub returns-in-Err-clause-counter_refines : goal.returns-in-Err-clause-counter_refines
returns-in-Err-clause-counter_refines c p records own read looked lie few kept =
    let a = c.args in
    let slot = sym c.slot.ensures ∙ c.in-Some.is in
    counter_refused a.segment.now a.packet _ p records looked lie few kept _ slot _
    (checks_by a.segment.now a.packet _ p records looked lie few kept _ slot own read _ c.last_at-last.ensures _ c.packet_at.ensures _
    c.equals_last-equal.ensures _ c.counted.ensures c.check-checked.result c.check-checked.ensures.of)
    _ c.in-Err.is
    ∙ ap refused_by (sym c.at.ensures)

pub returns-clause-counter_refines : goal.returns-clause-counter_refines
returns-clause-counter_refines c p records own read looked lie few kept =
    let a = c.args in
    let slot = sym c.slot.ensures ∙ c.in-Some.is in
    counter_right a.segment.now a.packet _ p records looked lie few kept _ slot _
    (checks_by a.segment.now a.packet _ p records looked lie few kept _ slot own read _ c.last_at-last.ensures _ c.packet_at.ensures _
    c.equals_last-equal.ensures _ c.counted.ensures c.check-checked.result c.check-checked.ensures.of)
    c.in_default-verdict.is _ c.put_last.ensures _ c.is_repeat.ensures
