-- The queue that was handed in is valid for these units, so the inner function's promise holds.
use mathlib.Core.Path.{ap₂, ◌∙◌}
use Rattle.av1ts.proofs.Queues.{holds_queue}
use Rattle.answers.specs.Queueing.{drop_answer}
use Rattle.av1ts.proofs.queueing.av1ts_queue_drop.Goals as goal

pub returns : goal.returns
returns c = λ units h.
    let d = c.drop_oldest-dropped.ensures units (holds_queue h _ c.into-inner.ensures) in
    record { answers = c.dropped.ensures ∙ ap₂ drop_answer d.answers d.queue; leaves = d.leaves }
