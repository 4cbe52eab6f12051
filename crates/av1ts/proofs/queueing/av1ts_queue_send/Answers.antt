-- The queue that was handed in is valid for these units, so the inner function's promise holds.
use mathlib.Core.Path.{◌∙◌}
use Rattle.av1ts.proofs.Queues.{holds_queue, sent_from, sends_as}
use Rattle.av1ts.proofs.queueing.av1ts_queue_send.Goals as goal

pub returns : goal.returns
returns c = λ units h.
    let d = sends_as c.into-next.ensures (c.send-answer.ensures units (holds_queue h _ c.into-inner.ensures)) in
    record { answers = c.sent.ensures ∙ sent_from d.answers d.next d.queue; leaves = d.leaves }
