-- The empty queue, whatever was handed in.
use mathlib.Core.Bool.{false}
use mathlib.Core.Path.{ap, ◌∙◌}
use Rattle.answers.specs.Queueing.{drop_answer}
use Rattle.av1ts.proofs.queueing.av1ts_queue_clear.Goals as goal

pub returns : goal.returns
returns c = c.dropped.ensures ∙ ap (drop_answer false) c.clear.ensures
