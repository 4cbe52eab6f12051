-- All eight slots are empty, and there are no bytes.
use mathlib.Core.Path.{ap}
use mathlib.Core.List.{flatten}
use lib.ListN.{replicate}
use Rattle.queue.specs.declared.records.Queued.{Queued}
use Rattle.queue.specs.Queue.{slots}
use Rattle.queue.proofs.Slots.{queue_with}
use Rattle.queue.proofs.records.Queue.empty.Goals as goal

pub returns : goal.returns
unfolding slots flatten
returns c = ap (λ (r : Queued). queue_with 0 (replicate 8 r) 0) c.none-none.ensures
