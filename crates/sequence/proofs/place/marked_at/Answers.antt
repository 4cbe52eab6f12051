-- `starts_with` makes the three tests of the definition.
use Rattle.std.proofs.Common.{◌∙◌}
use Rattle.sequence.proofs.Places.{starts_marked}
use Rattle.sequence.proofs.place.marked_at.Goals as goal

pub returns : goal.returns
returns c = c.starts_with.ensures.value ∙ starts_marked c.args.payload.now c.args.i
