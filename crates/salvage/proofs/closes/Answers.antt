-- The last three bytes decide, as `closes_ends` says of the definition.
use mathlib.Core.Path.{◌∙◌}
use Rattle.salvage.proofs.Closing.{closes_ends}
use Rattle.salvage.proofs.closes.Goals as goal

pub returns : goal.returns
returns c = c.ends_with.ensures.value ∙ closes_ends c.args.payload.now
