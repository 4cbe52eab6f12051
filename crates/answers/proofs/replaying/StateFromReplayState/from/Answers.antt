-- The fields of the struct are those of the state.
use Rattle.std.proofs.Common.{rules}
use Rattle.lists.specs.Lists.{pick}
use Rattle.answers.specs.Replaying.{last_from, above_from}
use Rattle.answers.proofs.replaying.StateFromReplayState.from.Goals as goal

pub returns : goal.returns
unfolding last_from above_from pick
returns c = search rules
