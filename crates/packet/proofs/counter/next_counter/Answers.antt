-- The last counter is below 16, or only its rest by 16 counts.
use Rattle.std.proofs.Common.{rules}
use Rattle.lists.specs.Lists.{pick}
use Rattle.packet.specs.Counter.{due}
use Rattle.packet.proofs.counter.next_counter.Goals as goal

pub returns-then-payload : goal.returns-then-payload
unfolding due pick
returns-then-payload c = search rules

pub returns : goal.returns
unfolding due pick
returns c = search rules
