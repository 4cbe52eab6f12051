-- The tests are those that the definition picks by.
use Rattle.std.proofs.Common.{rules}
use Rattle.lists.specs.Lists.{pick}
use Rattle.packet.specs.Header.{pcr}
use Rattle.packet.proofs.header.packet_pcr.Goals as goal

pub returns-then-pid_of-eq-NULL_PID : goal.returns-then-pid_of-eq-NULL_PID
unfolding pcr pick
returns-then-pid_of-eq-NULL_PID c = search rules

pub returns : goal.returns
unfolding pcr pick
returns c = search rules
