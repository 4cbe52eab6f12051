-- The tries are those of the definition, in its order.
use Rattle.std.proofs.Common.{rules}
use Rattle.refusal.specs.Verdict.{given, ◌>>◌}
use Rattle.lists.specs.Lists.{pick}
use Rattle.packet.specs.Header.{header_of}
use Rattle.packet.proofs.header.read.Goals as goal

pub returns-then-byte_at-ne71 : goal.returns-then-byte_at-ne71
unfolding header_of given ◌>>◌ pick
returns-then-byte_at-ne71 c = search rules

pub returns-then-transport_error_indicator : goal.returns-then-transport_error_indicator
unfolding header_of given ◌>>◌ pick
returns-then-transport_error_indicator c = search rules

pub returns-then-header_wrong : goal.returns-then-header_wrong
unfolding header_of given ◌>>◌ pick
returns-then-header_wrong c = search rules

pub returns : goal.returns
unfolding header_of given ◌>>◌ pick
returns c = search rules
