-- The test is the one that the definition picks by.
use Rattle.std.proofs.Common.{rules}
use Rattle.lists.specs.Lists.{pick}
use Rattle.packet.specs.Header.{header_length}
use Rattle.packet.proofs.header.header_length.Goals as goal

pub returns-then-has_adaptation_field : goal.returns-then-has_adaptation_field
unfolding header_length pick
returns-then-has_adaptation_field c = search rules

pub returns : goal.returns
unfolding header_length pick
returns c = search rules
