-- The test is the one that the definition picks by.
use Rattle.std.proofs.Common.{rules}
use Rattle.lists.specs.Lists.{pick}
use Rattle.packet.specs.Header.{payload_place}
use Rattle.packet.proofs.header.payload_place.Goals as goal

pub returns-then-not-has_payload : goal.returns-then-not-has_payload
unfolding payload_place pick
returns-then-not-has_payload c = search rules

pub returns : goal.returns
unfolding payload_place pick
returns c = search rules
