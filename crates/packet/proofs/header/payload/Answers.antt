-- The test is the one that the definition picks by; behind the end there is nothing.
use Rattle.std.proofs.Common.{rules}
use lib.Seq.{drop-length}
use Rattle.lists.specs.Lists.{pick}
use Rattle.packet.specs.Header.{payload}
use Rattle.packet.proofs.header.payload.Goals as goal

pub returns-then-has_payload : goal.returns-then-has_payload
unfolding payload pick
returns-then-has_payload c = search rules

pub returns : goal.returns
unfolding payload pick
returns c = search (rules, drop-length)
