-- There are flags where there is an adaptation field and its length is not 0.
use Rattle.std.proofs.Common.{rules}
use Rattle.lists.specs.Lists.{pick}
use Rattle.packet.specs.Header.{adaptation_flags}
use Rattle.packet.proofs.header.adaptation_flags.Goals as goal

pub returns-then-not-has_adaptation_field : goal.returns-then-not-has_adaptation_field
unfolding adaptation_flags pick
returns-then-not-has_adaptation_field c = search rules

pub returns : goal.returns
unfolding adaptation_flags pick
returns c = search rules
