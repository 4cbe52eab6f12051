-- The test that the code makes is the one that the definition picks by.
use Rattle.std.proofs.Common.{rules}
use Rattle.lists.specs.Lists.{pick}
use Rattle.obu.specs.Header.{fixed_bytes}
use Rattle.obu.proofs.header.fixed_bytes.Goals as goal

pub returns-then-extension_bit : goal.returns-then-extension_bit
unfolding fixed_bytes pick
returns-then-extension_bit c = search rules

pub returns-else-extension_bit : goal.returns-else-extension_bit
unfolding fixed_bytes pick
returns-else-extension_bit c = search rules
