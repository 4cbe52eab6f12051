-- The tries are those of the definition; the third does not refuse a plain packet.
use Rattle.std.proofs.Common.{rules}
use Rattle.refusal.specs.Verdict.{given, ◌>>◌}
use Rattle.lists.specs.Lists.{pick}
use Rattle.packet.specs.Header.{header_of}
use Rattle.packet.proofs.Plain.{plain_right}
use Rattle.packet.proofs.header.read_plain.Goals as goal

pub returns-then-byte_at-ne71 : goal.returns-then-byte_at-ne71
unfolding header_of given ◌>>◌ pick
returns-then-byte_at-ne71 c = search rules

pub returns-then-transport_error_indicator : goal.returns-then-transport_error_indicator
unfolding header_of given ◌>>◌ pick
returns-then-transport_error_indicator c = search rules

pub returns : goal.returns
unfolding header_of given ◌>>◌ pick
returns c = let right = plain_right c.args.packet.now c.requires in search rules
