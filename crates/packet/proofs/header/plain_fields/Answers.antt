-- The other fields are fixed in a plain packet.
use Rattle.std.proofs.Common.{rules}
use Rattle.packet.proofs.Plain.{plain_fields}
use Rattle.packet.proofs.header.plain_fields.Goals as goal

pub returns : goal.returns
returns c = let fixed = plain_fields c.args.packet.now c.requires in search rules
