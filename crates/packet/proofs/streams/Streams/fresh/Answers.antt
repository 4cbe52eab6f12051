-- The numbers of one record are all 0.
use mathlib.Core.Path.{sym}
use Rattle.packet.proofs.Keeping.{fresh_numbers_lem}
use Rattle.packet.proofs.streams.Streams.fresh.Goals as goal

pub returns : goal.returns
returns c = sym fresh_numbers_lem
