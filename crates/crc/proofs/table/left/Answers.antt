-- antt computes each entry of the table.
use mathlib.Core.Path.{refl}
use native.Mathlib.Omega.{arith}
use Rattle.lists.specs.Lists.{pick}
use Rattle.crc.proofs.Rows.{spread, rows}
use Rattle.crc.proofs.Entries.{entries, of_table}
use Rattle.crc.proofs.table.left.Goals as goal

pub returns : goal.returns
unfolding entries rows spread pick
returns c = of_table _ c.args.k c.args.byte _ _ refl c.requires (omega arith)
