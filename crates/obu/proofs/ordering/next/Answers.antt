-- The table's entry is what the order rule says; a number that no kind has is reserved, as 0 is.
use mathlib.Core.Path.{sym}
use native.Mathlib.Omega.{arith}
use Rattle.obu.proofs.Orders.{led, at_entry}
use Rattle.obu.proofs.Types.{above_kinds}
use Rattle.obu.proofs.ordering.next.Goals as goal

pub returns-then-number-ge-ROWS : goal.returns-then-number-ge-ROWS
returns-then-number-ge-ROWS c =
    led _ _ (sym (above_kinds c.args.number c.if-number-ge-ROWS.true))
    (at_entry c.args.table.now c.requires 0 c.args.position (omega arith))

pub returns : goal.returns
returns c =
    at_entry c.args.table.now c.requires c.args.number c.args.position (let h = c.if-number-ge-ROWS.false in omega arith)
