-- The invariant: the position that the kinds before i reach.
use Rattle.obu.specs.Table.{kind_meant}
use Rattle.obu.proofs.Orders.{Reached}
use Rattle.obu.proofs.ordering.order_kinds.Given as goal

abbrev pub invariant-loop-i : goal.invariant-loop-i
invariant-loop-i l = Reached kind_meant l.kinds l.position l.i
