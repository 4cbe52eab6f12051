-- The invariant: the position that the kinds that the numbers before i have reach.
use Rattle.obu.specs.Order.{kind_of_number}
use Rattle.obu.proofs.Orders.{Reached}
use Rattle.obu.proofs.ordering.order.Given as goal

abbrev pub invariant-loop-i : goal.invariant-loop-i
invariant-loop-i l = Reached kind_of_number l.numbers l.position l.i
