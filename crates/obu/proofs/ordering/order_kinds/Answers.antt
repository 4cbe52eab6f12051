use Rattle.obu.specs.Table.{kind_meant}
use Rattle.obu.proofs.Orders.{at_start, goes_on, breaks, too_soon, in_order, ends, goes_on_from, led}
use Rattle.obu.proofs.ordering.order_kinds.Goals as goal

pub loop-i-init : goal.loop-i-init
loop-i-init c = at_start kind_meant _

pub returns-in_default : goal.returns-in_default
returns-in_default c =
    rw c.at.ensures (breaks c.loop-i.invariant c.loop-i-test.true _ _ (led _ _ c.number.ensures c.next.ensures) c.in_default.is)

pub loop-i-preserved : goal.loop-i-preserved
loop-i-preserved c = goes_on c.loop-i.invariant c.loop-i-test.true _ _ (led _ _ c.number.ensures c.next.ensures) _ c.in-Some.is

pub returns-in-Ended : goal.returns-in-Ended
returns-in-Ended c = in_order c.loop-i.invariant c.loop-i-test.false (ends _ c.in-Ended.is)

pub returns-in-Start : goal.returns-in-Start
returns-in-Start c = rw c.at-in-Start.ensures (too_soon c.loop-i.invariant c.loop-i-test.false (goes_on_from _ c.in-Start.is))
