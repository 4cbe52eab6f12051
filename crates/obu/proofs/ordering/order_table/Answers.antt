-- One test over the whole table, which antt computes; the law turns it into the rule at each entry.
use mathlib.Core.Path.{refl}
use Rattle.lists.specs.Lists.{any, all}
use Rattle.lists.proofs.Tables.{all_below}
use Rattle.obu.specs.Order.{kind_of_number}
use Rattle.obu.proofs.Orders.{after_front, after_tiles, after_start, after, right, all_right, is_order_table}
use Rattle.obu.proofs.ordering.order_table.Goals as goal

pub returns : goal.returns
unfolding all_right all_below all right after after_front after_tiles after_start any kind_of_number
returns c = is_order_table _ refl
