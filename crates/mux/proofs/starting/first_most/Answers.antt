-- A mark takes the two bytes of an adaptation field.
use native.Mathlib.Omega.{arith}
use mathlib.Core.Path.{refl}
use Rattle.lists.proofs.Picks.{by_true, by_false}
use Rattle.mux_rules.specs.Packets.{first_most}
use Rattle.mux.proofs.starting.first_most.Goals as goal

pub returns-then-marked : goal.returns-then-marked
unfolding first_most
returns-then-marked c = record {
  value = by_true _ c.if-marked.true refl;
  lower_bound = (omega arith, omega arith);
}

pub returns : goal.returns
unfolding first_most
returns c = record {
  value = by_false _ c.if-marked.false refl;
  lower_bound = (omega arith, omega arith);
}
