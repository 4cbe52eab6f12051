-- Fourteen bytes, and five more where both times are written.
use native.Mathlib.Omega.{arith}
use mathlib.Core.Path.{refl}
use Rattle.lists.proofs.Picks.{by_eq, by_ne}
use Rattle.packet_writer.specs.Putting.{head_size}
use Rattle.packet_writer.proofs.headers.head_size.Goals as goal

pub returns-then-pts-dts : goal.returns-then-pts-dts
unfolding head_size
returns-then-pts-dts c = record {
  value = by_eq _ c.if-pts-dts.true refl;
  upper_bound = omega arith;
}

pub returns : goal.returns
unfolding head_size
returns c = record {
  value = by_ne _ c.if-pts-dts.false refl;
  upper_bound = omega arith;
}
