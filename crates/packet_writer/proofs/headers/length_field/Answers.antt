-- A number of more than 16 bits is written as 0.
use Prim.Native.Nat.{◌+◌}
use native.Mathlib.Omega.{arith}
use mathlib.Core.Path.{refl}
use Rattle.lists.proofs.Picks.{by_lt, by_ge}
use Rattle.packet_writer.specs.Parts.{field_of}
use Rattle.packet_writer.proofs.headers.length_field.Goals as goal

pub returns-then-head-n : goal.returns-then-head-n
unfolding field_of
returns-then-head-n c = let a = c.args in
    record {
      value = by_lt {m = 65535} {n = a.head + a.n} _ (omega (arith, c.if-head-n.true)) refl;
      upper_bound = omega arith;
    }

pub returns : goal.returns
unfolding field_of
returns c = let a = c.args in
    record {
      value = by_ge {m = 65535} {n = a.head + a.n} _ (omega (arith, c.if-head-n.false)) refl;
      upper_bound = omega arith;
    }
