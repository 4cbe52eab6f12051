-- The bound by the lengths alone answers where it can; else the bytes are counted.
use native.Mathlib.Omega.{arith}
use Prim.Native.Nat.{ℕ}
use mathlib.Core.Path.{sym, ap}
use borrow.Author.Tests.{le-leb}
use lib.Dec.{leb}
use lib.ListN.{length}
use Rattle.unit.specs.Unit.{obus_of, carried}
use Rattle.unit.proofs.Writings.{carried_bound}
use Rattle.unit.proofs.writing.has_room.Goals as goal

pub returns-then-lens-obus : goal.returns-then-lens-obus
returns-then-lens-obus c =
    let lens = c.args.lens.now in
    let bytes = c.args.obus.now in
    sym
    (le-leb (length (carried (obus_of lens bytes))) c.args.room
    (omega (arith, c.if-lens-obus.true, carried_bound lens bytes c.requires.2)))

pub returns : goal.returns
returns c = ap (λ (n : ℕ). leb n c.args.room) c.carried_length.ensures
