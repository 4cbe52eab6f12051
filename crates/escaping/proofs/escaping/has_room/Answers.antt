-- The bound of `escape_length` answers where it can; else the bytes are counted.
use native.Mathlib.Omega.{arith}
use mathlib.Core.Path.{sym, ap, ◌∙◌}
use borrow.Author.Tests.{le-leb}
use lib.ListN.{length}
use Prim.Native.Nat.{ℕ}
use lib.Dec.{leb}
use Rattle.emulation.specs.Payload.{escape}
use Rattle.emulation.proofs.Theorems.{escape_length}
use Rattle.escaping.proofs.escaping.has_room.Goals as goal

pub returns-then-obu-room : goal.returns-then-obu-room
returns-then-obu-room c =
    let s = c.args.obu.now in
    let h = c.if-obu-room.true in
    le-leb _ c.args.room h ∙ sym (le-leb (length (escape s)) c.args.room (omega (arith, h, escape_length s)))

pub returns-else-obu-room : goal.returns-else-obu-room
returns-else-obu-room c = ap (λ (n : ℕ). leb n c.args.room) c.measure.ensures
