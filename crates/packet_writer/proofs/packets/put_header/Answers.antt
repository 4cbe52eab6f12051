-- The flag is bit 6, which is set where the packet starts a PES or a section; the PID's upper bits stand below it.
use native.Mathlib.Omega.{arith}
use Prim.Native.Nat.{◌*◌}
use mathlib.Core.Path.{◌≡◌, ◌∙◌, ap}
use Rattle.lists.specs.Lists.{Bytes, over}
use Rattle.lists.proofs.Writing.{fits}
use Rattle.packet.specs.Writing.{flag}
use Rattle.packet_writer.proofs.Puts.{header_by, flag_on, flag_off}
use Rattle.packet_writer.proofs.packets.put_header.Goals as goal
use Rattle.packet_writer.proofs.packets.put_header.Goals.{then-start, else-start}

pub returns : goal.returns
returns c =
    let a = c.args in
    let bit : c.if-start.flag ≡ flag a.start * 64 = elim c.if-start.branch [
      | then-start w ↦ let f = flag_on _ w.if-start.true in omega arith
      | else-start w ↦ let f = flag_off _ w.if-start.false in omega arith
    ] in
    c.copy.ensures ∙ fits a.out.now _ (omega arith)
    ∙ ap (λ (x : Bytes). over x a.out.now) (header_by a.start a.place.pid a.control a.place.counter _ _ bit c.two_bytes-pid.ensures)
