-- The byte and the register's highest byte, added, leave an entry of `byte_entry`: this entry and a shift are the byte's eight steps.
use native.Mathlib.Omega.{arith}
use mathlib.Core.Path.{sym, ap, ◌∙◌}
use lib.Bits.{bit_xor}
use Prim.Native.Nat.{◌*◌, ◌/◌, ◌%◌, ◌^◌}
use Rattle.crc.proofs.Linear.{byte_entry}
use Rattle.crc.proofs.Slicing.{left_none}
use Rattle.crc.proofs.step.Goals as goal

pub returns : goal.returns
returns c =
    let register = c.args.register in
    ap (bit_xor (register % 2 ^ 24 * 256)) (c.left.ensures ∙ left_none (bit_xor (register / 2 ^ 24) c.args.byte))
    ∙ sym (byte_entry register c.args.byte (omega arith) (omega arith))
