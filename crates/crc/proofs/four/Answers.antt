-- What four bytes, added to the register, leave is the register after them: `four_all`.
use mathlib.Core.Path.{ap, ◌∙◌}
use Prim.Native.Nat.{ℕ}
use native.Mathlib.Omega.{arith}
use lib.Bits.{bit_xor}
use Rattle.std.proofs.Common.{rules}
use Rattle.crc.specs.Parts.{zeros_step}
use Rattle.crc.proofs.Slicing.{be_word, four_all}
use Rattle.crc.proofs.four.Goals as goal

pub returns : goal.returns
returns c =
    c.left_by_four.ensures
    ∙ ap (λ (w : ℕ). zeros_step 4 (bit_xor c.args.register w))
    (c.from_be_bytes.ensures ∙ be_word _ _ _ _ (search rules) (search rules) (search rules))
    ∙ four_all c.args.register c.args.bytes (omega arith) (search rules) (search rules)
