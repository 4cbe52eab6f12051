-- Four words of four bytes, of which the first is added to the register: `sixteen_all` says that what they leave is the register after the
-- sixteen.
use mathlib.Core.Path.{ap, ap₂, ◌∙◌}
use Prim.Native.Nat.{ℕ}
use native.Mathlib.Omega.{arith}
use lib.Bits.{bit_xor}
use Rattle.std.proofs.Common.{rules}
use Rattle.crc.specs.Parts.{zeros_step}
use Rattle.crc.proofs.Slicing.{sixteen_all}
use Rattle.crc.proofs.sixteen.Goals as goal

pub returns : goal.returns
returns c =
    ap₂ bit_xor (ap₂ bit_xor (ap₂ bit_xor
    (c.left_by_four-fourth.ensures ∙ ap (zeros_step 4) c.word_at.ensures)
    (c.left_by_four-third.ensures ∙ ap (zeros_step 8) c.word_at-2.ensures))
    (c.left_by_four-second.ensures ∙ ap (zeros_step 12) c.word_at-3.ensures))
    (c.left_by_four-first.ensures ∙ ap (λ (w : ℕ). zeros_step 16 (bit_xor c.args.register w)) c.word_at-4.ensures)
    ∙ sixteen_all c.args.register c.args.bytes.now (omega arith) (search rules) (search rules)
