-- The bytes are the eight from the number's place on.
use native.Mathlib.Omega.{arith}
use Prim.Native.Nat.{ℕ, ◌+◌, ◌-◌, ◌*◌}
use mathlib.Core.Path.{◌≡◌, ap, ◌∙◌}
use lib.ListN.{take, drop}
use Rattle.sheet.specs.Reading.{value_from, number}
use Rattle.sheet.proofs.Digits.{eight_joined}
use Rattle.sheet.proofs.numbers.number.Goals as goal

pub returns : goal.returns
unfolding number
returns c =
    let at = 8 * c.args.i in
    let e : at + 8 - at ≡ 8 = omega arith in
    c.from_be_bytes.ensures ∙ eight_joined c.copy_from_slice.new.self c.copy_from_slice.ensures.len
    ∙ ap (value_from 0) (c.copy_from_slice.ensures.after ∙ ap (λ (n : ℕ). take n (drop at c.args.sheet.now)) e)
