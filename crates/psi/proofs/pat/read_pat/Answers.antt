-- The tries of the definition, in its order. A section whose common fields are right has at least 12 bytes, so its entries lie within it.
use Prim.Native.Nat.{ℕ, ◌%◌}
use mathlib.Core.Bool.{false, not}
use mathlib.Core.Path.{◌≡◌, sym, ap, ◌∙◌}
use native.Mathlib.Omega.{arith}
use borrow.Author.Tests.{eq-eqb, ne_eqb}
use lib.Dec.{eqb}
use Rattle.lists.specs.Lists.{Bytes, those}
use Rattle.refusal.proofs.Verdicts.{refuse, pass_on}
use Rattle.psi.specs.Section.{common_wrong}
use Rattle.psi.specs.Pat.{programs, not_zero, one_program, read_pat}
use Rattle.psi.proofs.Fields.{long_enough, up_to_crc_lem, up_to_crc_length}
use Rattle.psi.proofs.pat.read_pat.Goals.{Else-common_wrong}
use Rattle.psi.proofs.pat.read_pat.Goals as goal

-- behind the first try
common_right : (c : Else-common_wrong) → common_wrong 0 12 c.args.section.now ≡ false
common_right c = sym c.common_wrong.ensures ∙ c.if-common_wrong.false

pub returns-then-common_wrong : goal.returns-then-common_wrong
unfolding read_pat
returns-then-common_wrong c = grind (arith, refuse)

pub returns-then-end-ne0 : goal.returns-then-end-ne0
unfolding read_pat
returns-then-end-ne0 c =
    let s = c.args.section.now in
    rw c.at-then-end-ne0.ensures
    (pass_on 25 (common_right (goal.at.returns-then-end-ne0 c).Else-common_wrong)
    (refuse 25 _ (ap (λ (n : ℕ). not (eqb (n % 4) 0)) (up_to_crc_length s 8) ∙ ap not (ne_eqb _ _ c.if-end-ne0.true))))

pub returns : goal.returns
unfolding read_pat
returns c =
    let s = c.args.section.now in
    c.one_program.ensures
    ∙ pass_on 25 (common_right (goal.at.returns c).Else-common_wrong)
    (pass_on 25 (ap (λ (n : ℕ). not (eqb (n % 4) 0)) (up_to_crc_length s 8) ∙ ap not (eq-eqb _ _ c.if-end-ne0.false))
    (ap (λ (l : Bytes). one_program (those not_zero (programs l)))
    (up_to_crc_lem s 8 (omega (arith, long_enough _ _ _ (common_right (goal.at.returns c).Else-common_wrong))))))
