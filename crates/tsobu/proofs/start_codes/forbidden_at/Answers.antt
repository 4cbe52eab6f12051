-- Only where all three bytes are such, a forbidden sequence is said to stand.
use native.Mathlib.Omega.{arith}
use mathlib.Core.Path.{sym, ◌∙◌}
use borrow.Author.Tests.{eqb-true}
use Rattle.lists.proofs.Tests.{and_both}
use Rattle.emulation.proofs.Zeros.{from_zero}
use Rattle.tsobu.proofs.Scanning.{forbidden_low}
use Rattle.tsobu.proofs.start_codes.forbidden_at.Goals as goal

pub returns-then-s-i-ge3 : goal.returns-then-s-i-ge3
returns-then-s-i-ge3 c =
    λ e.
    let a = and_both _ _ (sym c.zeros_then.ensures ∙ e) in
    let b = and_both _ _ a.0 in
    forbidden_low c.args.s.now c.args.i (omega (arith, c.if-s-i-ge3.true)) (eqb-true _ 0 b.0) (eqb-true _ 0 b.1) (sym (from_zero _ _) ∙ a.1)
