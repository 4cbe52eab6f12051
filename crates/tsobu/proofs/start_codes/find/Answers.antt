use native.Mathlib.Omega.{arith}
use mathlib.Core.Path.{sym, ◌∙◌}
use Rattle.tsobu.proofs.Places.{before_code, before_byte, before_end}
use Rattle.tsobu.proofs.start_codes.find.Goals as goal

pub returns-then-s-from : goal.returns-then-s-from
returns-then-s-from c = omega (arith, before_end c.args.s.now c.args.from c.if-s-from.true)

pub returns-then-code_at : goal.returns-then-code_at
returns-then-code_at c = omega (arith, before_code _ (sym c.code_at.ensures ∙ c.if-code_at.true))

pub loop-i-preserved : goal.loop-i-preserved
loop-i-preserved c =
    omega (
      arith,
      before_byte c.args.s.now c.loop-i.i (omega arith)
          (sym c.code_at.ensures ∙ c.if-code_at.false),
    )

pub returns : goal.returns
returns c = omega (arith, before_end c.args.s.now c.loop-i.i (omega arith))
