-- The tests of the definition, in its order; what stands behind the fixed fields is read by itself.
use mathlib.Core.Bool.{not}
use mathlib.Core.Path.{sym, ap, ◌∙◌}
use borrow.Author.Tests.{eq-eqb, ne_eqb}
use Rattle.refusal.proofs.Verdicts.{refuse, pass_on}
use Rattle.pmt.proofs.Reading.{section_map}
use Rattle.pmt.proofs.section.read_pmt.Goals as goal

pub returns-then-common_wrong : goal.returns-then-common_wrong
returns-then-common_wrong c = rw (c.at.ensures, section_map) (refuse 26 _ (sym c.common_wrong.ensures ∙ c.if-common_wrong.true))

pub returns : goal.returns
returns c =
    rw section_map
    (pass_on 26 (sym c.common_wrong.ensures ∙ c.if-common_wrong.false)
    (pass_on 26 (ap not (eq-eqb _ _ (sym c.from_be_bytes.ensures ∙ c.if-from_be_bytes-program.false))) c.read_body.ensures))

pub returns-then-from_be_bytes-program : goal.returns-then-from_be_bytes-program
returns-then-from_be_bytes-program c =
    rw (c.at-then-from_be_bytes-program.ensures, section_map)
    (pass_on 26 (sym c.common_wrong.ensures ∙ c.if-common_wrong.false)
    (refuse 26 _ (ap not (ne_eqb _ _ (λ e. c.if-from_be_bytes-program.true (c.from_be_bytes.ensures ∙ e))))))
