-- The eight bytes are the number's, and they are copied to what lies from the place on.
use native.Mathlib.Omega.{arith}
use mathlib.Core.Path.{ap, ◌∙◌}
use lib.ListN.{length}
use Rattle.lists.specs.Lists.{placed}
use Rattle.lists.proofs.Parts.{tail_prefix}
use Rattle.segment_sheet.proofs.Filling.{eight_bytes}
use Rattle.segment_sheet.proofs.numbers.put_number.Goals as goal

pub returns : goal.returns
returns c =
    let a = c.args in
    let e = c.to_be_bytes.ensures in
    tail_prefix a.at a.sheet.now _ _ (omega (arith, ap length e)) c.copy.ensures ∙ ap (placed a.sheet.now a.at) (e ∙ eight_bytes a.n)
