-- Where 00 00 stands nowhere, 00 00 03 does not.
use Rattle.std.proofs.Common.{sym, ap, ◌∙◌, drop, Bool}
use Rattle.lists.specs.Lists.{Bytes}
use Rattle.emulation.specs.Blocks.{free_of, paired}
use Rattle.emulation.specs.Parts.{marked}
use Rattle.emulation.proofs.Hits.{free_either}
use Rattle.emulation.proofs.Critical.{unpaired_unmarked}
use Rattle.emulation.proofs.Zeros.{is_marked}
use Rattle.emulation.proofs.blocks.unmarked.Goals as goal

pub returns-then-unpaired : goal.returns-then-unpaired
returns-then-unpaired c =
    let free = free_either paired marked unpaired_unmarked c.args.s.now c.args.i in
    c.if-unpaired.true ∙ sym (free (sym c.unpaired.ensures ∙ c.if-unpaired.true))

pub returns-else-unpaired : goal.returns-else-unpaired
returns-else-unpaired c =
    c.free_of.ensures ∙ ap (λ (test : Bytes → Bool). free_of test (drop c.args.i c.args.s.now)) is_marked
