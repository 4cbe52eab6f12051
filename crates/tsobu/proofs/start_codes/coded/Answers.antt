-- Where 00 00 stands nowhere, no start code does.
use Rattle.std.proofs.Common.{sym, ap, ◌∙◌, not, drop, Bool}
use Rattle.lists.specs.Lists.{Bytes}
use Rattle.emulation.specs.Blocks.{free_of, paired}
use Rattle.emulation.proofs.Hits.{free_either}
use Rattle.tsobu.specs.StartCodes.{at_start_code}
use Rattle.tsobu.specs.Parts.{coded}
use Rattle.tsobu.proofs.Scanning.{unpaired_uncoded, is_code}
use Rattle.tsobu.proofs.start_codes.coded.Goals as goal

pub returns-then-not-unpaired : goal.returns-then-not-unpaired
unfolding coded
returns-then-not-unpaired c =
    ap not (c.free_of.ensures ∙ ap (λ (test : Bytes → Bool). free_of test (drop c.args.i c.args.s.now)) is_code)

pub returns-else-not-unpaired : goal.returns-else-not-unpaired
unfolding coded
returns-else-not-unpaired c =
    let free = free_either paired at_start_code unpaired_uncoded c.args.s.now c.args.i in
    ap not (c.if-not-unpaired.false ∙ sym (free (sym c.unpaired.ensures ∙ c.if-not-unpaired.false)))
