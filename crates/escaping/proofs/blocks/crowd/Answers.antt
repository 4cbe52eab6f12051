-- Without 00 00 there is no such place; otherwise they are counted.
use borrow.Author.Rules.{rules}
use mathlib.Core.Path.{sym, ◌∙◌}
use Rattle.emulation.specs.Blocks.{block, paired}
use Rattle.emulation.specs.Parts.{critical}
use Rattle.emulation.proofs.Hits.{none_either, is_free}
use Rattle.emulation.proofs.Critical.{unpaired_uncritical}
use Rattle.escaping.proofs.blocks.crowd.Goals as goal

pub returns-then-unpaired : goal.returns-then-unpaired
returns-then-unpaired c =
    let free = is_free paired c.args.s.now c.args.i (sym c.unpaired.ensures ∙ c.if-unpaired.true) in
    sym (none_either paired critical unpaired_uncritical block _ free.1)

pub returns : goal.returns
returns c = search rules

pub criticals-requires : goal.criticals-requires
criticals-requires c = search rules
