-- Two bytes come after the block, so it is counted.
use Rattle.std.proofs.Common.{ℕ, Option, Bool, ap, ◌∙◌, drop, arith}
use Rattle.std.specs.Option.{unwrap_or}
use borrow.Author.Tests.{le-leb}
use Rattle.lists.specs.Lists.{Bytes}
use Rattle.emulation.specs.Blocks.{hits, block, zeros_then}
use Rattle.emulation.proofs.Hits.{counted_whole}
use Rattle.emulation.proofs.Zeros.{is_critical}
use Rattle.escaping.proofs.blocks.criticals.Goals as goal

pub returns : goal.returns
returns c =
    let s = c.args.s.now in
    let whole = counted_whole (zeros_then 0 3) s c.args.i (le-leb _ _ (omega arith)) in
    c.unwrap_or.ensures
    ∙ ap (λ (n : Option ℕ). unwrap_or n 0) (c.count_of.ensures ∙ whole)
    ∙ ap (λ (test : Bytes → Bool). hits test block (drop c.args.i s)) is_critical
