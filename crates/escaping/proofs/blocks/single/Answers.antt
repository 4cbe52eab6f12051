use Rattle.std.proofs.Common.{ap, ◌∙◌, drop, Bool}
use Rattle.lists.specs.Lists.{Bytes}
use Rattle.emulation.specs.Blocks.{free_of}
use Rattle.escaping.proofs.Clean.{is_tripled}
use Rattle.escaping.proofs.blocks.single.Goals as goal

pub returns : goal.returns
returns c = c.free_of.ensures ∙ ap (λ (test : Bytes → Bool). free_of test (drop c.args.i c.args.s.now)) is_tripled
