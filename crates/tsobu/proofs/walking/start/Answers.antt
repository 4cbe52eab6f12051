-- The unit begins with a start code, or 9 is given.
use Rattle.std.proofs.Common.{rules}
use Rattle.lists.specs.Lists.{pick}
use Rattle.refusal.specs.Verdict.{◌>>◌, given}
use Rattle.tsobu.specs.Walk.{starting}
use Rattle.tsobu.proofs.walking.start.Goals as goal

pub returns-then-code_at : goal.returns-then-code_at
unfolding starting ◌>>◌ given pick
returns-then-code_at c = search rules

pub returns : goal.returns
unfolding starting ◌>>◌ given pick
returns c = search rules
