-- What the judge of the first bytes says, with the bytes dropped beside a header.
use Rattle.std.proofs.Common.{rules}
use Rattle.refusal.specs.Verdict.{◌>>=◌}
use Rattle.tsobu.specs.Parts.{first_figures}
use Rattle.tsobu.proofs.judging.judge_first.Goals as goal

pub returns-in_err-header : goal.returns-in_err-header
unfolding first_figures ◌>>=◌
returns-in_err-header c = search rules

pub returns : goal.returns
unfolding first_figures ◌>>=◌
returns c = search rules
