-- The sum is tried, then the order of the OBUs' kinds.
use Rattle.std.proofs.Common.{rules}
use Rattle.lists.specs.Lists.{pick}
use Rattle.refusal.specs.Verdict.{◌>>◌, given}
use Rattle.unit.specs.Parts.{whole_counts}
use Rattle.unit.proofs.reading.judge_whole.Goals as goal

pub returns-then-counts-gt-MOST_OBU_BYTES : goal.returns-then-counts-gt-MOST_OBU_BYTES
unfolding whole_counts ◌>>◌ given pick
returns-then-counts-gt-MOST_OBU_BYTES c = search rules

pub returns-in_err-order_kinds : goal.returns-in_err-order_kinds
unfolding whole_counts ◌>>◌ given pick
returns-in_err-order_kinds c = search rules

pub returns : goal.returns
unfolding whole_counts ◌>>◌ given pick
returns c = search rules
