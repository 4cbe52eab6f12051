-- 3 and 10 are tried here, by what is known of the payload; 4, 5, 6 and 42 by `judge_lawful`.
use Rattle.std.proofs.Common.{rules}
use mathlib.Core.Path.{sym, ◌∙◌}
use Rattle.lists.specs.Lists.{pick}
use Rattle.refusal.specs.Verdict.{◌>>◌, given}
use Rattle.tsobu.specs.TsObu.{tsobu_refusal, tsobu_figures}
use Rattle.tsobu.proofs.TsObus.{tsobu_legal}
use Rattle.tsobu.proofs.judging.judge_scanned.Goals as goal

pub returns-then-payload-eq0 : goal.returns-then-payload-eq0
unfolding tsobu_figures tsobu_refusal ◌>>◌ given pick
returns-then-payload-eq0 c = search rules

pub returns-then-not-lawful : goal.returns-then-not-lawful
unfolding tsobu_figures tsobu_refusal ◌>>◌ given pick
returns-then-not-lawful c = search rules

pub returns : goal.returns
returns c =
    c.judge_lawful.ensures ∙ tsobu_legal _ c.if-payload-eq0.false (sym c.requires.0 ∙ c.if-not-lawful.false)
