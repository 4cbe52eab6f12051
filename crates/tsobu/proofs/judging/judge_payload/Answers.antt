-- 3 and 10 are tried here, 4, 5, 6 and 42 by `judge_obu`.
use Rattle.std.proofs.Common.{rules}
use mathlib.Core.Path.{◌∙◌}
use Rattle.lists.specs.Lists.{pick}
use Rattle.refusal.specs.Verdict.{◌>>◌, given}
use Rattle.tsobu.specs.TsObu.{tsobu_refusal, tsobu_figures}
use Rattle.emulation.proofs.Answers.{judged_legal, judged_illegal}
use Rattle.tsobu.proofs.TsObus.{tsobu_legal, tsobu_illegal}
use Rattle.tsobu.proofs.judging.judge_payload.Goals as goal

pub returns-then-payload-eq0 : goal.returns-then-payload-eq0
unfolding tsobu_figures tsobu_refusal ◌>>◌ given pick
returns-then-payload-eq0 c = search rules

pub judge_obu-requires : goal.judge_obu-requires
judge_obu-requires c = (judged_legal _ _ _ c.judge.ensures c.in-Ok.is).1

pub returns-in_default : goal.returns-in_default
returns-in_default c =
    rw c.at-in_default.ensures (tsobu_illegal _ c.if-payload-eq0.false (judged_illegal _ _ _ c.judge.ensures c.in_default.is))

pub returns : goal.returns
returns c = c.judge_obu.ensures ∙ tsobu_legal _ c.if-payload-eq0.false (judged_legal _ _ _ c.judge.ensures c.in-Ok.is).0
