-- The descriptor's reading says whether it is wrong.
use Rattle.refusal.specs.Number.{says}
use mathlib.Core.Path.{sym, ap, ◌∙◌}
use Rattle.mux.proofs.Ending.{video_right, video_wrong}
use Rattle.mux.proofs.channel.video_wrong.Goals as goal

pub returns-in-Ok : goal.returns-in-Ok
returns-in-Ok c = video_right _ _ (sym c.read-read.ensures ∙ ap says c.in-Ok.is)

pub returns-in-Err : goal.returns-in-Err
returns-in-Err c = video_wrong _ _ _ (sym c.read-read.ensures ∙ ap says c.in-Err.is)
