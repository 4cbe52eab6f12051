-- A struct that is no state is refused; otherwise `State::run` answers by the definition.
use mathlib.Core.Path.{sym, ap, ◌∙◌}
use Rattle.lists.proofs.Picks.{by_true, by_false}
use Rattle.replay.specs.declared.state.State.{State}
use Rattle.replay.specs.Replay.{Replayed, running}
use Rattle.answers.specs.Replaying.{replay_answer, replaying}
use Rattle.av1ts.proofs.replaying.av1ts_replay.Goals as goal

pub returns-then-not-state_right : goal.returns-then-not-state_right
unfolding replaying
returns-then-not-state_right c =
    by_false _ (sym c.state_right.ensures ∙ c.if-not-state_right.true) c.no_state.ensures

pub returns : goal.returns
unfolding replaying
returns c =
    let from : State → Replayed = λ s. running s c.args.rate c.args.times.now c.args.counts.now in
    by_true _ (sym c.state_right.ensures ∙ c.if-not-state_right.false)
    (c.new.ensures ∙ ap replay_answer (c.run-ran.ensures ∙ ap from c.into-left.ensures))
