-- The refusals in the order of the definition.
use mathlib.Core.Path.{◌≡◌, sym, ap, ◌∙◌}
use Rattle.refusal.specs.Verdict.{passed}
use Rattle.refusal.specs.Number.{refused_by}
use Rattle.refusal.proofs.Verdicts.{refuse, pass_on}
use Rattle.replay.specs.Replay.{arriving}
use Rattle.replay.proofs.States.{arriving_valid}
use Rattle.replay.proofs.arrival.Replay.arrive.Goals.{After-after-self}
use Rattle.replay.proofs.arrival.Replay.arrive.Goals as goal

-- the state that is then kept
next : (c : After-after-self) → passed c.after-self.result
    ≡ arriving c.args.self.now.rate c.args.self.now.state (record { time = c.args.time; bytes = c.args.bytes })
unfolding arriving
next c = pass_on 46 (sym c.time_wrong.ensures ∙ c.if-time_wrong.false)
    (pass_on 47 (sym c.arrival_wrong.ensures ∙ c.if-arrival_wrong.false) (ap passed c.after-self.ensures))

pub returns-then-time_wrong-clause-arrives : goal.returns-then-time_wrong-clause-arrives
unfolding arriving
returns-then-time_wrong-clause-arrives c =
    ap refused_by c.at.ensures ∙ refuse 46 _ (sym c.time_wrong.ensures ∙ c.if-time_wrong.true)

pub returns-then-arrival_wrong-clause-arrives : goal.returns-then-arrival_wrong-clause-arrives
unfolding arriving
returns-then-arrival_wrong-clause-arrives c =
    ap refused_by c.at-then-arrival_wrong.ensures
    ∙ pass_on 46 (sym c.time_wrong.ensures ∙ c.if-time_wrong.false)
    (refuse 47 _ (sym c.arrival_wrong.ensures ∙ c.if-arrival_wrong.true))

pub invariant_of-self-clause-state_valid : goal.invariant_of-self-clause-state_valid
invariant_of-self-clause-state_valid c = arriving_valid _ _ _ _ c.args.self.now.state_valid (sym (next c))

pub returns-clause-arrives : goal.returns-clause-arrives
returns-clause-arrives c = next (goal.at.returns-clause-arrives c).After-after-self
