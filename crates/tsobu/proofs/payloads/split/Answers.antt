use Rattle.std.proofs.Common.{◌≡◌, ℕ, take, drop, ap, ◌∙◌, arith}
use Rattle.tsobu.proofs.Places.{before, before_short, before_taken}
use Rattle.tsobu.proofs.Behind.{behind_first}
use Rattle.tsobu.proofs.payloads.split.Goals.{After-find}
use Rattle.tsobu.proofs.payloads.split.Goals as goal

first : (c : After-find) → c.find.result ≡ before c.args.s.now
first c = omega (arith, c.find.ensures)

pub split_at-requires : goal.split_at-requires
split_at-requires c = omega (arith, first c, before_short c.args.s.now)

pub returns-clause-before : goal.returns-clause-before
returns-clause-before c =
    c.split_at.ensures.front ∙ ap (λ (n : ℕ). take n c.args.s.now) (first (goal.at.returns-clause-before c).After-find)
    ∙ before_taken c.args.s.now

pub returns-clause-behind : goal.returns-clause-behind
returns-clause-behind c =
    behind_first c.args.s.now _
    (c.split_at.ensures.back ∙ ap (λ (n : ℕ). drop n c.args.s.now) (first (goal.at.returns-clause-behind c).After-find))
    c.get.result c.get.ensures.lookup
