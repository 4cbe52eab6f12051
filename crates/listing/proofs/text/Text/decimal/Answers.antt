-- The digits that `io::decimal` gives, the fewest that hold the number, are put.
use mathlib.Core.Path.{ap, ◌∙◌}
use mathlib.Core.List.{List, ◌++◌}
use Prim.Native.Nat.{ℕ}
use Rattle.listing.proofs.Decimals.{decimal_is}
use Rattle.listing.proofs.text.Text.decimal.Goals as goal

pub returns-clause-puts : goal.returns-clause-puts
returns-clause-puts c =
    let given = c.decimal-count.ensures in
    c.word.ensures ∙ ap (λ (l : List ℕ). c.args.self.now ++ l) (given.digits ∙ decimal_is c.args.n _ given.len)
