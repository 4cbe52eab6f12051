-- `==` of two slices is `same`.
use mathlib.Core.Path.{◌∙◌}
use Rattle.lists.proofs.Comparing.{same_pointwise}
use Rattle.lists.proofs.same.Goals as goal

pub returns : goal.returns
returns c = c.eq.ensures ∙ same_pointwise c.args.s.now c.args.t.now
