use native.Mathlib.Omega.{arith}
use mathlib.Core.Path.{refl}
use Rattle.emulation.specs.Parts.{critical}
use Rattle.escaping.proofs.Searching.{searched_start, searched_next, searched_all}
use Rattle.escaping.proofs.blocks.before_critical.Goals as goal

pub loop-k-init : goal.loop-k-init
loop-k-init c = searched_start critical _ _

pub loop-k-preserved : goal.loop-k-preserved
unfolding critical
loop-k-preserved c =
    let k = c.wide.ensures in
    let found = c.found_at.ensures in
    searched_next critical refl c.loop-k.invariant (omega arith) (rw k at found.value) (rw k at found.value_2)
    (λ h. omega (arith, c.min-first.ensures), λ h. omega (arith, c.min-first.ensures))

pub returns : goal.returns
returns c = searched_all critical c.loop-k.invariant (omega arith)
