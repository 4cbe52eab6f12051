use Prim.Native.Nat.{ℕ, ◌+◌}
use mathlib.Core.Path.{ap, ◌∙◌}
use Rattle.pmt.proofs.Descriptors.{walk_start, walk_end, walk_short, walk_next}
use Rattle.pmt.proofs.loops.read_loop.Goals as goal

pub loop-at-init : goal.loop-at-init
loop-at-init c = walk_start _

pub returns-then-s-at : goal.returns-then-s-at
returns-then-s-at c =
    rw c.at.ensures
    (walk_short c.loop-at.invariant c.loop-at-test.true _ (ap (λ (n : ℕ). 2 + n) (c.from-size.ensures ∙ c.byte_at.ensures)) c.if-s-at.true)

pub loop-at-preserved : goal.loop-at-preserved
loop-at-preserved c =
    walk_next c.loop-at.invariant c.loop-at-test.true _ (ap (λ (n : ℕ). 2 + n) (c.from-size.ensures ∙ c.byte_at.ensures))
    c.if-s-at.false _ c.with_descriptor-found.ensures

pub returns : goal.returns
returns c = walk_end c.loop-at.invariant c.loop-at-test.false
