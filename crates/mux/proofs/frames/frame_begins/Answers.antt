use native.Mathlib.Omega.{arith}
use mathlib.Core.Path.{sym, ap, ◌∙◌}
use lib.ListN.{drop}
use borrow.Author.Tests.{lt-ltb}
use Rattle.mux_rules.specs.Packets.{within}
use Rattle.mux.proofs.Beginnings.{found, goes_on, none_before}
use Rattle.mux.proofs.frames.frame_begins.Goals as goal

pub returns-then-frame_at : goal.returns-then-frame_at
returns-then-frame_at c = let unit = c.args.unit.now in
    let n = c.args.n in
    sym (ap (within n) (sym c.loop-i.invariant ∙ found unit c.loop-i.i (omega arith) (sym c.frame_at.ensures ∙ c.if-frame_at.true))
    ∙ lt-ltb c.loop-i.i n (omega arith))

pub loop-i-preserved : goal.loop-i-preserved
loop-i-preserved c = let unit = c.args.unit.now in
    sym (goes_on unit c.loop-i.i (omega arith) (sym c.frame_at.ensures ∙ c.if-frame_at.false)) ∙ c.loop-i.invariant

pub returns : goal.returns
returns c = let unit = c.args.unit.now in
    let n = c.args.n in
    sym (ap (within n) (sym c.loop-i.invariant) ∙ none_before n c.loop-i.i (drop c.loop-i.i unit) (omega arith))
