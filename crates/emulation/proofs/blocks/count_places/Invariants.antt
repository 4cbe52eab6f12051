-- The count is that of the first j places (`Counted`), whatever test of strings the calls decide; each turn calls at one place more.
use Rattle.std.proofs.Common.{◌≤◌, Bool}
use Rattle.lists.specs.Lists.{Bytes}
use Rattle.emulation.specs.Parts.{Decides}
use Rattle.emulation.proofs.Hits.{Counted}
use Rattle.emulation.proofs.blocks.count_places.Given as goal

abbrev pub invariant-loop-j : goal.invariant-loop-j
invariant-loop-j g l =
    (l.count ≤ l.j) × ((what : Bytes → Bool) → Decides (goal.F-post g l.test) what l.s l.i → Counted what l.s l.i l.j l.count)
