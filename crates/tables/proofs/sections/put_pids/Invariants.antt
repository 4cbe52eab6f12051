-- What is left to put from where the loop is gives the records of the whole.
use Prim.Native.Nat.{◌+◌}
use mathlib.Core.Path.{◌≡◌}
use lib.ListN.{drop}
use Rattle.tables.specs.Parts.{with_pids}
use Rattle.tables.proofs.sections.put_pids.Given as goal

abbrev pub invariant-loop-i : goal.invariant-loop-i
invariant-loop-i l = with_pids 2 l.fn.entries l.initial.records ≡ with_pids (2 + l.i) (drop l.i l.fn.entries) l.records
