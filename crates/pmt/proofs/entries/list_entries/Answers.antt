use mathlib.Core.Path.{sym}
use native.Mathlib.Omega.{arith}
use Rattle.std.proofs.lemmas.Result.{err_from_is_err_and}
use Rattle.pmt.proofs.Turns.{turn_start, turn_end, turn_full, refines_refused, turn_within, turn_further, turn_next}
use Rattle.pmt.proofs.entries.list_entries.Goals as goal

pub loop-at-init : goal.loop-at-init
loop-at-init c = turn_start _ _ c.none-entries.ensures

pub returns-then-entries-ge-MOST_ENTRIES : goal.returns-then-entries-ge-MOST_ENTRIES
returns-then-entries-ge-MOST_ENTRIES c =
    rw c.at.ensures (turn_full c.loop-at.invariant c.loop-at-test.true c.if-entries-ge-MOST_ENTRIES.true)

pub returns-in_err-tried : goal.returns-in_err-tried
returns-in_err-tried c =
    let p = err_from_is_err_and c.from_residual.result c.from_residual.ensures.1 in
    rw (p.1, p.2)
    (refines_refused c.loop-at.invariant c.loop-at-test.true c.if-entries-ge-MOST_ENTRIES.false _ _ (sym c.in_err-tried.ensures))

pub overflow_add-at : goal.overflow_add-at
overflow_add-at c =
    omega (
      arith,
      turn_within c.loop-at.invariant c.loop-at-test.true c.if-entries-ge-MOST_ENTRIES.false _ (sym c.in_ok-tried.ensures),
    )

pub loop-at-smaller : goal.loop-at-smaller
loop-at-smaller c =
    let p = sym c.in_ok-tried.ensures in
    let l = c.loop-at.invariant in
    omega (
      arith,
      turn_within l c.loop-at-test.true c.if-entries-ge-MOST_ENTRIES.false _ p,
      turn_further l c.loop-at-test.true c.if-entries-ge-MOST_ENTRIES.false _ p,
    )

pub loop-at-preserved : goal.loop-at-preserved
loop-at-preserved c =
    rw c.push.ensures
    (turn_next c.loop-at.invariant c.loop-at-test.true c.if-entries-ge-MOST_ENTRIES.false _ (sym c.in_ok-tried.ensures) _
    c.with-av1.ensures)

pub returns : goal.returns
returns c = turn_end c.loop-at.invariant c.loop-at-test.false
