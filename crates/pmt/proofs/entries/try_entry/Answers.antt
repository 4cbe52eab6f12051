-- The tests of the definition, in its order.
use mathlib.Core.Path.{sym, ◌∙◌}
use Rattle.std.proofs.lemmas.Result.{err_from_is_err_and}
use Rattle.pmt.proofs.Trying.{few_bytes, cut_short, unfilled, pid_refused, entry_passed}
use Rattle.pmt.proofs.entries.try_entry.Goals as goal

pub returns-then-s-lt5 : goal.returns-then-s-lt5
returns-then-s-lt5 c = rw c.at.ensures (few_bytes _ _ _ _ c.if-s-lt5.true)

pub returns-then-s-size : goal.returns-then-s-size
returns-then-s-size c =
    rw c.at-then-s-size.ensures (cut_short _ _ _ _ c.if-s-lt5.false _ c.length_field-size.ensures c.if-s-size.true)

pub returns-in_err-found : goal.returns-in_err-found
returns-in_err-found c =
    let p = err_from_is_err_and c.from_residual.result c.from_residual.ensures.1 in
    rw (p.1, p.2)
    (unfilled _ _ _ _ c.if-s-lt5.false _ c.length_field-size.ensures c.if-s-size.false _ _ (sym c.in_err-found.ensures))

pub returns-then-pid_wrong : goal.returns-then-pid_wrong
returns-then-pid_wrong c =
    rw c.at-then-pid_wrong.ensures
    (pid_refused _ _ _ _ c.if-s-lt5.false _ c.length_field-size.ensures c.if-s-size.false _ (sym c.in_ok-found.ensures) _
    c.pid_field-pid.ensures (sym c.pid_wrong.ensures ∙ c.if-pid_wrong.true))

pub returns : goal.returns
returns c =
    entry_passed _ _ _ _ c.if-s-lt5.false _ c.length_field-size.ensures c.if-s-size.false _ (sym c.in_ok-found.ensures) _
    c.pid_field-pid.ensures (sym c.pid_wrong.ensures ∙ c.if-pid_wrong.false) _ c.kind_from.ensures
