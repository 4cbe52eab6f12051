-- The tests of the definition, in its order; the two parts that are lent are the program's descriptors and the entries.
use mathlib.Core.Path.{sym, ◌∙◌}
use Rattle.std.proofs.lemmas.Result.{err_from_is_err_and}
use Rattle.pmt.proofs.Reading.{info_cut, info_unfilled, entries_refused, entries_passed}
use Rattle.pmt.proofs.section.read_body.Goals as goal

pub returns-then-end-info : goal.returns-then-end-info
returns-then-end-info c = rw c.at.ensures (info_cut _ _ _ c.requires _ c.length_field-info.ensures c.if-end-info.true)

pub returns-in_err-read_loop : goal.returns-in_err-read_loop
returns-in_err-read_loop c =
    let p = err_from_is_err_and c.from_residual.result c.from_residual.ensures.1 in
    rw (p.1, p.2)
    (info_unfilled _ _ _ c.requires _ c.length_field-info.ensures c.if-end-info.false _ _ (sym c.in_err-read_loop.ensures))

pub returns-in_err-listed : goal.returns-in_err-listed
returns-in_err-listed c =
    let p = err_from_is_err_and c.from_residual-in_err-listed.result c.from_residual-in_err-listed.ensures.1 in
    rw (p.1, p.2)
    (entries_refused _ _ _ c.requires _ c.length_field-info.ensures c.if-end-info.false _ (sym c.in_ok-read_loop.ensures) _ _
    (sym c.in_err-listed.ensures))

pub returns : goal.returns
returns c =
    c.map_listed.ensures
    ∙ entries_passed _ _ _ c.requires _ c.length_field-info.ensures c.if-end-info.false _ (sym c.in_ok-read_loop.ensures) _
    (sym c.in_ok-listed.ensures) _ c.pid_field.ensures
