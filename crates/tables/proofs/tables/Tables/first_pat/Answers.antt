-- By what the reading of the PAT answers: the first PAT is kept by its packet's index, and the map PID is put in its slot.
use Rattle.std.proofs.lemmas.Result.{err_from_is_err_and}
use Rattle.tables.proofs.Reading.{pat_refused, pat_read}
use Rattle.tables.proofs.tables.Tables.first_pat.Goals as goal

pub returns-in_err-says-clause-first_pat_refines : goal.returns-in_err-says-clause-first_pat_refines
returns-in_err-says-clause-first_pat_refines c segment t e k =
    let p = err_from_is_err_and c.from_residual.result c.from_residual.ensures.1 in
    rw (p.1, p.2) (pat_refused k c.args.index c.args.section.now e _ _ c.in_err-says.was c.read_pat.ensures)

pub returns-clause-first_pat_refines : goal.returns-clause-first_pat_refines
returns-clause-first_pat_refines c segment t e k =
    pat_read k c.args.index c.args.section.now e _ _ _ c.in_ok-says.was c.read_pat.ensures c.put_pid.ensures
