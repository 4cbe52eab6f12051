-- By what the reading of the PMT returns: what its map says is kept, and its PIDs are put in their slots.
use Rattle.std.proofs.lemmas.Result.{err_from_is_err_and}
use Rattle.tables.proofs.Mapping.{pmt_refused, pmt_read}
use Rattle.tables.proofs.tables.Tables.first_pmt.Goals as goal

pub returns-in_err-map-clause-first_pmt_refines : goal.returns-in_err-map-clause-first_pmt_refines
returns-in_err-map-clause-first_pmt_refines c segment t h e k =
    let a = c.args in
    let p = err_from_is_err_and c.from_residual.result c.from_residual.ensures.1 in
    rw (p.1, p.2) (pmt_refused k a.index a.section.now a.pat e h _ c.in_err-map.ensures)

pub returns-clause-first_pmt_refines : goal.returns-clause-first_pmt_refines
returns-clause-first_pmt_refines c segment t h e k =
    let a = c.args in
    pmt_read k a.index a.section.now a.pat e h _ c.in_ok-map.ensures c.pid_in.result _ c.pid_in.ensures c.put_pids.ensures
