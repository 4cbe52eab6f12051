-- The three packets can be written, since 52 does not apply, and stand one behind the other.
use Rattle.mux.proofs.Ending.{tables_written}
use Rattle.mux.proofs.sending.put_tables.Goals as goal

pub returns : goal.returns
returns c =
    let a = c.args in
    tables_written a.channel a.video.now c.requires.0 a.out.now _ _ _ c.requires.1 c.put_pat.ensures
    c.put_pmt.ensures c.put_pcr.ensures
