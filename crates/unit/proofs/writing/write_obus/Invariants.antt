-- Of the carried unit the first n bytes, those of the OBUs passed, stand at the front of out, and the rest of out is as it was.
use Rattle.unit.proofs.Writings.{Writing}
use Rattle.unit.proofs.writing.write_obus.Given as goal

abbrev pub invariant-loop-bytes : goal.invariant-loop-bytes
invariant-loop-bytes l = Writing l.lens l.obus l.initial.out l.n l.bytes-index l.at l.out
