-- n counts the bytes of the OBUs passed, as carried: these and the bytes of those left are the bytes of the whole, which is within the
-- limit of a carried unit.
use Rattle.unit.proofs.Writings.{Counting}
use Rattle.unit.proofs.writing.carried_length.Given as goal

abbrev pub invariant-loop-length : goal.invariant-loop-length
invariant-loop-length l = Counting l.lens l.obus l.n l.length-index l.at
