-- The loop keeps the value of the bytes read so far, the scale of the next seven bits and how many bytes were read; with what the bytes to
-- come say they are the number that the definition has for the whole.
use Rattle.obu.proofs.Lebs.{SoFar}
use Rattle.obu.proofs.leb128.read_leb128.Given as goal

abbrev pub invariant-loop-i : goal.invariant-loop-i
invariant-loop-i l = SoFar l.s l.value l.scale l.i
