-- A reader starts at the first bit of a byte, uncut.
use Rattle.std.proofs.Common.{refl}
use Rattle.sequence.proofs.Places.{starts}
use Rattle.sequence.proofs.reader.BitReader.new.Goals as goal

pub returns : goal.returns
returns c = starts _ _ c.behind.ensures refl refl
