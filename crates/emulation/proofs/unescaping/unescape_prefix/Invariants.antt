-- One pass, by blocks: what is given of the bytes up to i stands in the output. A block without 00 00 03 is copied where it has room;
-- another is a run; what has no room for a run goes place by place.
use Prim.Native.Nat.{◌-◌}
use lib.ListN.{length}
use Rattle.emulation.specs.Payload.{unescape}
use Rattle.emulation.specs.Parts.{Gives}
use Rattle.emulation.proofs.unescaping.unescape_prefix.Given as goal

abbrev pub invariant-loop-i : goal.invariant-loop-i
invariant-loop-i l = Gives unescape l.payload 0 l.initial.out 0 l.i l.n l.out

abbrev pub decreases-loop-i : goal.decreases-loop-i
decreases-loop-i l = length l.initial.out - l.n
