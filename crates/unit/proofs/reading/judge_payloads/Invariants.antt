-- One payload a turn. Those that passed, then the verdict on those from the next start code on, are the verdict on all; the figures add up
-- the same way. Where one is refused the payloads behind it are counted, since 1 comes first.
use Prim.Native.Nat.{◌-◌}
use lib.ListN.{length}
use Rattle.unit.proofs.Readings.{Judging}
use Rattle.unit.proofs.reading.judge_payloads.Given as goal

abbrev pub invariant-loop-code : goal.invariant-loop-code
invariant-loop-code l = Judging l.unit l.kinds l.notes l.bytes l.dropped l.code l.count

abbrev pub decreases-loop-code : goal.decreases-loop-code
decreases-loop-code l = length l.unit - l.code
