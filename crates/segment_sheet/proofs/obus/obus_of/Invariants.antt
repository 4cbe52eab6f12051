-- What is counted, and the payloads from here on, are the payloads of the unit.
use Prim.Native.Nat.{◌-◌}
use lib.ListN.{length}
use Rattle.segment_sheet.proofs.Walking.{Counting}
use Rattle.segment_sheet.proofs.obus.obus_of.Given as goal

abbrev pub invariant-loop-code : goal.invariant-loop-code
invariant-loop-code l = Counting l.unit l.count l.code

abbrev pub decreases-loop-code : goal.decreases-loop-code
decreases-loop-code l = length l.unit - l.code
