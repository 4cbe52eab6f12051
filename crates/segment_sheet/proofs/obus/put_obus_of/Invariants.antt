-- What is put, and the OBUs from here on, are the OBUs of the unit.
use Prim.Native.Nat.{◌-◌}
use lib.ListN.{length}
use Rattle.segment_sheet.proofs.Walking.{Putting}
use Rattle.segment_sheet.proofs.obus.put_obus_of.Given as goal

abbrev pub invariant-loop-code : goal.invariant-loop-code
invariant-loop-code l = Putting l.index l.unit l.initial.sheet l.at l.code l.to l.sheet

abbrev pub decreases-loop-code : goal.decreases-loop-code
decreases-loop-code l = length l.unit - l.code
