-- What is put, and the OBUs of the units to come, are all of them.
use lib.ListN.{take}
use Rattle.segment_sheet.proofs.Cutting.{Listing}
use Rattle.segment_sheet.proofs.obus.put_obus.Given as goal

abbrev pub invariant-loop-i : goal.invariant-loop-i
invariant-loop-i l = Listing (take l.count l.lens) l.bytes l.initial.sheet l.at l.from l.to l.i l.sheet
