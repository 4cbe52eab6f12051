-- What is counted, and the OBUs of the units to come, are the OBUs of all.
use lib.ListN.{take}
use Rattle.segment_sheet.proofs.Cutting.{Totalling}
use Rattle.segment_sheet.proofs.obus.count_obus.Given as goal

abbrev pub invariant-loop-len : goal.invariant-loop-len
invariant-loop-len l = Totalling (take l.count l.lens) l.bytes l.total l.at l.len-index
