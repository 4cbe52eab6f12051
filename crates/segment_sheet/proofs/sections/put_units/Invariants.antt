-- What is put, and the units from here on, are all of them.
use Rattle.sheet.specs.Sheet.{unit_numbers}
use Rattle.segment_sheet.specs.Parts.{unit_at}
use Rattle.segment_sheet.proofs.Rowing.{Rowing, unit_size}
use Rattle.segment_sheet.proofs.sections.put_units.Given as goal

abbrev pub invariant-loop-i : goal.invariant-loop-i
invariant-loop-i l = Rowing unit_numbers 32 unit_size (unit_at l.firsts l.lens l.times) l.count l.initial.sheet l.at l.to l.i l.sheet
