-- The first i widths are written, and the rest is to come.
use lib.ListN.{take, drop}
use Rattle.lists.proofs.Writing.{Part}
use Rattle.unit.specs.Parts.{widths_of}
use Rattle.unit.proofs.reading.read.Given as goal

abbrev pub invariant-loop-i : goal.invariant-loop-i
invariant-loop-i l = Part l.initial.widths (widths_of (take l.counts.obus l.notes)) l.i (drop l.i (widths_of
    (take l.counts.obus l.notes))) l.widths
