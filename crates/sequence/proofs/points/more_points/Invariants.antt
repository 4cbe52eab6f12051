-- The points so far are read as the definition reads so many.
use Rattle.sequence.specs.Bits.{times}
use Rattle.sequence.specs.Header.{operating_point}
use Rattle.sequence.specs.Parts.{Reads}
use Rattle.sequence.proofs.points.more_points.Given as goal

abbrev pub invariant-loop : goal.invariant-loop
invariant-loop l = Reads l.initial.reader (times l.counter (operating_point l.length l.delay_present)) tt l.reader
