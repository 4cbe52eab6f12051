-- The bits so far are read as the definition reads so many.
use Rattle.std.proofs.Common.{◌<◌, ◌^◌}
use Rattle.sequence.specs.Bits.{f}
use Rattle.sequence.specs.Parts.{Reads}
use Rattle.sequence.proofs.reader.BitReader.number.Given as goal

abbrev pub invariant-loop : goal.invariant-loop
invariant-loop l = record { reads : Reads l.initial.self (f l.counter) l.value l.self; below : l.value < 2 ^ l.counter }
