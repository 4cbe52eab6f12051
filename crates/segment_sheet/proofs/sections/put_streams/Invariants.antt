-- What is put, and the streams in the slots from here on, are all of them.
use Rattle.sheet.specs.Sheet.{stream_numbers}
use Rattle.segment_sheet.specs.Parts.{stream_at}
use Rattle.segment_sheet.proofs.Rowing.{Rowing, stream_size}
use Rattle.segment_sheet.proofs.sections.put_streams.Given as goal

abbrev pub invariant-loop-entry : goal.invariant-loop-entry
invariant-loop-entry l =
    Rowing stream_numbers 16 stream_size (stream_at l.fn.map.entries) l.fn.map.count l.initial.sheet l.at l.to l.entry-index l.sheet
