-- The tests are those of the counts and of the length, which follow one another.
use Rattle.sheet.proofs.Measures.{no_count, many_streams, too_short, many_units, short_of_obus, many_obus, other_length, measured}
use Rattle.sheet.proofs.sections.measure.Goals as goal

pub returns-then-bytes-lt8 : goal.returns-then-bytes-lt8
returns-then-bytes-lt8 c = no_count _ c.if-bytes-lt8.true

pub returns-then-streams-gt-MOST_STREAMS : goal.returns-then-streams-gt-MOST_STREAMS
returns-then-streams-gt-MOST_STREAMS c = many_streams _ _ c.number-streams.ensures c.if-streams-gt-MOST_STREAMS.true

pub returns-then-bytes-unit_section : goal.returns-then-bytes-unit_section
returns-then-bytes-unit_section c = too_short _ _ c.number-streams.ensures c.if-bytes-unit_section.true

pub returns-then-units-gt-MOST_UNITS : goal.returns-then-units-gt-MOST_UNITS
returns-then-units-gt-MOST_UNITS c =
    many_units _ _ c.number-streams.ensures _ c.number-units.ensures c.if-units-gt-MOST_UNITS.true

pub returns-then-bytes-obu_section : goal.returns-then-bytes-obu_section
returns-then-bytes-obu_section c =
    short_of_obus _ _ c.number-streams.ensures _ c.number-units.ensures c.if-bytes-obu_section.true

pub returns-then-obus-gt-MOST_OBUS : goal.returns-then-obus-gt-MOST_OBUS
returns-then-obus-gt-MOST_OBUS c =
    many_obus _ _ c.number-streams.ensures _ c.number-units.ensures _ c.number-obus.ensures c.if-obus-gt-MOST_OBUS.true

pub returns-then-bytes-obu_section-2 : goal.returns-then-bytes-obu_section-2
returns-then-bytes-obu_section-2 c =
    other_length _ _ c.number-streams.ensures _ c.number-units.ensures _ c.number-obus.ensures c.if-bytes-obu_section-2.true

pub returns : goal.returns
returns c =
    measured _ _ c.number-streams.ensures _ c.number-units.ensures _ c.number-obus.ensures
    c.if-streams-gt-MOST_STREAMS.false c.if-units-gt-MOST_UNITS.false c.if-obus-gt-MOST_OBUS.false c.if-bytes-obu_section-2.false
