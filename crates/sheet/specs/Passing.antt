-- What the code's pass over the rows says, row by row; that this is what the conditions of 45 say is proved in
-- proofs/Conditions.antt. Assumes nothing.
use Rattle.std.specs.Prelude.{ℕ, ◌+◌, ◌*◌, Bool, true, false, not, ◌||◌, List, [], ◌∷◌, eqb, ltb, leb, length}
use Rattle.std.specs.Prelude.{Option, Some, None}
use Rattle.lists.specs.Lists.{Bytes, pick}
use Rattle.sheet.specs.declared.rows.StreamRow.{StreamRow}
use Rattle.sheet.specs.declared.rows.UnitRow.{UnitRow}
use Rattle.sheet.specs.declared.rows.ObuRow.{ObuRow}
use Rattle.sheet.specs.declared.obus.Progress.{Progress}
use Rattle.sheet.specs.declared.sections.Sections.{Sections}
use Rattle.sheet.specs.Reading.{number, rows, stream_count, unit_section, unit_count, obu_section, obu_count}
use Rattle.sheet.specs.Reading.{content_of, length_wrong, count_past, length_of, end, wrong}

-- ---- streams
unfoldable pub stream_wrong : StreamRow → Bool
stream_wrong r = ltb 0x1FFE r.pid || ltb 255 r.stream_type

-- ---- units: one whose first packet may not lie below `low`
unfoldable pub unit_wrong : ℕ → UnitRow → Bool
unit_wrong low u =
    ltb u.first_packet low
    || leb 65535 u.first_packet
    || ltb 1573056 u.length
    || ltb 8589934592 u.pts
    || ltb 8589934592 u.dts

unfoldable pub units_wrong : ℕ → List UnitRow → Bool
units_wrong low [] = false
units_wrong low (u ∷ units) = unit_wrong low u || units_wrong (u.first_packet + 1) units

-- ---- OBUs: `Progress` (src/obus.rt) says how many units were begun, how many OBUs the last of them has so far, and
-- where the last payload ends
abbrev pub at_first : Progress
at_first = record { begun = 0; count = 0; end = 0 }

-- an OBU begins the next unit, or it is of the last one and has its place there
unfoldable pub misplaced : Progress → ObuRow → Bool
misplaced p o =
    pick (eqb o.unit p.begun) false
    (pick (eqb (o.unit + 1) p.begun) (leb 64 p.count || ltb o.offset p.end) true)

unfoldable pub row_wrong : List UnitRow → ObuRow → Bool
row_wrong units o =
    leb (length units) o.unit
    || ltb 15 o.obu_type
    || eqb o.length 0
    || ltb (length_of units o.unit) (end o)

unfoldable pub after : Progress → ObuRow → Progress
after p o =
    record { begun = o.unit + 1; count = pick (eqb o.unit p.begun) 1 (p.count + 1); end = end o }

-- at the end each unit was begun
unfoldable pub obus_wrong : List UnitRow → Progress → List ObuRow → Bool
obus_wrong units p [] = not (eqb p.begun (length units))
obus_wrong units p (o ∷ obus) = (row_wrong units o || misplaced p o) || obus_wrong units (after p o) obus

-- the progress behind an OBU that has its place
unfoldable pub placing : Progress → ObuRow → Option Progress
placing p o = pick (misplaced p o) None (Some (after p o))

-- ---- where the sections' rows stand, and how many there are
abbrev pub sections_of : Bytes → Sections
sections_of s =
    record {
      streams = stream_count s;
      units = unit_count s;
      obus = obu_count s;
      unit_rows = unit_section s + 1;
      obu_rows = obu_section s + 1;
    }

-- of a sheet whose counts and length are right; and of one that 45 does not refuse
unfoldable pub form_wrong : Bytes → Bool
form_wrong s = length_wrong s || count_past (content_of s)

unfoldable pub measuring : Bytes → Option Sections
measuring s = pick (form_wrong s) None (Some (sections_of s))

unfoldable pub checking : Bytes → Option Sections
checking s = pick (wrong s) None (Some (sections_of s))

-- outputs with room for so many numbers are too short for the sections' rows
unfoldable pub rooms_short : Sections → ℕ → ℕ → ℕ → Bool
rooms_short t streams units obus =
    ltb streams (2 * t.streams) || ltb units (4 * t.units) || ltb obus (4 * t.obus)

-- so many numbers, from the one with this index on
abbrev pub numbers_from : Bytes → ℕ → ℕ → List ℕ
numbers_from s n i = rows (number s) 1 n i
