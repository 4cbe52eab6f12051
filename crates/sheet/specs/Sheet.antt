-- The sheet beside a segment: its content and its bytes. `StreamRow`, `UnitRow` and `ObuRow` are in src/rows.rt. The
-- words of document 02, request 2026-09, stand over each definition. Assumes nothing.
use Rattle.std.specs.Prelude.{ℕ, zero, suc, ◌/◌, ◌%◌, ◌^◌, length}
use mathlib.Core.List.{List, [], ◌∷◌, ◌++◌, map, flatten}
use Rattle.lists.specs.Lists.{Bytes}
use Rattle.sheet.specs.declared.rows.StreamRow.{StreamRow}
use Rattle.sheet.specs.declared.rows.UnitRow.{UnitRow}
use Rattle.sheet.specs.declared.rows.ObuRow.{ObuRow}

-- "a sheet of three sections in a fixed order": streams, units, OBUs
pub record Content : Type 0 where
  pub streams : List StreamRow
  pub units : List UnitRow
  pub obus : List ObuRow

-- "streams (PID, stream_type)"
abbrev pub stream_numbers : StreamRow → List ℕ
stream_numbers r = r.pid ∷ r.stream_type ∷ []

-- "units (first packet, carried length, PTS, DTS)"
abbrev pub unit_numbers : UnitRow → List ℕ
unit_numbers r = r.first_packet ∷ r.length ∷ r.pts ∷ r.dts ∷ []

-- "OBUs (unit, type, carried payload offset in its unit, payload length)"
abbrev pub obu_numbers : ObuRow → List ℕ
obu_numbers r = r.unit ∷ r.obu_type ∷ r.offset ∷ r.length ∷ []

-- the numbers of rows, row by row
unfoldable pub numbers_of : {A : Type 0} → (A → List ℕ) → List A → List ℕ
numbers_of numbers rows = flatten (map numbers rows)

-- "each after its count"
abbrev pub section : {A : Type 0} → (A → List ℕ) → List A → List ℕ
section numbers rows = length rows ∷ numbers_of numbers rows

unfoldable pub sheet_numbers : Content → List ℕ
sheet_numbers c =
    section stream_numbers c.streams ++ (section unit_numbers c.units ++ section obu_numbers c.obus)

-- "All numbers, counts too, are 8 bytes big-endian.": so many bytes of a number, the highest first
unfoldable pub big_endian : ℕ → ℕ → Bytes
big_endian zero n = []
big_endian (suc k) n = n / 256 ^ k % 256 ∷ big_endian k n

-- the bytes of numbers, one behind the other
abbrev pub in_bytes : List ℕ → Bytes
in_bytes ns = flatten (map (big_endian 8) ns)

-- the sheet of a content
unfoldable pub sheet_of : Content → Bytes
sheet_of c = in_bytes (sheet_numbers c)
