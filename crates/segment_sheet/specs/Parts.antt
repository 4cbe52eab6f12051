-- What the promises of private functions cite: the content of what the check handed out; no public promise does.
-- Assumes nothing.
use Rattle.std.specs.Prelude.{ℕ, suc, ◌+◌, ◌*◌, ◌≤◌, ◌≡◌, List, [], ◌∷◌, ◌++◌, map, ltb, length, take, drop, get_or}
use Rattle.lists.specs.Lists.{Bytes}
use Rattle.refusal.specs.Verdict.{Verdict, passed, ◌>>◌, given, leaves}
use Rattle.unit.specs.Unit.{read_unit}
use Rattle.pmt.specs.Answer.{no_entry}
use Rattle.pmt.specs.declared.entries.Entry.{Entry}
use Rattle.pmt.specs.declared.section.ProgramMap.{ProgramMap}
use Rattle.segment_rules.specs.Content.{places_in}
use Rattle.sheet.specs.declared.rows.StreamRow.{StreamRow}
use Rattle.sheet.specs.declared.rows.UnitRow.{UnitRow}
use Rattle.sheet.specs.declared.rows.ObuRow.{ObuRow}
use Rattle.sheet.specs.Sheet.{Content, numbers_of, obu_numbers, sheet_of, in_bytes}
use Rattle.sheet.specs.Reading.{rows}
use Rattle.segment_sheet.specs.Content.{obu_of}

-- the stream in a slot of the map
abbrev pub stream_at : List Entry → ℕ → StreamRow
stream_at entries i = record {
  pid = (get_or entries i no_entry).pid;
  stream_type =
      (get_or entries i no_entry).stream_type;
}

-- the unit with an index, of the first packets, the lengths and the times in turn
abbrev pub unit_at : List ℕ → List ℕ → List ℕ → ℕ → UnitRow
unit_at firsts lens times i =
    record {
      first_packet = get_or firsts i 0;
      length = get_or lens i 0;
      pts = get_or times (2 * i) 0;
      dts = get_or times (2 * i + 1) 0;
    }

-- a string cut into parts of these lengths
unfoldable pub cuts : List ℕ → Bytes → List Bytes
cuts [] s = []
cuts (n ∷ ns) s = take n s ∷ cuts ns (drop n s)

-- a unit that reading accepts
abbrev pub Readable : Bytes → Type 0
Readable unit = (obus : List Bytes) × (read_unit unit ≡ passed obus)

-- all of it is there, and reading accepts each part
abbrev pub CutsRight : List ℕ → Bytes → Type 0
CutsRight [] s = Unit {0}
CutsRight (n ∷ ns) s = (n ≤ length s) × Readable (take n s) × CutsRight ns (drop n s)

-- the OBUs of units, of which the first has this index
abbrev pub obus_in : ℕ → Bytes → List ObuRow
obus_in index unit = map obu_of (places_in index unit)

unfoldable pub obus_from : ℕ → List Bytes → List ObuRow
obus_from index [] = []
obus_from index (u ∷ units) = obus_in index u ++ obus_from (suc index) units

-- those of so many units of these lengths, back to back
abbrev pub obus_of : ℕ → List ℕ → Bytes → List ObuRow
obus_of count lens bytes = obus_from 0 (cuts (take count lens) bytes)

-- the place behind their rows, which begin at this one
abbrev pub obus_end : ℕ → ℕ → List ℕ → Bytes → ℕ
obus_end at count lens bytes = at + 32 * length (obus_of count lens bytes)

-- the bytes of their rows
abbrev pub obu_bytes : List ObuRow → Bytes
obu_bytes obus = in_bytes (numbers_of obu_numbers obus)

-- the content of what was handed out: the map; of so many units the first packets, the lengths and the times, and their
-- bytes
abbrev pub content_in : ProgramMap → ℕ → List ℕ → List ℕ → List ℕ → Bytes → Content
content_in m count firsts lens times bytes =
    record {
      streams = rows (stream_at m.entries) 1 m.count 0;
      units = rows (unit_at firsts lens times) 1 count 0;
      obus = obus_of count lens bytes;
    }

-- it is of a segment that was accepted
pub record HandedOut (m : ProgramMap) (count : ℕ) (firsts lens times : List ℕ) (bytes : Bytes) : Type 0 where
  pub streams : m.count ≤ 12
  pub units : count ≤ 1024
  pub firsts_there : count ≤ length firsts
  pub lens_there : count ≤ length lens
  pub times_there : 2 * count ≤ length times
  pub cut : CutsRight (take count lens) bytes
  pub obus : length (obus_of count lens bytes) ≤ 64 * count

-- 8, and the length of the sheet
unfoldable pub putting : Content → ℕ → Verdict ℕ
putting c room = do
  given 8 (ltb room (length (sheet_of c)))
  passed (length (sheet_of c))

-- the sheet of a content is put: the verdict, and the sheet then
pub record Puts (c : Content) (sheet : Bytes) (v : Verdict ℕ) (sheet' : Bytes) : Type 0 where
  pub answers : v ≡ putting c (length sheet)
  pub written : sheet' ≡ leaves v (sheet_of c) sheet
