-- The sheet of an accepted segment, and writing it. The words of document 02, request 2026-09, stand over each
-- definition. Assumes nothing.
use Rattle.std.specs.Prelude.{ℕ, map, ltb, length, get_or}
use Rattle.lists.specs.Lists.{Bytes, over, pick}
use Rattle.refusal.specs.Verdict.{Verdict, passed, refused, ◌>>=◌, ◌>>◌, given}
use Rattle.pmt.specs.Pmt.{MapEntry}
use Rattle.segment_rules.specs.State.{AccessUnit}
use Rattle.segment_rules.specs.Rules.{Rooms}
use Rattle.segment_rules.specs.Check.{Accepted, check_in, pts_and_dts}
use Rattle.segment_rules.specs.Content.{ObuPlace, places_of}
use Rattle.sheet.specs.declared.rows.StreamRow.{StreamRow}
use Rattle.sheet.specs.declared.rows.UnitRow.{UnitRow}
use Rattle.sheet.specs.declared.rows.ObuRow.{ObuRow}
use Rattle.sheet.specs.Sheet.{Content, sheet_of}

-- "streams (PID, stream_type)"
abbrev pub stream_of : MapEntry → StreamRow
stream_of e = record { pid = e.pid; stream_type = e.stream_type }

-- "units (first packet, carried length, PTS, DTS)"
abbrev pub unit_of : AccessUnit → UnitRow
unit_of u =
    record {
      first_packet = u.first;
      length = length u.carried;
      pts = get_or (pts_and_dts u.times) 0 0;
      dts = get_or (pts_and_dts u.times) 1 0;
    }

-- "OBUs (unit, type, carried payload offset in its unit, payload length)"
abbrev pub obu_of : ObuPlace → ObuRow
obu_of o = record { unit = o.unit; obu_type = o.obu_type; offset = o.offset; length = o.size }

-- "The sheet of an accepted segment is the one its content defines, in stream, unit and OBU order."
abbrev pub content_of : Accepted → Content
content_of a =
    record {
      streams = map stream_of a.map.entries;
      units = map unit_of a.units;
      obus = map obu_of (places_of 0 a.units);
    }

abbrev pub sheet_beside : Accepted → Bytes
sheet_beside a = sheet_of (content_of a)

-- "Writing runs the check: its refusals come first": in the edition of this number, of outputs with these lengths, into
-- a sheet with this room; "8 for a short sheet". The value is the length of the sheet
unfoldable pub sheet_writing : ℕ → Rooms → Bytes → ℕ → Verdict ℕ
sheet_writing n rooms segment room = do
  a ← check_in n rooms segment
  given 8 (ltb room (length (sheet_beside a)))
  passed (length (sheet_beside a))

-- the sheet afterwards, by what the check says: where it refuses, "the sheet then keeps its old bytes"; and so it does
-- where it is short
unfoldable pub sheet_after : Verdict Accepted → Bytes → Bytes
sheet_after (passed a) sheet =
    pick (ltb (length sheet) (length (sheet_beside a))) sheet (over (sheet_beside a) sheet)
sheet_after (refused number place) sheet = sheet
