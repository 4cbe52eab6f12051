-- The check of a whole segment, and what its outputs hold afterwards. Assumes nothing.
use Rattle.std.specs.Prelude.{ℕ, ◌+◌, ◌/◌, ◌%◌, ◌^◌, Bool, not, ◌||◌, eqb, ltb, length, take, Option, Some, None}
use mathlib.Core.List.{List, [], ◌∷◌, map, flatten}
use Rattle.lists.specs.Lists.{Bytes, over, zeros}
use Rattle.refusal.specs.Verdict.{Verdict, NoValue, passed, refused, ◌>>=◌, ◌>>◌, given}
use Rattle.descriptor.specs.Edition.{Edition, edition_of}
use Rattle.packet.specs.Header.{pid, packet_length, packets}
use Rattle.pmt.specs.Pmt.{MapContent}
use Rattle.pes.specs.declared.header.Times.{Times}
use Rattle.segment_rules.specs.declared.Totals.{Totals}
use Rattle.segment_rules.specs.State.{FirstPat, FirstPmt, AccessUnit, State, Kind}
use Rattle.segment_rules.specs.State.{fresh, none_yet, counting, kind_of}
use Rattle.segment_rules.specs.Rules.{Rooms, packet_rules, close_pes, carried_units}

-- "65,535 packets in a segment"
abbrev pub most_packets : ℕ
most_packets = 65535

-- 20 "no bytes, not a multiple of 188, or over 65,535 packets (place 0)"
unfoldable pub segment_length_wrong : Bytes → Bool
segment_length_wrong s =
    eqb (length s) 0
    || not (eqb (length s % packet_length) 0)
    || ltb most_packets (length s / packet_length)

abbrev pub rule20 : Bytes → Verdict NoValue
rule20 s = given 20 (segment_length_wrong s)

-- the check between two packets: the index of the next one, what the packets have said, and how many there were of
-- each class
pub record Progress : Type 0 where
  pub index : ℕ
  pub state : State
  pub totals : Totals

abbrev pub start : Progress
start = record { index = 0; state = fresh; totals = none_yet }

-- "Acceptance gives program number, AV1 PID, unit count and packet totals in five classes": the whole map and the units
-- themselves stand in place of the PID and the count
pub record Accepted : Type 0 where
  pub program : ℕ
  pub map : MapContent
  pub units : List AccessUnit
  pub totals : Totals

-- 33 "no PAT or no PMT by the end (place: packet count)"
unfoldable pub accepted : ℕ → Option FirstPat → Option FirstPmt → List AccessUnit → Totals → Verdict Accepted
accepted count None pmt units totals = refused 33 count
accepted count (Some pat) None units totals = refused 33 count
accepted count (Some pat) (Some pmt) units totals =
    passed (record { program = pat.says.number; map = pmt.says; units = units; totals = totals })

-- "After the last packet the open PES closes first, then 33."
unfoldable pub ending : Progress → Verdict Accepted
ending g = do
  x ← close_pes g.state.extraction
  accepted g.index g.state.tables.pat g.state.tables.pmt x.units g.totals

-- after one more packet, of this kind
abbrev pub one_more : Kind → State → Progress → Progress
one_more kind st g = record { index = g.index + 1; state = st; totals = counting kind g.totals }

-- the check in this edition, of outputs with these lengths
module _ (edition : Edition) (rooms : Rooms) where
  -- one packet: the table in its sequence, and the packet is counted "by PID at that moment"
  unfoldable pub step : Progress → Bytes → Verdict Progress
  step g p = do
    st ← packet_rules edition rooms g.index p (kind_of g.state.tables (pid p)) g.state
    passed (one_more (kind_of g.state.tables (pid p)) st g)

  -- "Packets in order"
  unfoldable pub run : Progress → List Bytes → Verdict Progress
  run g [] = passed g
  run g (p ∷ ps) = step g p >>= λ g'. run g' ps

  -- the check: 20, the packets in order, the end
  unfoldable pub check_segment : Bytes → Verdict Accepted
  check_segment s = rule20 s >> (run start (packets s) >>= ending)

-- the check in the edition of this number. 2026-08: "44 at place 0 for an unknown edition, before 20"
unfoldable pub check_in : ℕ → Rooms → Bytes → Verdict Accepted
check_in n rooms s = do
  edition ← edition_of n
  check_segment edition rooms s

-- ---- the three outputs
pub record Outputs : Type 0 where
  pub bytes : Bytes
  pub lens : List ℕ
  pub times : List ℕ

abbrev pub outputs_of : Bytes → List ℕ → List ℕ → Outputs
outputs_of bytes lens times = record { bytes = bytes; lens = lens; times = times }

abbrev pub rooms_of : Outputs → Rooms
rooms_of o = record { bytes = length o.bytes; lens = length o.lens; times = length o.times }

-- "Carried units stand back to back in the output, with lengths, and PTS and DTS in turn."
abbrev pub lengths : List AccessUnit → List ℕ
lengths units = map (λ u. length u.carried) units

-- 2026-08: "the unit's two times then being 8,589,934,592, which no 33-bit time equals", where it has none; with 30
-- there is no such unit
abbrev pub no_time : ℕ
no_time = 2 ^ 33

unfoldable pub pts_and_dts : Option Times → List ℕ
pts_and_dts None = no_time ∷ no_time ∷ []
pts_and_dts (Some t) = t.pts.0 ∷ t.dts.0 ∷ []

abbrev pub times_in_turn : List AccessUnit → List ℕ
times_in_turn units = flatten (map (λ u. pts_and_dts u.times) units)

-- these units over the front of the outputs
abbrev pub holding : List AccessUnit → Outputs → Outputs
holding units o =
    record {
      bytes = over (carried_units units) o.bytes;
      lens = over (lengths units) o.lens;
      times = over (times_in_turn units) o.times;
    }

-- all of each output 0
abbrev pub cleared : Outputs → Outputs
cleared o = record { bytes = zeros o.bytes; lens = zeros o.lens; times = zeros o.times }

-- the outputs after the check: "Success writes from the front and the rest of each output keeps its old bytes."; "A
-- refused segment returns number and place, all else 0, and leaves zeros throughout the three outputs."
unfoldable pub outputs_after : Verdict Accepted → Outputs → Outputs
outputs_after (passed a) o = holding a.units o
outputs_after (refused number place) o = cleared o

-- ---- the packets that began the units
-- 2026-09: "units (first packet, ..)"
abbrev pub first_packets : List AccessUnit → List ℕ
first_packets units = map (λ u. u.first) units

-- those of these units over the front of a list, as many as there is room for: 8 does not look at this list
abbrev pub holding_firsts : List AccessUnit → List ℕ → List ℕ
holding_firsts units o = over (take (length o) (first_packets units)) o

-- the list after the check
unfoldable pub firsts_after : Verdict Accepted → List ℕ → List ℕ
firsts_after (passed a) o = holding_firsts a.units o
firsts_after (refused number place) o = zeros o
