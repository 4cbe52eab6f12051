-- The table of document 01, "A segment", rule by rule, and the closing of a PES. Assumes nothing.
use Rattle.ticks.specs.declared.Ticks27.{Ticks27}
use Rattle.std.specs.Prelude.{ℕ, ◌+◌, ◌*◌, Bool, true, false, not, ◌&&◌, ◌||◌, eqb, ltb, length, Option, Some, None}
use mathlib.Core.List.{List, [], ◌∷◌, ◌++◌, map, flatten}
use Rattle.lists.specs.Lists.{Bytes, pick, same}
use Rattle.refusal.specs.Verdict.{Verdict, passed, ◌>>=◌, ◌>>◌, given, at_place}
use Rattle.descriptor.specs.Edition.{Edition}
use Rattle.packet.specs.Header as packet
use Rattle.packet.specs.Header.{pid, pcr, has_payload, payload, payload_unit_start_indicator, starts_pes}
use Rattle.packet.specs.Header.{sync_lost, transport_error_indicator}
use Rattle.packet.specs.Counter.{StreamRecord, named, record_of, checked_in}
use Rattle.psi.specs.Section.{misplaced, section_of}
use Rattle.psi.specs.Pat.{read_pat}
use Rattle.pmt.specs.Pmt.{pids, read_pmt}
use Rattle.pes.specs.declared.header.Header.{Header}
use Rattle.pes.specs.Pes as pes
use Rattle.pes.specs.Pes.{header_of, pes_data, no_times}
use Rattle.unit.specs.Unit.{read_unit}
use Rattle.segment_rules.specs.State.{FirstPat, FirstPmt, Tables, OpenPes, AccessUnit, Extraction, State}
use Rattle.segment_rules.specs.State.{Kind, Null, Pat, Map, Av1, Listed, Unlisted}
use Rattle.segment_rules.specs.State.{with_tables, with_extraction, with_records, with_pcr}
use Rattle.segment_rules.specs.State.{with_pat, with_pmt, with_pes, with_unit}

-- the lengths of the three outputs
pub record Rooms : Type 0 where
  pub bytes : ℕ
  pub lens : ℕ
  pub times : ℕ

-- a rule takes what the packets have said so far, and gives it back with what this packet adds, or refuses
abbrev pub Rule : Type 0
Rule = State → Verdict State

-- "each in this sequence .. the first refusal is the verdict"
unfoldable pub in_sequence : List Rule → Rule
in_sequence [] st = passed st
in_sequence (r ∷ rules) st = r st >>= in_sequence rules

-- a rule on the tables, or on the units, is one on both
unfoldable pub on_tables : (Tables → Verdict Tables) → Rule
on_tables r st = do
  t ← r st.tables
  passed (with_tables t st)

unfoldable pub on_units : (Extraction → Verdict Extraction) → Rule
on_units r st = do
  x ← r st.extraction
  passed (with_extraction x st)

-- ---- the PCR
-- "A PCR counts for 31 if on the PMT's PCR PID, in a packet after the PMT, at or before the payload (002, 5); PID
-- 0x1FFF has none.": the PCR of this packet, if it counts, where this is the first PMT before the packet
unfoldable pub counting_pcr : Option FirstPmt → Bytes → (Option Ticks27)
counting_pcr None p = None
counting_pcr (Some pmt) p = pick (eqb (pid p) pmt.says.pcr_pid) (pcr p) None

-- the last PCR that counted, of an earlier one and this packet's
abbrev pub last_pcr : (Option Ticks27) → (Option Ticks27) → (Option Ticks27)
last_pcr earlier None = earlier
last_pcr earlier (Some ticks) = Some ticks

-- there is one
abbrev pub is_pcr : (Option Ticks27) → Bool
is_pcr None = false
is_pcr (Some ticks) = true

-- ---- sections
-- "A later section not equal to the first is 25 or 26 and read no further."
unfoldable pub later_section : ℕ → Bytes → Bytes → Tables → Verdict Tables
later_section number first section t = given number (not (same section first)) >> passed t

-- 25: the first PAT, which the packet with this index brought, is read, and names the map PID; a later one is compared
-- with it
unfoldable pub pat_section : ℕ → Option FirstPat → Bytes → Tables → Verdict Tables
pat_section i None section t = do
  program ← read_pat section
  passed (with_pat (record { packet = i; section = section; says = program }) (named program.map_pid ∷ []) t)
pat_section i (Some first) section t = later_section 25 first.section section t

-- 26, 27, 28: the first PMT of the PAT's program is read, and names the listed PIDs; a later one is compared with it.
-- Before a PAT no PID is the map PID
unfoldable pub pmt_section : Edition → ℕ → Option FirstPat → Option FirstPmt → Bytes → Tables → Verdict Tables
pmt_section edition i None pmt section t = passed t
pmt_section edition i (Some pat) None section t = do
  m ← read_pmt edition pat.says.number pat.says.map_pid section
  passed (with_pmt (record { packet = i; section = section; says = m }) (map named (pids m.entries)) t)
pmt_section edition i (Some pat) (Some first) section t = later_section 26 first.section section t

-- "a packet with payload on PID 0 or the map PID": 25 or 26 by how its section lies in it, then by what the section
-- says; of the packet's index, its payload start and its payload
unfoldable pub section_read : Edition → Kind → ℕ → Bool → Bytes → Tables → Verdict Tables
section_read edition Null i start payload t = passed t
section_read edition Pat i start payload t = do
  given 25 (misplaced start payload)
  pat_section i t.pat (section_of payload) t
section_read edition Map i start payload t = do
  given 26 (misplaced start payload)
  pmt_section edition i t.pat t.pmt (section_of payload) t
section_read edition Av1 i start payload t = passed t
section_read edition Listed i start payload t = passed t
section_read edition Unlisted i start payload t = passed t

-- ---- the closing of a PES
-- 32 "PES length not 0 and not the number of PES bytes after that field": the first six bytes of the header are those
-- up to the field's end. Of a header, and of how many bytes the unit has
unfoldable pub length_differs : Header → ℕ → Bool
length_differs header n = not (eqb header.length 0) && not (eqb (header.length + 6) (header.size + n))

abbrev pub length_wrong : OpenPes → Bool
length_wrong o = length_differs o.header (length o.bytes)

abbrev pub unit_of : OpenPes → AccessUnit
unit_of o = record { first = o.first; carried = o.bytes; times = o.header.times }

-- "A PES closes ..; then 32 is tried, then the reading of its unit (1 to 7, 9, 10), with the index of the packet that
-- began it."; of 42, which reading has since 2026-02, "a segment's reading gives it too"
unfoldable pub close_open : OpenPes → Extraction → Verdict Extraction
close_open o x = do
  at_place o.first (given 32 (length_wrong o))
  at_place o.first (read_unit o.bytes)
  passed (with_unit (unit_of o) x)

unfoldable pub close_if_open : Option OpenPes → Extraction → Verdict Extraction
close_if_open None x = passed x
close_if_open (Some o) x = close_open o x

abbrev pub close_pes : Extraction → Verdict Extraction
close_pes x = close_if_open x.pes x

-- ---- what the rules ask of the units
-- "1,024 units in a segment"
abbrev pub most_units : ℕ
most_units = 1024

-- how many units there are with one more
abbrev pub with_next : Extraction → ℕ
with_next x = length x.units + 1

-- a PES has started and not closed
abbrev pub is_open : Option OpenPes → Bool
is_open None = false
is_open (Some o) = true

-- the unit bytes that the open PES has so far, and those of all units
abbrev pub open_bytes : Option OpenPes → Bytes
open_bytes None = []
open_bytes (Some o) = o.bytes

-- "Carried units stand back to back in the output"
abbrev pub carried_units : List AccessUnit → Bytes
carried_units units = flatten (map (λ u. u.carried) units)

abbrev pub carried_so_far : Extraction → Bytes
carried_so_far x = carried_units x.units ++ open_bytes x.pes

-- "House rule: 002's PES rules bind the AV1 PID alone."
abbrev pub is_av1 : Kind → Bool
is_av1 Null = false
is_av1 Pat = false
is_av1 Map = false
is_av1 Av1 = true
is_av1 Listed = false
is_av1 Unlisted = false

-- ---- the rules of one packet: its index and its bytes
module _ (i : ℕ) (p : Bytes) where
  -- "Place is the packet index unless said."
  unfoldable pub rule : ℕ → (State → Bool) → Rule
  rule number given_when st = at_place i (given number (given_when st)) >> passed st

  -- 21 "first byte is not 0x47"
  unfoldable pub rule21 : Rule
  rule21 = rule 21 (λ st. sync_lost p)

  -- 22 "transport_error_indicator set"
  unfoldable pub rule22 : Rule
  rule22 = rule 22 (λ st. transport_error_indicator p)

  -- 23 "not on PID 0x1FFF: scrambling not 0; adaptation control 00; .."
  unfoldable pub rule23 : Rule
  rule23 = rule 23 (λ st. packet.header_wrong p)

  -- the packet's PCR, before 31 looks whether one counted
  abbrev pub clocked : Tables → Tables
  clocked t = with_pcr (last_pcr t.pcr (counting_pcr t.pmt p)) t

  unfoldable pub pcr_counts : Rule
  pcr_counts = on_tables (λ t. passed (clocked t))

  -- 24 "counter wrong on PID 0, the map PID or a listed PID"
  unfoldable pub checked : Tables → Verdict Tables
  checked t = do
    records ← at_place i (checked_in i t.records p)
    passed (with_records records t)

  unfoldable pub rule24 : Rule
  rule24 = on_tables checked

  -- the rules that go on to what the PID is "at that moment"
  module _ (kind : Kind) where
    -- AV1 payload; AV1 payload that starts a PES; AV1 payload that does not
    abbrev pub av1_payload : Bool
    av1_payload = is_av1 kind && has_payload p

    abbrev pub av1_start : Bool
    av1_start = is_av1 kind && starts_pes p

    abbrev pub av1_more : Bool
    av1_more = av1_payload && not (starts_pes p)

    -- the unit bytes of an AV1 payload
    abbrev pub unit_bytes : Bytes
    unit_bytes = pick (starts_pes p) (pes_data (payload p)) (payload p)

    -- 25, 26 "PAT or PMT wrong", 27 "more than 12 entries in the PMT", 28 "not exactly one AV1 entry, ..": of a packet
    -- with payload
    abbrev pub section_tried : Edition → Tables → Verdict Tables
    section_tried edition t = at_place i (section_read edition kind i (payload_unit_start_indicator p) (payload p) t)

    unfoldable pub rules25to28 : Edition → Rule
    rules25to28 edition = on_tables (λ t. pick (has_payload p) (section_tried edition t) (passed t))

    -- "A PES closes .. when its PID's next starting packet has passed 24" (and at the segment's end, Check.antt)
    unfoldable pub closing : Rule
    closing = on_units (λ x. pick av1_start (close_pes x) (passed x))

    -- 29 "AV1 PES header wrong, or AV1 payload before any PES start"
    abbrev pub pes_wrong : Extraction → Bool
    pes_wrong x = (av1_start && pes.header_wrong (payload p)) || (av1_more && not (is_open x.pes))

    unfoldable pub rule29 : Rule
    rule29 = rule 29 (λ st. pes_wrong st.extraction)

    -- 30 "PTS_DTS_flags 00", in an edition in which times are needed
    unfoldable pub rule30 : Edition → Rule
    rule30 edition = rule 30 (λ st. av1_start && (edition.times_needed && no_times (payload p)))

    -- 31 "AV1 payload with no PCR yet"
    unfoldable pub rule31 : Rule
    rule31 = rule 31 (λ st. av1_payload && not (is_pcr st.tables.pcr))

    -- 34 "a 1,025th unit"
    unfoldable pub rule34 : Rule
    rule34 = rule 34 (λ st. av1_start && ltb most_units (with_next st.extraction))

    -- 8 "a payload's bytes .. would pass their output's end"
    abbrev pub bytes_past : Rooms → Extraction → Bool
    bytes_past rooms x = ltb rooms.bytes (length (carried_so_far x) + length unit_bytes)

    -- 8 "at a PES start its unit's length or times, would pass their output's end"
    abbrev pub length_past : Rooms → Extraction → Bool
    length_past rooms x = ltb rooms.lens (with_next x)

    abbrev pub times_past : Rooms → Extraction → Bool
    times_past rooms x = ltb rooms.times (2 * with_next x)

    abbrev pub output_past : Rooms → Extraction → Bool
    output_past rooms x = (av1_payload && bytes_past rooms x) ||
        (av1_start && (length_past rooms x || times_past rooms x))

    unfoldable pub rule8 : Rooms → Rule
    rule8 rooms = rule 8 (λ st. output_past rooms st.extraction)

    -- a starting packet opens a PES, another AV1 payload adds to the open one
    abbrev pub opened : OpenPes
    opened = record { first = i; header = header_of (payload p); bytes = unit_bytes }

    abbrev pub longer : OpenPes → OpenPes
    longer o = record { first = o.first; header = o.header; bytes = o.bytes ++ unit_bytes }

    unfoldable pub added_to : Option OpenPes → Extraction → Extraction
    added_to None x = x
    added_to (Some o) x = with_pes (longer o) x

    unfoldable pub carried : Rule
    carried = on_units (λ x. passed (pick av1_start (with_pes opened x) (pick av1_more (added_to x.pes x) x)))

-- "Packets in order, each in this sequence, PES closing aside": the table. 20 comes before the first packet, 32 is
-- tried at closing, 33 last
abbrev pub up_to24 : ℕ → Bytes → List Rule
up_to24 i p =
    rule21 i p
    ∷ rule22 i p
    ∷ rule23 i p
    ∷ pcr_counts i p
    ∷ rule24 i p
    ∷ []

-- those of an AV1 payload, once the PES before it has closed
abbrev pub payload_rules : Edition → Rooms → ℕ → Bytes → Kind → List Rule
payload_rules edition rooms i p kind =
    rule29 i p kind
    ∷ rule30 i p kind edition
    ∷ rule31 i p kind
    ∷ rule34 i p kind
    ∷ rule8 i p kind rooms
    ∷ carried i p kind
    ∷ []

abbrev pub pes_rules : Edition → Rooms → ℕ → Bytes → Kind → List Rule
pes_rules edition rooms i p kind = closing i p kind ∷ payload_rules edition rooms i p kind

abbrev pub after24 : Edition → Rooms → ℕ → Bytes → Kind → List Rule
after24 edition rooms i p kind = rules25to28 i p kind edition ∷ pes_rules edition rooms i p kind

-- ---- the repeated packet (2026-05)
-- the record of a PID says that its last packet was a repeat
abbrev pub last_repeats : Option StreamRecord → Bool
last_repeats None = false
last_repeats (Some r) = r.repeat

-- after 24 the last packet of the packet's PID is this one
abbrev pub is_repeat : Bytes → State → Bool
is_repeat p st = last_repeats (record_of (pid p) st.tables.records)

-- "The second copy counts in its class, adds no bytes to a unit and no section, and starts or closes no PES.": after 24
-- no rule is tried on it
unfoldable pub unless_repeat : Bytes → Rule → Rule
unless_repeat p rest st = pick (is_repeat p st) (passed st) (rest st)

-- ---- one packet
unfoldable pub packet_rules : Edition → Rooms → ℕ → Bytes → Kind → Rule
packet_rules edition rooms i p kind st =
    in_sequence (up_to24 i p) st >>= unless_repeat p (in_sequence (after24 edition rooms i p kind))
