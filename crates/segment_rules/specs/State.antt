-- What the packets of a segment have said so far. The words of document 01, "A segment", stand over each definition.
-- Assumes nothing.
use Rattle.ticks.specs.declared.Ticks27.{Ticks27}
use Rattle.std.specs.Prelude.{ℕ, ◌+◌, Bool, false, List, [], ◌∷◌, ◌++◌, eqb, Option, Some, None}
use Rattle.lists.specs.Lists.{Bytes, pick, any}
use Rattle.packet.specs.Header.{null_pid}
use Rattle.packet.specs.Counter.{StreamRecord, named}
use Rattle.psi.specs.declared.pat.Program.{Program}
use Rattle.pmt.specs.Pmt.{MapContent, pids}
use Rattle.pes.specs.declared.header.Header.{Header}
use Rattle.pes.specs.declared.header.Times.{Times}
use Rattle.segment_rules.specs.declared.Totals.{Totals}

-- ---- the tables
-- the first PAT: the packet that brought it, its section's bytes, and the program that they name
pub record FirstPat : Type 0 where
  pub packet : ℕ
  pub section : Bytes
  pub says : Program

-- the first PMT: the packet that brought it, its section's bytes, and the map that they give
pub record FirstPmt : Type 0 where
  pub packet : ℕ
  pub section : Bytes
  pub says : MapContent

pub record Tables : Type 0 where
  -- the first PAT and the first PMT, if any yet
  pub pat : Option FirstPat
  pub pmt : Option FirstPmt
  -- "Each listed stream has a record of PID and last counter", and so have PID 0, and the map PID: PID 0 from the
  -- start, the map PID from the PAT on, the listed PIDs from the PMT on
  pub records : List StreamRecord
  -- the last PCR that counted for 31, if any yet
  pub pcr : (Option Ticks27)

-- ---- the access units
-- the open PES: "the packet that began it", its header, and its unit's bytes so far
pub record OpenPes : Type 0 where
  pub first : ℕ
  pub header : Header
  pub bytes : Bytes

-- an access unit whose PES has closed: the packet that began it, its bytes as carried, its PTS and DTS
pub record AccessUnit : Type 0 where
  pub first : ℕ
  pub carried : Bytes
  pub times : Option Times

pub record Extraction : Type 0 where
  -- the open PES, if any
  pub pes : Option OpenPes
  -- the units so far
  pub units : List AccessUnit

-- ---- both
pub record State : Type 0 where
  pub tables : Tables
  pub extraction : Extraction

-- before the first packet: PID 0 alone is known
abbrev pub no_tables : Tables
no_tables = record { pat = None; pmt = None; records = named 0 ∷ []; pcr = None }

abbrev pub no_units : Extraction
no_units = record { pes = None; units = [] }

abbrev pub fresh : State
fresh = record { tables = no_tables; extraction = no_units }

-- ---- one part set anew
abbrev pub with_tables : Tables → State → State
with_tables t st = record { tables = t; extraction = st.extraction }

abbrev pub with_extraction : Extraction → State → State
with_extraction x st = record { tables = st.tables; extraction = x }

abbrev pub with_records : List StreamRecord → Tables → Tables
with_records records t = record { pat = t.pat; pmt = t.pmt; records = records; pcr = t.pcr }

abbrev pub with_pcr : (Option Ticks27) → Tables → Tables
with_pcr c t = record { pat = t.pat; pmt = t.pmt; records = t.records; pcr = c }

-- the first PAT was read, and names these PIDs; the first PMT was
abbrev pub with_pat : FirstPat → List StreamRecord → Tables → Tables
with_pat first new t = record { pat = Some first; pmt = t.pmt; records = t.records ++ new; pcr = t.pcr }

abbrev pub with_pmt : FirstPmt → List StreamRecord → Tables → Tables
with_pmt first new t = record { pat = t.pat; pmt = Some first; records = t.records ++ new; pcr = t.pcr }

abbrev pub with_pes : OpenPes → Extraction → Extraction
with_pes o x = record { pes = Some o; units = x.units }

-- the open PES has closed, and gave one more unit
abbrev pub with_unit : AccessUnit → Extraction → Extraction
with_unit u x = record { pes = None; units = x.units ++ (u ∷ []) }

-- ---- what a packet's PID is "at that moment"
pub data Kind : Type 0 where
  -- PID 0x1FFF
  Null : Kind
  -- PID 0, the map PID, the AV1 PID, another listed PID
  Pat : Kind
  Map : Kind
  Av1 : Kind
  Listed : Kind
  Unlisted : Kind

-- the map PID is known from the packet after the PAT
unfoldable pub is_map_pid : Option FirstPat → ℕ → Bool
is_map_pid None pid = false
is_map_pid (Some pat) pid = eqb pid pat.says.map_pid

-- "Streams are listed from the packet after the PMT; other PIDs are skipped."
unfoldable pub listed_as : Option FirstPmt → ℕ → Kind
listed_as None pid = Unlisted
listed_as (Some pmt) pid =
    pick (eqb pid pmt.says.av1.pid) Av1
    (pick (any (eqb pid) (pids pmt.says.entries)) Listed Unlisted)

unfoldable pub kind_of : Tables → ℕ → Kind
kind_of t pid =
    pick (eqb pid null_pid) Null
    (pick (eqb pid 0) Pat
    (pick (is_map_pid t.pat pid) Map
    (listed_as t.pmt pid)))

-- ---- the totals: "packet totals in five classes by PID at that moment: null, section, AV1, other listed, unlisted"
-- `Totals` (src/lib.rt) is these five, in this order
abbrev pub five_totals : ℕ → ℕ → ℕ → ℕ → ℕ → Totals
five_totals null section av1 other unlisted =
    record { null = null; section = section; av1 = av1; other_listed = other; unlisted = unlisted }

abbrev pub none_yet : Totals
none_yet = five_totals 0 0 0 0 0

-- one more packet: PID 0 and the map PID are of class section
unfoldable pub counting : Kind → Totals → Totals
counting Null t = five_totals (t.null + 1) t.section t.av1 t.other_listed t.unlisted
counting Pat t = five_totals t.null (t.section + 1) t.av1 t.other_listed t.unlisted
counting Map t = five_totals t.null (t.section + 1) t.av1 t.other_listed t.unlisted
counting Av1 t = five_totals t.null t.section (t.av1 + 1) t.other_listed t.unlisted
counting Listed t = five_totals t.null t.section t.av1 (t.other_listed + 1) t.unlisted
counting Unlisted t = five_totals t.null t.section t.av1 t.other_listed (t.unlisted + 1)

-- all packets of the five classes
abbrev pub packet_count : Totals → ℕ
packet_count t = t.null + t.section + t.av1 + t.other_listed + t.unlisted
