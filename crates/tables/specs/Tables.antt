-- What the code keeps of the tables: the part of a segment's state that rules 24 to 28 of document 01, "A segment",
-- read and change. No rule is said again here: a function is promised by the definitions of segment_rules that it
-- carries out, of each state of theirs that the tables which it is handed are kept of. Assumes nothing.
use Rattle.ticks.specs.declared.Ticks27.{Ticks27}
use Rattle.tables.specs.declared.state.PmtFound.{PmtFound}
use Rattle.tables.specs.declared.state.PatFound.{PatFound}
use Rattle.refusal.specs.declared.Refused.{Refused}
use Rattle.std.specs.Prelude.{ℕ, ◌≤◌, Bool, false, ◌≡◌, List, length, Result, Ok, Err, Option, Some, None}
use Rattle.lists.specs.Lists.{Bytes}
use Rattle.refusal.specs.Verdict.{Verdict, at_place, NoValue}
use Rattle.refusal.specs.Verdict as verdict
use Rattle.refusal.specs.Number.{refused_by}
use Rattle.refusal.specs.declared.Refused as refusal
use Rattle.descriptor.specs.Naming.{edition_says}
use Rattle.descriptor.specs.declared.edition.Edition.{Edition}
use Rattle.packet.specs.Header.{packet_at, pid, fields, payload}
use Rattle.packet.specs.declared.header.Header.{Header}
use Rattle.packet.specs.Counter.{StreamRecord, pids_of, record_of, checked_in}
use Rattle.packet.specs.declared.streams.Streams.{Streams}
use Rattle.packet.specs.Streams.{most_records, look_up, streams_of}
use Rattle.segment_rules.specs.State as state
use Rattle.segment_rules.specs.State.{FirstPat, FirstPmt, kind_of}
use Rattle.segment_rules.specs.Rules.{last_pcr, counting_pcr, section_read, last_repeats}
use Rattle.segment_rules.specs.Lying.{RecordsLie, Valid}
use Rattle.tables.specs.declared.state.Kind.{Kind}
use Rattle.tables.specs.declared.state.Kind.TheVariants as slot
use Rattle.tables.specs.declared.state.Packet.{Packet}
use Rattle.tables.specs.declared.tables.Tables.{Tables}

-- ---- the verdict of a function that may refuse
-- it carries out a step of the definitions: its outcome is the step's verdict, and where it passed, `Represents` says
-- what it gave back
abbrev pub Refines : {A : Type 0} → (Result NoValue Refused) → Verdict A → (A → Type 0) → Type 0
Refines {A} (Ok tt) v Represents = (a : A) × (v ≡ verdict.passed a) × Represents a
Refines {A} (Err r) v Represents = v ≡ refused_by r

-- the same outcome, a refusal having another place
abbrev pub placed_at : ℕ → (Result NoValue Refused) → (Result NoValue Refused)
placed_at place (Ok tt) = (Ok tt)
placed_at place (Err r) = Err (record { why = r.why; place = place })

-- ---- kinds: the code's has the slot of a listed PID's record
-- without it, the kind of the definitions
abbrev pub kind_says : Kind → state.Kind
kind_says slot.Null = state.Null
kind_says slot.Pat = state.Pat
kind_says slot.Map = state.Map
kind_says (slot.Av1 i) = state.Av1
kind_says (slot.Listed i) = state.Listed
kind_says slot.Unlisted = state.Unlisted

-- where the kind's record is among all of them, if it has one
abbrev pub slot_in : Kind → (Option ℕ)
slot_in slot.Null = None
slot_in slot.Pat = Some 0
slot_in slot.Map = Some 1
slot_in (slot.Av1 i) = Some i
slot_in (slot.Listed i) = Some i
slot_in slot.Unlisted = None

-- ---- the tables
-- the first PAT is kept by its packet's index and by what it says
abbrev pub pat_kept : Option FirstPat → (Option PatFound)
pat_kept None = None
pat_kept (Some f) = Some (record { packet = f.packet; says = f.says })

-- the first PMT by its packet's index, the PCR PID, the AV1 PID and how many streams it lists
abbrev pub pmt_kept : Option FirstPmt → (Option PmtFound)
pmt_kept None = None
pmt_kept (Some m) =
    Some (record {
      packet = m.packet;
      pcr_pid = m.says.pcr_pid;
      av1_pid = m.says.av1.pid;
      listed = length m.says.entries;
    })

-- the records are kept apart, as numbers that are lent (packet, `streams_of`)
abbrev pub tables_kept : Edition → state.Tables → Tables
tables_kept edition t =
    record { edition = edition; pat = pat_kept t.pat; pmt = pmt_kept t.pmt; pcr = t.pcr }

-- before the first packet: what is kept of the tables that the definitions begin with
abbrev pub fresh_tables : Edition → Tables
fresh_tables edition = tables_kept edition state.no_tables

-- the code's tables and these numbers are what is kept of the definitions' tables, which packets of the segment can
-- lead to
pub record Kept (segment : Bytes) (c : Tables) (streams : Streams) (t : state.Tables) : Type 0 where
  pub valid : Valid (edition_says c.edition) segment t
  pub tables : c ≡ tables_kept c.edition t
  pub records : streams ≡ streams_of t.records

-- what a section leaves of the tables, and the verdict on it
pub record TablesResult : Type 0 where
  pub tables : Tables
  pub outcome : Result NoValue Refused

-- what is handed back, with these numbers, is what is kept of the tables, in this edition
abbrev pub Gives : Edition → TablesResult → Streams → state.Tables → Type 0
Gives edition r streams t = (r.tables ≡ tables_kept edition t) × (streams ≡ streams_of t.records)

-- ---- what the functions do
-- what a PID is: that of the definitions, and its slot is where the lookup finds the PID among the records
abbrev pub KindRefines : Tables → Streams → ℕ → Kind → Type 0
KindRefines c streams n k =
    (segment : Bytes) (t : state.Tables) → Kept segment c streams t
    → (kind_says k ≡ kind_of t n) × (look_up n (pids_of t.records) ≡ slot_in k)

-- the last PCR that counted up to a packet with this header
abbrev pub PcrRefines : Tables → Header → (Option Ticks27) → Type 0
PcrRefines c h r =
    (t : state.Tables) (p : Bytes) → c ≡ tables_kept c.edition t → h ≡ fields p
    → r ≡ last_pcr t.pcr (counting_pcr t.pmt p)

-- whether a packet was a repeat, and the verdict on its counter: of what the code returns
pub record CounterResult : Type 0 where
  pub repeat : Bool
  pub outcome : Result NoValue Refused

abbrev pub counter_result : Result Bool Refused → CounterResult
counter_result (Ok b) = record { repeat = b; outcome = Ok tt }
counter_result (Err q) = record { repeat = false; outcome = Err q }

-- the counter of the packet with this index is checked, where the header and the kind beside it are its own; 24. The
-- numbers are then those of the records given back, and it says whether the packet was a repeat
abbrev pub CounterRefines : Bytes → Packet → Streams → CounterResult → Streams → Type 0
CounterRefines segment k streams r streams' =
    (p : Bytes) (records : List StreamRecord) → p ≡ packet_at segment k.index → k.header ≡ fields p
    → look_up (pid p) (pids_of records) ≡ slot_in k.kind → RecordsLie segment records
    → length records ≤ most_records → streams ≡ streams_of records
    → Refines r.outcome (at_place k.index (checked_in k.index records p))
    (λ records'. (streams' ≡ streams_of records') × (r.repeat ≡ last_repeats (record_of (pid p) records')))

-- where it refuses, the numbers stay as they were
abbrev pub CounterRefused : Streams → CounterResult → Streams → Type 0
CounterRefused streams r streams' =
    (q : refusal.Refused) → r.outcome ≡ Err q
    → (r ≡ record { repeat = false; outcome = Err q }) × (streams' ≡ streams)

-- the payload of the packet with this index is read, as its kind says; 25 to 28
abbrev pub SectionRefines : Bytes → ℕ → Bytes → Bool → Kind → Tables → Streams → TablesResult → Streams → Type 0
SectionRefines segment i w start kind c streams r streams' =
    (t : state.Tables) → w ≡ payload (packet_at segment i) → Kept segment c streams t
    → Refines r.outcome (section_read (edition_says c.edition) (kind_says kind) i start w t)
    (Gives c.edition r streams')

-- where it refuses, the tables and the numbers stay as they were
abbrev pub SectionRefused : Tables → Streams → TablesResult → Streams → Type 0
SectionRefused c streams r streams' =
    (q : refusal.Refused) → r.outcome ≡ Err q
    → (r ≡ record { tables = c; outcome = Err q }) × (streams' ≡ streams)
