-- What the promises of private functions cite; no public promise does. Assumes nothing.
use Rattle.std.specs.Prelude.{ℕ, suc, Bool, false, ◌≡◌, List, [], ◌∷◌, Option, Some, None}
use Rattle.lists.specs.Lists.{Bytes}
use Rattle.descriptor.specs.Naming.{edition_says}
use Rattle.packet.specs.declared.counter.Last.{Last}
use Rattle.packet.specs.declared.streams.Streams.{Streams}
use Rattle.packet.specs.Counter.{StreamRecord, equals_last, last_of, pids_of}
use Rattle.packet.specs.Streams.{look_up, with_pid}
use Rattle.pmt.specs.declared.entries.Entry.{Entry}
use Rattle.segment_rules.specs.State as state
use Rattle.segment_rules.specs.State.{listed_as}
use Rattle.segment_rules.specs.Rules.{pat_section, pmt_section}
use Rattle.segment_rules.specs.Lying.{RecordLies}
use Rattle.tables.specs.declared.state.Kind.{Kind}
use Rattle.tables.specs.declared.state.PatFound.{PatFound}
use Rattle.tables.specs.declared.tables.Tables.{Tables}
use Rattle.tables.specs.Tables.{Refines, TablesResult, kind_says, slot_in, Kept, Gives}

-- ---- the counters
-- the last packet was a repeat, if there is one
abbrev pub last_repeated : Option Last → Bool
last_repeated None = false
last_repeated (Some l) = l.repeat

-- a packet equals the last one of its record, which lies in the segment
abbrev pub EqualRefines : Bytes → Option Last → Bytes → Bool → Type 0
EqualRefines segment l p r =
    (s : StreamRecord) → l ≡ last_of s → RecordLies segment s → r ≡ equals_last s.last p

-- ---- what a PID is that is none of 0x1FFF, 0 and the map PID
abbrev pub ListedRefines : Tables → Streams → ℕ → Kind → Type 0
ListedRefines c streams n k =
    (segment : Bytes) (t : state.Tables) (f : PatFound) → c.pat ≡ Some f → Kept segment c streams t
    → (n ≡ 0 → ⊥) → (n ≡ f.says.map_pid → ⊥)
    → (kind_says k ≡ listed_as t.pmt n) × (look_up n (pids_of t.records) ≡ slot_in k)

-- ---- sections
-- the PIDs of these entries in slots one behind the other, of which this is the first
unfoldable pub with_pids : ℕ → List Entry → Streams → Streams
with_pids slot [] streams = streams
with_pids slot (e ∷ entries) streams = with_pids (suc slot) entries (with_pid streams slot e.pid)

-- a section that the packet with this index brought: the first PAT
abbrev pub FirstPatRefines : ℕ → Bytes → Tables → Streams → TablesResult → Streams → Type 0
FirstPatRefines i section c streams r streams' =
    (segment : Bytes) (t : state.Tables) → c.pat ≡ None → Kept segment c streams t
    → Refines r.outcome (pat_section i t.pat section t)
    (Gives c.edition r streams')

-- a PAT
abbrev pub PatRefines : Bytes → ℕ → Bytes → Tables → Streams → TablesResult → Streams → Type 0
PatRefines segment i section c streams r streams' =
    (t : state.Tables) → Kept segment c streams t
    → Refines r.outcome (pat_section i t.pat section t)
    (Gives c.edition r streams')

-- the first PMT, of the PAT's program
abbrev pub FirstPmtRefines : ℕ → Bytes → PatFound → Tables → Streams → TablesResult → Streams → Type 0
FirstPmtRefines i section f c streams r streams' =
    (segment : Bytes) (t : state.Tables) → c.pmt ≡ None → c.pat ≡ Some f → Kept segment c streams t
    → Refines r.outcome (pmt_section (edition_says c.edition) i t.pat t.pmt section t)
    (Gives c.edition r streams')

-- a PMT
abbrev pub PmtRefines : Bytes → ℕ → Bytes → Tables → Streams → TablesResult → Streams → Type 0
PmtRefines segment i section c streams r streams' =
    (t : state.Tables) → Kept segment c streams t
    → Refines r.outcome (pmt_section (edition_says c.edition) i t.pat t.pmt section t)
    (Gives c.edition r streams')
