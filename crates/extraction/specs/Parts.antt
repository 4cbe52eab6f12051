-- What the promises of private functions cite; no public promise does. No rule is said again here: a private function
-- is promised by the rules of segment_rules that it carries out. Assumes nothing.
use Rattle.std.specs.Prelude.{ℕ, ◌+◌, ◌*◌, ◌≤◌, true, ◌≡◌, length, Result, Ok, Err, Option}
use Rattle.lists.specs.Lists.{Bytes}
use Rattle.refusal.specs.Verdict as verdict
use Rattle.refusal.specs.Verdict.{NoValue}
use Rattle.refusal.specs.declared.Refused.{Refused}
use Rattle.ticks.specs.declared.Ticks27.{Ticks27}
use Rattle.descriptor.specs.Naming.{edition_says}
use Rattle.descriptor.specs.declared.edition.Edition.{Edition}
use Rattle.packet.specs.Header.{packet_length, packet_at, fields, header_of, has_payload}
use Rattle.packet.specs.declared.header.Header.{Header}
use Rattle.packet.specs.Counter.{pids_of}
use Rattle.packet.specs.Streams.{look_up}
use Rattle.packet.specs.declared.streams.Streams.{Streams}
use Rattle.segment_rules.specs.State as state
use Rattle.segment_rules.specs.Rules.{in_sequence, after24, packet_rules}
use Rattle.segment_rules.specs.Check.{Outputs, rooms_of}
use Rattle.tables.specs.declared.state.Kind.{Kind}
use Rattle.tables.specs.declared.state.Packet.{Packet}
use Rattle.tables.specs.Tables.{Refines, kind_says, slot_in, PcrRefines}
use Rattle.units.specs.declared.units.Extraction.{Extraction}
use Rattle.units.specs.Extraction.{is_beyond}
use Rattle.extraction.specs.declared.packets.State.{State}
use Rattle.extraction.specs.Packets.{StateKept, Stepped, stepped, fresh_streams, PacketRefines, RefusesOutside}
use Rattle.extraction.specs.Packets.{refused_step}

-- the state with another PCR, which is the last one that counted up to a packet with this header
abbrev pub with_clock : State → Option Ticks27 → State
with_clock c pcr =
    record {
      tables = record { edition = c.tables.edition; pat = c.tables.pat; pmt = c.tables.pmt; pcr = pcr };
      extraction = c.extraction;
    }

abbrev pub Clocks : State → Header → State → Type 0
Clocks c h r = (r ≡ with_clock c r.tables.pcr) × PcrRefines c.tables h r.tables.pcr

-- what is handed back after a packet with this outcome, in this edition, and the numbers of the records
abbrev pub handed_back : Edition → Result NoValue Refused → Stepped → Stepped
handed_back edition (Ok tt) r = r
handed_back edition (Err q) r = refused_step edition q

abbrev pub numbers_back : Result NoValue Refused → Streams → Streams
numbers_back (Ok tt) streams = streams
numbers_back (Err q) streams = fresh_streams

-- where it refuses, the outputs stay as they were; and where it passes and a place of the units lies beyond them
abbrev pub Leaves : Extraction → Outputs → State → Result NoValue Refused → Outputs → Type 0
Leaves e now c' o after =
    (is_beyond e (rooms_of now) ≡ true → o ≡ Ok tt → (c'.extraction ≡ e) × (after ≡ now))
    × ((q : Refused) → o ≡ Err q → after ≡ now)

-- a packet with payload that passed 24
abbrev pub ContentRefines : Bytes → Packet → State → Streams → Outputs → State → Result NoValue Refused → Streams
    → Outputs → Type 0
ContentRefines segment k c streams now c' o streams' after =
    (edition : Edition) (before : Outputs) (p : Bytes) (st : state.State) → p ≡ packet_at segment k.index
    → k.header ≡ fields p → has_payload p ≡ true → StateKept edition segment before now c streams st
    → Refines o
    (in_sequence (after24 (edition_says edition) (rooms_of before) k.index p (kind_says k.kind)) st)
    (StateKept edition segment before after c' streams')

-- a packet that passed 21, 22 and 23
abbrev pub ReadRefines : Bytes → Packet → State → Streams → Outputs → State → Result NoValue Refused → Streams → Outputs
    → Type 0
ReadRefines segment k c streams now c' o streams' after =
    (edition : Edition) (before : Outputs) (p : Bytes) (st : state.State) → p ≡ packet_at segment k.index
    → header_of p ≡ verdict.passed k.header
    → look_up k.header.pid (pids_of st.tables.records) ≡ slot_in k.kind
    → StateKept edition segment before now c streams st
    → Refines o (packet_rules (edition_says edition) (rooms_of before) k.index p (kind_says k.kind) st)
    (StateKept edition segment before after c' streams')

-- with what they leave
abbrev pub TakesContent : Bytes → Packet → State → Streams → Outputs → State → Result NoValue Refused → Streams
    → Outputs → Type 0
TakesContent segment k c streams now c' o streams' after =
    ContentRefines segment k c streams now c' o streams' after × Leaves c.extraction now c' o after

abbrev pub StepsRead : Bytes → Packet → State → Streams → Outputs → State → Result NoValue Refused → Streams → Outputs
    → Type 0
StepsRead segment k c streams now c' o streams' after =
    ReadRefines segment k c streams now c' o streams' after × Leaves c.extraction now c' o after

-- the packet with this index, if the segment has it
abbrev pub StepsAt : Bytes → ℕ → State → Streams → Outputs → State → Result Kind Refused → Streams → Outputs → Type 0
StepsAt segment i c streams now c' r streams' after =
    (i * packet_length + packet_length ≤ length segment → (edition : Edition)
    → PacketRefines edition segment i c streams now (stepped c' r) streams' after)
    × (RefusesOutside segment i (stepped c' r) × Leaves c.extraction now c' (stepped c' r).outcome after)
