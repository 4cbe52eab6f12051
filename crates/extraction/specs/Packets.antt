-- What the code keeps of the tables and the units; what one packet does: the rules of segment_rules, of each state of
-- theirs that the code's is kept of. Assumes nothing.
use Rattle.std.specs.Prelude.{ℕ, ◌+◌, ◌*◌, ◌≤◌, Bool, true, ◌≡◌, List, ltb, length, replicate, Result, Ok, Err}
use Rattle.lists.specs.Lists.{Bytes}
use Rattle.refusal.specs.declared.Refused as refusal
use Rattle.refusal.specs.Verdict.{NoValue}
use Rattle.descriptor.specs.Naming.{edition_says}
use Rattle.descriptor.specs.declared.edition.Edition.{Edition}
use Rattle.packet.specs.Header.{packet_length, packet_at, pid}
use Rattle.packet.specs.Streams.{most_records}
use Rattle.packet.specs.declared.streams.Streams.{Streams}
use Rattle.segment_rules.specs.State as state
use Rattle.segment_rules.specs.State.{kind_of}
use Rattle.segment_rules.specs.Rules.{packet_rules}
use Rattle.segment_rules.specs.Check.{Outputs, rooms_of}
use Rattle.tables.specs.declared.state.Kind.{Kind}
use Rattle.tables.specs.declared.state.Kind.TheVariants as kinds
use Rattle.tables.specs.Tables.{Refines, Kept, fresh_tables, kind_says}
use Rattle.units.specs.declared.units.Extraction.{Extraction}
use Rattle.units.specs.Extraction.{UnitsRepresent, fresh_extraction, is_beyond, no_room}
use Rattle.extraction.specs.declared.packets.State.{State}

-- ---- the tables and the units
-- the code's state, the numbers of the records and the outputs, which were `before` at first, are what is kept of the
-- definitions' state, in this edition
pub record StateKept (edition : Edition) (segment : Bytes) (before now : Outputs) (c : State) (streams : Streams)
    (st : state.State) : Type 0 where
  pub follows : c.tables.edition ≡ edition
  pub tables : Kept segment c.tables streams st.tables
  pub extraction : UnitsRepresent before now c.extraction st.extraction

-- before the first packet; the three numbers of each record are then 0
abbrev pub fresh_state : Edition → State
fresh_state edition = record { tables = fresh_tables edition; extraction = fresh_extraction }

abbrev pub fresh_numbers : List ℕ
fresh_numbers = replicate (3 * most_records) 0

abbrev pub fresh_streams : Streams
fresh_streams = record { numbers = fresh_numbers }

-- ---- what a packet leaves: the state, what its PID was, and the verdict
pub record Stepped : Type 0 where
  pub state : State
  pub kind : Kind
  pub outcome : Result NoValue refusal.Refused

-- of what the code returns; where it refuses, no PID is spoken of
abbrev pub stepped : State → Result Kind refusal.Refused → Stepped
stepped c (Ok k) = record { state = c; kind = k; outcome = Ok tt }
stepped c (Err q) = record { state = c; kind = kinds.Unlisted; outcome = Err q }

-- a packet
abbrev pub PacketRefines : Edition → Bytes → ℕ → State → Streams → Outputs → Stepped → Streams → Outputs → Type 0
PacketRefines edition segment i c streams now r streams' after =
    (before : Outputs) (st : state.State) → StateKept edition segment before now c streams st
    → Refines r.outcome
    (packet_rules (edition_says edition) (rooms_of before) i (packet_at segment i)
    (kind_of st.tables (pid (packet_at segment i))) st)
    (λ st'. StateKept edition segment before after r.state streams' st'
    × (kind_says r.kind ≡ kind_of st.tables (pid (packet_at segment i))))

-- ---- what is handed in to a public function
-- a segment of this length has no packet with this index
abbrev pub no_packet : ℕ → ℕ → Bool
no_packet size i = ltb size (i * packet_length + packet_length)

-- then the answer is 8 at the index
abbrev pub RefusesOutside : Bytes → ℕ → Stepped → Type 0
RefusesOutside segment i r = no_packet (length segment) i ≡ true → r.outcome ≡ no_room i

-- where a place of the units lies beyond the outputs, a packet that passes leaves the units and the outputs as they
-- were
abbrev pub KeepsBeyond : Extraction → Outputs → Stepped → Outputs → Type 0
KeepsBeyond e now r after =
    is_beyond e (rooms_of now) ≡ true → r.outcome ≡ (Ok tt) → (r.state.extraction ≡ e) × (after ≡ now)

-- ---- what is handed back where it refuses
-- nobody goes on from it: the state before the first packet, with the refusal
abbrev pub refused_step : Edition → refusal.Refused → Stepped
refused_step edition q = record { state = fresh_state edition; kind = kinds.Unlisted; outcome = Err q }

-- with zeros throughout the numbers; and the outputs stay as they were
abbrev pub StepRefused : Edition → Outputs → Stepped → Streams → Outputs → Type 0
StepRefused edition now r streams' after =
    (q : refusal.Refused) → r.outcome ≡ Err q
    → (r ≡ refused_step edition q) × ((streams' ≡ fresh_streams) × (after ≡ now))

-- ---- what `step` does, in the edition that the tables follow
pub record Steps (edition : Edition) (segment : Bytes) (i : ℕ) (c : State) (streams : Streams) (now : Outputs)
    (r : Stepped) (streams' : Streams) (after : Outputs) : Type 0 where
  pub rules : i * packet_length + packet_length ≤ length segment
      → PacketRefines edition segment i c streams now r streams' after
  pub outside : RefusesOutside segment i r
  pub beyond : KeepsBeyond c.extraction now r after
  pub refused : StepRefused edition now r streams' after
