-- What the promises of private functions cite; no public promise does. No rule is said again here: a private function
-- is promised by the rules of segment_rules that it carries out. Assumes nothing.
use Rattle.std.specs.Prelude.{ℕ, zero, suc, ◌+◌, ◌*◌, ◌/◌, ◌%◌, ◌≤◌, ◌<◌, ◌^◌, Bool, true, false, ◌≡◌, List}
use Rattle.std.specs.Prelude.{length, Option, Some, None}
use Rattle.lists.specs.Lists.{Bytes, pick}
use Rattle.refusal.specs.Verdict as verdict
use Rattle.descriptor.specs.Naming.{edition_says}
use Rattle.descriptor.specs.Edition as rules
use Rattle.descriptor.specs.declared.edition.Edition.{Edition}
use Rattle.packet.specs.Header.{packet_length, packet_at, pid}
use Rattle.packet.specs.declared.streams.Streams.{Streams}
use Rattle.packet.specs.Counter.{seen}
use Rattle.packet.specs.Streams.{last_in, with_last}
use Rattle.plain.specs.Runs.{payload_length}
use Rattle.segment_rules.specs.declared.Totals.{Totals}
use Rattle.segment_rules.specs.State as state
use Rattle.segment_rules.specs.State.{kind_of, five_totals, packet_count}
use Rattle.segment_rules.specs.Rules.{Rooms, is_pcr, packet_rules}
use Rattle.segment_rules.specs.Check.{Outputs, outputs_of, rooms_of}
use Rattle.tables.specs.declared.state.Kind.{Kind}
use Rattle.tables.specs.declared.state.Kind.TheVariants as kinds
use Rattle.tables.specs.Tables.{KindRefines}
use Rattle.units.specs.declared.state.PesFound.{PesFound}
use Rattle.extraction.specs.declared.packets.State.{State}
use Rattle.extraction.specs.Packets.{StateKept}
use Rattle.segment_run.specs.declared.going.Due.{Due}
use Rattle.segment_run.specs.declared.going.Due.TheVariants as due
use Rattle.segment_run.specs.declared.going.Went.{Went}

-- ---- packets that go on
-- n is a PID of this kind, and the last packet in this slot had this counter
pub record Follows (c : State) (streams : Streams) (n slot counter : ℕ) (k : Kind) : Type 0 where
  pub kind : KindRefines c.tables streams n k
  pub seen : (i : ℕ) × (repeat : Bool) × (last_in streams slot ≡ seen counter i repeat)

-- and a PES is open and a PCR has counted
pub record MayGoOn (c : State) : Type 0 where
  pub opened : (f : PesFound) × (c.extraction.pes ≡ Some f)
  pub clocked : is_pcr c.tables.pcr ≡ true

-- by cases on the open PES
abbrev pub opens : Option PesFound → Bool → Bool
opens None clocked = false
opens (Some f) clocked = clocked

abbrev pub MayFollow : State → Streams → ℕ → Due → Type 0
MayFollow c streams n (due.Av1 slot counter) = Follows c streams n slot counter (kinds.Av1 slot) × MayGoOn c
MayFollow c streams n (due.Listed slot counter) = Follows c streams n slot counter (kinds.Listed slot)

abbrev pub DueRefines : State → Streams → ℕ → Option Due → Type 0
DueRefines c streams n None = Unit {0}
DueRefines c streams n (Some d) = MayFollow c streams n d

-- a PES is open, and a PCR has counted
abbrev pub is_opened : State → Bool
is_opened c = opens c.extraction.pes (is_pcr c.tables.pcr)

-- the records with the last of so many packets from index i on, where the counter before them was this one
abbrev pub last_went : Streams → ℕ → ℕ → ℕ → ℕ → Streams
last_went streams slot counter i zero = streams
last_went streams slot counter i (suc n) = with_last streams slot (seen ((counter + suc n) % 16) (i + n) false)

-- what packets that went on leave: their kind, the state and the totals
abbrev pub kind_went : Went → state.Kind
kind_went r = pick r.av1 state.Av1 state.Listed

abbrev pub state_went : State → Went → State
state_went c r =
    record {
      tables = c.tables;
      extraction =
          record {
            pes = c.extraction.pes;
            units = c.extraction.units;
            start = c.extraction.start;
            bytes = c.extraction.bytes + pick r.av1 (r.packets * payload_length) 0;
          };
    }

abbrev pub totals_went : Totals → Went → Totals
totals_went t r =
    pick r.av1
    (five_totals t.null t.section (t.av1 + r.packets) t.other_listed t.unlisted)
    (five_totals t.null t.section t.av1 (t.other_listed + r.packets) t.unlisted)

module _ (edition : rules.Edition) (segment : Bytes) where
  -- so many packets in turn from an index on are of this kind and pass, each by its rules, and no unit closes
  abbrev pub Pass : Rooms → state.Kind → ℕ → ℕ → state.State → state.State → Type 0
  Pass rooms kind zero i st st' = st' ≡ st
  Pass rooms kind (suc n) i st st' =
      (next : state.State)
      × (kind_of st.tables (pid (packet_at segment i)) ≡ kind)
      × (packet_rules edition rooms i (packet_at segment i) kind st ≡ verdict.passed next)
      × (next.extraction.units ≡ st.extraction.units)
      × Pass rooms kind n (i + 1) next st'

-- packets that go on, where there are any
abbrev pub GoOnRefines : Edition → Bytes → ℕ → State → Streams → Outputs → Went → Streams → Outputs → Type 0
GoOnRefines edition segment i c streams now r streams' after =
    (r.packets ≡ 0 → ⊥) → (before : Outputs) (st : state.State)
    → StateKept edition segment before now c streams st
    → (st' : state.State) × Pass (edition_says edition) segment (rooms_of before) (kind_went r) r.packets i st st'
    × StateKept edition segment before after (state_went c r) streams' st'

-- in every edition, whatever the other outputs hold; the packets lie within the segment, and where there are none, the
-- output and the records are as they were
pub record GoesOn (segment : Bytes) (i : ℕ) (c : State) (streams : Streams) (out : Bytes) (r : Went)
    (streams' : Streams) (out' : Bytes) : Type 0 where
  pub passes : (edition : Edition) (lens times : List ℕ)
      → GoOnRefines edition segment i c streams (outputs_of out lens times) r streams' (outputs_of out' lens times)
  pub within : i + r.packets ≤ length segment / packet_length
  pub unmoved : r.packets ≡ 0 → (streams' ≡ streams) × (out' ≡ out)

-- there is room for so many packets more in each total
abbrev pub CountsUpTo : ℕ → Totals → Type 0
CountsUpTo n t = packet_count t + n < 2 ^ 64
