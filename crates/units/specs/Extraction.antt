-- What the code keeps of the access units, with what stands in the outputs, and what it stands for; what a payload does
-- and the end of a PES: the rules of segment_rules, of each state of theirs for which the code's stands.
-- Assumes nothing.
use Rattle.refusal.specs.declared.Refused.{Refused}
use Rattle.refusal.specs.Verdict.{NoValue}
use Rattle.std.specs.Prelude.{ℕ, ◌+◌, ◌*◌, ◌≤◌, Bool, true, ◌||◌, ◌≡◌, List, ltb, length, set}
use Rattle.std.specs.Prelude.{Result, Ok, Err, Option, Some, None}
use Rattle.lists.specs.Lists.{Bytes, over, pick}
use Rattle.refusal.specs.declared.Refusal.TheVariants as refusals
use Rattle.refusal.specs.declared.Refused as refusal
use Rattle.descriptor.specs.Edition.{Edition}
use Rattle.packet.specs.Header.{has_payload, payload, payload_unit_start_indicator}
use Rattle.segment_rules.specs.State as state
use Rattle.segment_rules.specs.State.{OpenPes, State}
use Rattle.segment_rules.specs.Rules.{Rooms, Rule, in_sequence, is_pcr, close_pes, open_bytes, carried_units}
use Rattle.segment_rules.specs.Rules.{carried_so_far}
use Rattle.segment_rules.specs.Rules.{pes_rules}
use Rattle.segment_rules.specs.Check.{Outputs, outputs_of, rooms_of, lengths, times_in_turn}
use Rattle.tables.specs.Tables.{Refines}
use Rattle.units.specs.declared.state.PesFound.{PesFound}
use Rattle.units.specs.declared.units.Extraction.{Extraction}

-- the units after a packet, and the verdict on it
pub record ExtractionResult : Type 0 where
  pub extraction : Extraction
  pub outcome : Result NoValue Refused

-- ---- the units
abbrev pub open_pes : PesFound → Bytes → OpenPes
open_pes f bytes = record { first = f.first; header = f.header; bytes = bytes }

abbrev pub pes_of : Bytes → (Option PesFound) → Option OpenPes
pes_of bytes None = None
pes_of bytes (Some f) = Some (open_pes f bytes)

abbrev pub fresh_extraction : Extraction
fresh_extraction = record { pes = None; units = 0; start = 0; bytes = 0 }

-- so many units have their length and times in the outputs' room: those that closed, and the open one
abbrev pub units_begun : (Option PesFound) → ℕ → ℕ
units_begun None units = units
units_begun (Some f) units = units + 1

abbrev pub rooms_in : Bytes → List ℕ → List ℕ → Rooms
rooms_in out lens times = rooms_of (outputs_of out lens times)

-- the places that the code keeps lie within outputs of these lengths
pub record Fits (e : Extraction) (rooms : Rooms) : Type 0 where
  pub in_bytes : e.start + e.bytes ≤ rooms.bytes
  pub in_lens : units_begun e.pes e.units ≤ rooms.lens
  pub in_times : 2 * units_begun e.pes e.units ≤ rooms.times

-- the outputs with what has been extracted so far over their front: the units that closed, and the bytes of the open
-- one
abbrev pub holding_so_far : state.Extraction → Outputs → Outputs
holding_so_far x before =
    record {
      bytes = over (carried_so_far x) before.bytes;
      lens = over (lengths x.units) before.lens;
      times = over (times_in_turn x.units) before.times;
    }

-- the code's places and the outputs, which were `before` at first, hold what has been extracted
pub record UnitsRepresent (before now : Outputs) (e : Extraction) (x : state.Extraction) : Type 0 where
  pub pes : x.pes ≡ pes_of (open_bytes x.pes) e.pes
  pub units : e.units ≡ length x.units
  pub start : e.start ≡ length (carried_units x.units)
  pub bytes : e.bytes ≡ length (open_bytes x.pes)
  pub outputs : now ≡ holding_so_far x before
  pub fits : Fits e (rooms_of before)

-- the closing of a PES
abbrev pub ClosingRefines : Extraction → Outputs → ExtractionResult → Outputs → Type 0
ClosingRefines e now r after =
    (before : Outputs) (x : state.Extraction) → UnitsRepresent before now e x
    → Refines r.outcome (close_pes x) (UnitsRepresent before after r.extraction)

-- ---- the packets that began the units
-- the packet that began the open PES
abbrev pub first_of : (Option PesFound) → ℕ
first_of None = 0
first_of (Some f) = f.first

-- where a unit more has closed since, it stands in the unit's place, if the list has it
abbrev pub first_noted : Extraction → Extraction → List ℕ → List ℕ
first_noted e e' firsts = pick (ltb e.units e'.units) (set firsts e.units (first_of e.pes)) firsts

-- ---- an AV1 payload
-- w is the payload of packet p, which has this payload start
pub record PayloadOf (p : Bytes) (start_flag : Bool) (w : Bytes) : Type 0 where
  pub carries : has_payload p ≡ true
  pub starts : payload_unit_start_indicator p ≡ start_flag
  pub same : w ≡ payload p

-- rules of a PES, which leave the tables
abbrev pub PesRefines : Outputs → List Rule → State → ExtractionResult → Outputs → Type 0
PesRefines before rules st r after =
    Refines r.outcome (in_sequence rules st)
    (λ st'. (st'.tables ≡ st.tables) × UnitsRepresent before after r.extraction st'.extraction)

-- the rules of a PES, where a PCR has counted or not, and the edition is this one
abbrev pub PayloadRefines : Edition → Bool → ℕ → Bytes → Bool → Extraction → Outputs → ExtractionResult → Outputs
    → Type 0
PayloadRefines edition start_flag i w pcr_seen e now r after =
    (before : Outputs) (p : Bytes) (st : State) → PayloadOf p start_flag w → is_pcr st.tables.pcr ≡ pcr_seen
    → UnitsRepresent before now e st.extraction
    → PesRefines before (pes_rules edition (rooms_of before) i p state.Av1) st r after

-- ---- what is handed in to a public function
-- a place that the code keeps lies beyond outputs of these lengths
abbrev pub is_beyond : Extraction → Rooms → Bool
is_beyond e rooms =
    ltb rooms.bytes (e.start + e.bytes)
    || (ltb rooms.lens (units_begun e.pes e.units) || ltb rooms.times (2 * units_begun e.pes e.units))

-- then the answer is 8 at a place
abbrev pub no_room : ℕ → (Result NoValue Refused)
no_room place = Err (record { why = refusals.NoRoom; place = place })

abbrev pub RefusesBeyond : ℕ → Extraction → Rooms → ExtractionResult → Type 0
RefusesBeyond place e rooms r = is_beyond e rooms ≡ true → r.outcome ≡ no_room place

-- ---- what is handed back where a function refuses
-- nobody goes on from it: the units before the first packet, with the refusal
abbrev pub refused_units : refusal.Refused → ExtractionResult
refused_units q = record { extraction = fresh_extraction; outcome = Err q }

-- and what was lent stays as it was
abbrev pub UnitsRefused : {A : Type 0} → A → ExtractionResult → A → Type 0
UnitsRefused now r after = (q : refusal.Refused) → r.outcome ≡ Err q → (r ≡ refused_units q) × (after ≡ now)

-- ---- what the public functions do
abbrev pub TakesPayload : Edition → Bool → ℕ → Bytes → Bool → Extraction → Outputs → ExtractionResult → Outputs → Type 0
TakesPayload edition start_flag i w pcr_seen e now r after =
    PayloadRefines edition start_flag i w pcr_seen e now r after
    × (RefusesBeyond i e (rooms_of now) r × UnitsRefused now r after)

-- after the closing no PES is open
abbrev pub Closes : Extraction → Outputs → ExtractionResult → Outputs → Type 0
Closes e now r after =
    ClosingRefines e now r after
    × ((r.outcome ≡ (Ok tt) → r.extraction.pes ≡ None)
    × (RefusesBeyond 0 e (rooms_of now) r × UnitsRefused now r after))
