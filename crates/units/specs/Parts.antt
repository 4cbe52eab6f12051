-- What the promises of private functions cite; no public promise does. No rule is said again here: a private function
-- is promised by the rules of segment_rules that it carries out. Assumes nothing.
use Rattle.units.specs.declared.state.PesFound.{PesFound}
use Rattle.refusal.specs.declared.Refused.{Refused}
use Rattle.refusal.specs.Verdict.{NoValue}
use Rattle.std.specs.Prelude.{ℕ, ◌+◌, ◌*◌, Bool, true, false, ◌≡◌, List, [], ◌∷◌, length, set}
use Rattle.std.specs.Prelude.{get_or, Result, Ok, Err, Option, Some, None}
use Rattle.lists.specs.Lists.{Bytes}
use Rattle.descriptor.specs.Edition.{Edition}
use Rattle.pes.specs.Pes.{pes_data}
use Rattle.pes.specs.declared.header.Times.{Times}
use Rattle.segment_rules.specs.State as state
use Rattle.segment_rules.specs.State.{OpenPes, State, with_unit}
use Rattle.segment_rules.specs.Rules.{Rooms, in_sequence, is_pcr, close_open, unit_of, rule31, rule34, rule8}
use Rattle.segment_rules.specs.Rules.{payload_rules}
use Rattle.segment_rules.specs.Check.{Outputs, outputs_of, rooms_of, pts_and_dts}
use Rattle.tables.specs.Tables.{Refines}
use Rattle.units.specs.declared.units.Extraction.{Extraction}
use Rattle.units.specs.Extraction.{ExtractionResult, refused_units, units_begun, UnitsRepresent, ClosingRefines}
use Rattle.units.specs.Extraction.{PayloadOf, PesRefines, PayloadRefines, UnitsRefused}

-- ---- the units
-- the units that a function returns, or its refusal, as they are kept
abbrev pub kept : Result Extraction Refused → ExtractionResult
kept (Ok e) = record { extraction = e; outcome = Ok tt }
kept (Err q) = refused_units q

-- the times of a header are not there
abbrev pub is_absent : Option Times → Bool
is_absent None = true
is_absent (Some t) = false

-- these are the rooms of these outputs
pub record RoomsRepresent (rooms : Rooms) (o : Outputs) : Type 0 where
  pub bytes : rooms.bytes ≡ length o.bytes
  pub lens : rooms.lens ≡ length o.lens
  pub times : rooms.times ≡ length o.times

-- the verdict on the unit of a PES that closes
abbrev pub JudgeRefines : OpenPes → (Result NoValue Refused) → Type 0
JudgeRefines o r = (x : state.Extraction) → Refines r (close_open o x) (λ x'. x' ≡ with_unit (unit_of o) x)

-- ---- the open PES closes, if there is one
abbrev pub closed_units : Extraction → Extraction
closed_units e =
    record { pes = None; units = units_begun e.pes e.units; start = e.start + e.bytes; bytes = 0 }

-- its unit's length and times in the unit's place
abbrev pub lens_put : (Option PesFound) → ℕ → ℕ → List ℕ → List ℕ
lens_put None unit bytes lens = lens
lens_put (Some f) unit bytes lens = set lens unit bytes

abbrev pub times_put : (Option PesFound) → ℕ → List ℕ → List ℕ
times_put None unit times = times
times_put (Some f) unit times =
    set (set times (2 * unit) (get_or (pts_and_dts f.header.times) 0 0)) (2 * unit + 1)
    (get_or (pts_and_dts f.header.times) 1 0)

abbrev pub lens_closed : Extraction → List ℕ → List ℕ
lens_closed e lens = lens_put e.pes e.units e.bytes lens

abbrev pub times_closed : Extraction → List ℕ → List ℕ
times_closed e times = times_put e.pes e.units times

-- the verdict on it; where that passes, the closing is these units, with the length and times in place
abbrev pub JudgedRefines : Extraction → Bytes → (Result NoValue Refused) → Type 0
JudgedRefines e out o =
    (lens times : List ℕ)
    → ClosingRefines e (outputs_of out lens times) (record { extraction = closed_units e; outcome = o })
    (outputs_of out (lens_closed e lens) (times_closed e times))

-- ---- a PES opens
-- 31, 34, 8 of a payload with which a PES is to open, no other being open; e' has the units where it is open
abbrev pub MayOpenRefines : ℕ → Bool → Extraction → Rooms → (Result NoValue Refused) → Type 0
MayOpenRefines i pcr_seen e' rooms r =
    (before now : Outputs) (p w : Bytes) (st : State) (e : Extraction) (f : PesFound) → RoomsRepresent rooms now
    → PayloadOf p true w → is_pcr st.tables.pcr ≡ pcr_seen → UnitsRepresent before now e st.extraction → e.pes ≡ None
    → e' ≡ record { pes = Some f; units = e.units; start = e.start; bytes = length (pes_data w) }
    → Refines r
    (in_sequence (rule31 i p state.Av1 ∷ rule34 i p state.Av1 ∷ rule8 i p state.Av1 (rooms_of before) ∷ []) st)
    (λ st'. st' ≡ st)

-- a PES opens with a payload, no other being open
abbrev pub OpeningRefines : Edition → ℕ → Bytes → Bool → Extraction → Rooms → Bytes → ExtractionResult → Bytes
    → Type 0
OpeningRefines edition i w pcr_seen e rooms out r out' =
    (before : Outputs) (lens times : List ℕ) (p : Bytes) (st : State)
    → RoomsRepresent rooms (outputs_of out lens times)
    → PayloadOf p true w → is_pcr st.tables.pcr ≡ pcr_seen → e.pes ≡ None
    → UnitsRepresent before (outputs_of out lens times) e st.extraction
    → PesRefines before (payload_rules edition (rooms_of before) i p state.Av1) st r (outputs_of out' lens times)

-- a payload that goes on with the open PES, in every edition and whatever the other outputs hold
abbrev pub AddsPayload : ℕ → Bytes → Bool → Extraction → Bytes → ExtractionResult → Bytes → Type 0
AddsPayload i w pcr_seen e out r out' =
    (edition : Edition) (lens times : List ℕ)
    → PayloadRefines edition false i w pcr_seen e (outputs_of out lens times) r (outputs_of out' lens times)

-- a payload that starts a PES, where no place lies beyond the outputs
abbrev pub StartsPes : Edition → ℕ → Bytes → Bool → Extraction → Outputs → ExtractionResult → Outputs → Type 0
StartsPes edition i w pcr_seen e now r after =
    PayloadRefines edition true i w pcr_seen e now r after × UnitsRefused now r after
