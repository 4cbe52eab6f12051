-- What one packet that passed 21, 22 and 23 does to the state, by what its PID is at that moment. Assumes nothing.
use Rattle.ticks.specs.declared.Ticks27.{Ticks27}
use Rattle.std.specs.Prelude.{Option, Some, None}
use Prim.Native.Nat.{ℕ}
use mathlib.Core.Bool.{Bool, true, false}
use mathlib.Core.Path.{◌≡◌, refl, ap, ◌∙◌}
use borrow.Author.Tests.{eq-eqb}
use lib.Dec.{eqb}
use Rattle.lists.specs.Lists.{Bytes, pick}
use Rattle.refusal.specs.Verdict.{Verdict, passed, ◌>>=◌, ◌>>◌, at_place}
use Rattle.descriptor.specs.Edition.{Edition}
use Rattle.packet.specs.declared.header.Header.{Header}
use Rattle.packet.specs.Header.{header_of, pid, null_pid, pcr, has_payload, payload, payload_unit_start_indicator}
use Rattle.packet.specs.Counter.{record_of}
use Rattle.packet.proofs.Counters.{unrecorded}
use Rattle.segment_rules.specs.State.{FirstPmt, Tables, State, Kind, Null, Pat, Map, Av1, Listed, Unlisted, with_tables, with_pcr}
use Rattle.segment_rules.specs.Rules.{Rooms, in_sequence, on_tables, counting_pcr, last_pcr, section_read, is_av1}
use Rattle.segment_rules.specs.Rules.{clocked, checked, rules25to28, pes_rules, after24, unless_repeat, packet_rules}
use Rattle.segment_rules.proofs.Sequence.{up_to_24, not_av1, no_payload, bind_unit, bind_same, either_way, rest_same}

-- the packet's PCR and its counter
abbrev pub counted : ℕ → Bytes → State → Verdict State
counted i p st = on_tables (λ t. checked i p (clocked i p t)) st

module _ (edition : Edition) (rooms : Rooms) (i : ℕ) (p : Bytes) (st : State) (h : Header) (passes : header_of p ≡ passed h) where
  -- first these, then what the PID asks for
  two_parts : (kind : Kind) → packet_rules edition rooms i p kind st
      ≡ (counted i p st >>= unless_repeat p (in_sequence (after24 edition rooms i p kind)))
  unfolding packet_rules ◌>>◌ at_place
  two_parts kind =
      ap (λ (v : Verdict State). v >>= unless_repeat p (in_sequence (after24 edition rooms i p kind))) (up_to_24 i p st ∙ rw passes)

  -- a packet that is not of the AV1 PID has a section at most
  without_av1 : (kind : Kind) → is_av1 kind ≡ false
      → packet_rules edition rooms i p kind st ≡ (counted i p st >>= unless_repeat p (rules25to28 i p kind edition))
  unfolding in_sequence
  without_av1 kind e =
      two_parts kind
      ∙ bind_same (counted i p st) _ _
      (λ st1. rest_same p _ _ st1
      (bind_same (rules25to28 i p kind edition st1) _ passed (λ st2. not_av1 edition rooms i p st2 kind e) ∙ bind_unit _))

  -- one on neither PID 0 nor the map PID has none
  no_section : (kind : Kind) → ((b : Bool) (w : Bytes) (t : Tables) → section_read edition kind i b w t ≡ passed t) → (st1 : State)
      → rules25to28 i p kind edition st1 ≡ passed st1
  unfolding rules25to28 on_tables ◌>>=◌ pick at_place
  no_section kind silent st1 = go (has_payload p)
    where
      go : (b : Bool) → (pick b (at_place i (section_read edition kind i (payload_unit_start_indicator p) (payload p) st1.tables))
          (passed st1.tables) >>= λ t. passed (with_tables t st1))
          ≡ passed st1
      go true = rw (silent (payload_unit_start_indicator p) (payload p) st1.tables)
      go false = refl

  counter_alone : (kind : Kind) → is_av1 kind ≡ false → ((b : Bool) (w : Bytes) (t : Tables) → section_read edition kind i b w t ≡ passed t)
      → packet_rules edition rooms i p kind st ≡ counted i p st
  counter_alone kind e silent =
      without_av1 kind e
      ∙ bind_same (counted i p st) _ passed (λ st1. either_way p _ st1 (no_section kind silent st1))
      ∙ bind_unit (counted i p st)

  -- ---- null packets, unlisted and other listed PIDs
  -- a packet of a PID that has no record: its PCR may count
  uncounted : record_of (pid p) st.tables.records ≡ None → counted i p st ≡ passed (with_tables (clocked i p st.tables) st)
  unfolding on_tables checked at_place ◌>>=◌
  uncounted e = rw (unrecorded i p st.tables.records e)

  -- another listed packet: its PCR and its counter
  pub other_listed : packet_rules edition rooms i p Listed st ≡ counted i p st
  unfolding section_read
  other_listed = counter_alone Listed refl (λ _ _ _. refl)

  -- an unlisted packet has no record; it may bring a PCR, where its PID is the PCR PID, and changes nothing else
  pub unlisted : record_of (pid p) st.tables.records ≡ None
      → packet_rules edition rooms i p Unlisted st ≡ passed (with_tables (clocked i p st.tables) st)
  unfolding section_read
  unlisted e = counter_alone Unlisted refl (λ _ _ _. refl) ∙ uncounted e

  -- a null packet leaves the state as it is: "PID 0x1FFF has none"
  pub null_packet : pid p ≡ null_pid → record_of null_pid st.tables.records ≡ None → packet_rules edition rooms i p Null st ≡ passed st
  unfolding section_read pcr counting_pcr pick
  null_packet n e =
      counter_alone Null refl (λ _ _ _. refl)
      ∙ uncounted (ap (λ (m : ℕ). record_of m st.tables.records) n ∙ e)
      ∙ ap (λ (c : Option Ticks27). passed (with_tables (with_pcr c st.tables) st)) (ap (last_pcr st.tables.pcr) (no_clock st.tables.pmt))
    where
      none_here : pcr p ≡ None
      none_here = rw (eq-eqb (pid p) null_pid n)

      either : (b : Bool) → ◌≡◌ {A = Option Ticks27} (pick b None None) None
      either true = refl
      either false = refl

      no_clock : (pmt : Option FirstPmt) → counting_pcr pmt p ≡ None
      no_clock None = refl
      no_clock (Some pmt) = ap (λ (c : Option Ticks27). pick (eqb (pid p) pmt.says.pcr_pid) c None) none_here
          ∙ either (eqb (pid p) pmt.says.pcr_pid)

  -- ---- PID 0 and the map PID
  -- with payload: its PCR, its counter, and its section where it is no repeat
  abbrev section_of : Kind → Verdict State
  section_of kind =
      counted i p st
      >>= unless_repeat p (on_tables (λ t. at_place i (section_read edition kind i (payload_unit_start_indicator p) (payload p) t)))

  module _ (carries : has_payload p ≡ true) where
    pub pat_packet : packet_rules edition rooms i p Pat st ≡ section_of Pat
    unfolding rules25to28 pick
    pat_packet = without_av1 Pat refl ∙ bind_same (counted i p st) _ _ (λ st1. rest_same p _ _ st1 (rw carries))

    pub map_packet : packet_rules edition rooms i p Map st ≡ section_of Map
    unfolding rules25to28 pick
    map_packet = without_av1 Map refl ∙ bind_same (counted i p st) _ _ (λ st1. rest_same p _ _ st1 (rw carries))

  -- without: its PCR and its counter
  module _ (empty : has_payload p ≡ false) where
    emptied : (kind : Kind) → is_av1 kind ≡ false → packet_rules edition rooms i p kind st ≡ counted i p st
    unfolding rules25to28 on_tables pick ◌>>=◌
    emptied kind e =
        without_av1 kind e ∙ bind_same (counted i p st) _ passed (λ st1. either_way p _ st1 (rw empty)) ∙ bind_unit (counted i p st)

    pub pat_empty : packet_rules edition rooms i p Pat st ≡ counted i p st
    pat_empty = emptied Pat refl

    pub map_empty : packet_rules edition rooms i p Map st ≡ counted i p st
    map_empty = emptied Map refl

  -- ---- the AV1 PID: its PCR and its counter, then, where it is no repeat, the rules of a PES (`starts`, `opens` and `adds` of
  -- Sequence.antt say what these are)
  pub av1_packet : packet_rules edition rooms i p Av1 st ≡ (counted i p st >>= unless_repeat p
      (in_sequence (pes_rules edition rooms i p Av1)))
  unfolding in_sequence section_read ◌>>=◌
  av1_packet = two_parts Av1
      ∙ bind_same (counted i p st) _ _
      (λ st1. rest_same p _ _ st1
      (ap (λ (v : Verdict State). v >>= in_sequence (pes_rules edition rooms i p Av1)) (no_section Av1 (λ _ _ _. refl) st1)))

  -- without payload: its PCR and its counter alone
  pub av1_empty : has_payload p ≡ false → packet_rules edition rooms i p Av1 st ≡ counted i p st
  av1_empty e =
      av1_packet
      ∙ bind_same (counted i p st) _ passed (λ st1. either_way p _ st1 (no_payload edition rooms i p st1 e))
      ∙ bind_unit (counted i p st)
