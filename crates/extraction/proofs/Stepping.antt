-- One packet: what the calls of the code say of its header, its counter, its section and its payload, put together. Assumes nothing.
use Rattle.ticks.specs.declared.Ticks27.{Ticks27}
use Rattle.std.specs.Prelude.{Result, Ok, Err, Option, Some, None, is_some}
use Prim.Native.Nat.{ℕ, ◌+◌, ◌*◌, ◌/◌, ◌≤◌, ◌<◌}
use mathlib.Core.Bool.{Bool, true, false, not, ◌&&◌}
use mathlib.Core.Path.{◌≡◌, refl, sym, ap, ap₂, subst, ◌∙◌}
use mathlib.Core.List.{List}
use native.Mathlib.Omega.{arith}
use borrow.Author.Tests.{le-ltb}
use lib.ListN.{length, replicate}
use Rattle.lists.specs.Lists.{Bytes, pick, zeros}
use Rattle.lists.proofs.Tests.{case, clash}
use Rattle.refusal.specs.Verdict.{Verdict, passed, refused, ◌>>=◌, ◌>>◌, at_place, NoValue}
use Rattle.refusal.specs.Number.{refused_by}
use Rattle.refusal.specs.declared.Refused.{Refused}
use Rattle.refusal.proofs.Verdicts.{never}
use Rattle.descriptor.specs.Edition as rules
use Rattle.descriptor.specs.Naming.{edition_says}
use Rattle.descriptor.specs.declared.edition.Edition.{Edition}
use Rattle.packet.specs.declared.header.Header.{Header}
use Rattle.packet.specs.Header.{packet_length, packet_at, pid, fields, header_of, has_payload, payload}
use Rattle.packet.specs.Header.{payload_unit_start_indicator}
use Rattle.packet.specs.Counter.{StreamRecord, pids_of, checked_in}
use Rattle.packet.specs.Streams.{look_up, streams_of}
use Rattle.packet.proofs.Headers.{passed_fields, has_place}
use Rattle.packet.proofs.Keeping.{fresh_numbers_lem}
use Rattle.segment_rules.specs.State as state
use Rattle.segment_rules.specs.State.{State, kind_of, with_tables, with_records}
use Rattle.segment_rules.specs.Rules.{Rooms, Rule, in_sequence, on_tables, section_read, is_av1, is_pcr, clocked, checked, rules25to28}
use Rattle.segment_rules.specs.Rules.{pes_rules}
use Rattle.segment_rules.specs.Rules.{after24, is_repeat, unless_repeat, packet_rules}
use Rattle.segment_rules.specs.Check.{Outputs, rooms_of}
use Rattle.segment_rules.specs.Lying.{Valid}
use Rattle.segment_rules.proofs.Sequence.{bind_unit, bind_same, up_to_24, not_av1, no_payload, not_repeated, repeated, either_way}
use Rattle.segment_rules.proofs.Lying.{valid_start, few_records, valid_clocked, valid_checked, valid_section}
use Rattle.tables.specs.declared.state.Kind.{Kind}
use Rattle.tables.specs.declared.state.Kind.TheVariants as kinds
use Rattle.tables.specs.declared.state.Packet.{Packet}
use Rattle.tables.specs.declared.tables.Tables.{Tables}
use Rattle.tables.specs.Tables.{TablesResult, CounterResult, Refines, kind_says, slot_in, placed_at, tables_kept, Kept}
use Rattle.tables.specs.Tables.{CounterRefines, SectionRefines}
use Rattle.tables.proofs.Refining.{refines_refused, refused_refines, passed_refines, refines_at, refines_as, refines_also, refines_then}
use Rattle.units.specs.declared.units.Extraction.{Extraction}
use Rattle.units.specs.Extraction.{ExtractionResult, UnitsRepresent, PesRefines}
use Rattle.units.proofs.Holding.{units_start}
use Rattle.extraction.specs.declared.packets.State as code
use Rattle.packet.specs.declared.streams.Streams.{Streams}
use Rattle.extraction.specs.Packets.{StateKept, fresh_state, fresh_streams, Stepped, PacketRefines, no_packet, RefusesOutside}
use Rattle.extraction.specs.Packets.{KeepsBeyond, refused_step, Steps}
use Rattle.extraction.specs.Parts.{Clocks, handed_back, numbers_back}

-- ---- what is kept
-- before the first packet
pub start_kept : (edition : Edition) (segment : Bytes) (before : Outputs)
    → StateKept edition segment before before (fresh_state edition) fresh_streams state.fresh
start_kept edition segment before =
    record {
      follows = refl;
      tables = record { valid = valid_start (edition_says edition) segment; tables = refl; records = sym fresh_numbers_lem };
      extraction = units_start before;
    }

-- of tables in this edition, and of the units
pub kept_in : (edition : Edition) (segment : Bytes) (before now : Outputs) (c : code.State) (streams : Streams) (t : state.Tables)
    (x : state.Extraction) → c.tables ≡ tables_kept edition t → streams ≡ streams_of t.records
    → Valid (edition_says edition) segment t → UnitsRepresent before now c.extraction x
    → StateKept edition segment before now c streams (record { tables = t; extraction = x })
kept_in edition segment before now c streams t x h n v u =
    let e : edition ≡ c.tables.edition = sym (ap (λ (y : Tables). y.edition) h) in
    record {
      follows = sym e;
      tables =
          record {
            valid = subst (λ (y : Edition). Valid (edition_says y) segment t) e v;
            tables = h ∙ ap (λ (y : Edition). tables_kept y t) e;
            records = n;
          };
      extraction = u;
    }

module _ {edition : Edition} {segment : Bytes} {before now : Outputs} {c : code.State} {streams : Streams} {st : State}
    (s : StateKept edition segment before now c streams st) where
  pub pcr_here : st.tables.pcr ≡ c.tables.pcr
  pcr_here = sym (ap (λ (x : Tables). x.pcr) s.tables.tables)

  tables_here : c.tables ≡ tables_kept edition st.tables
  tables_here = s.tables.tables ∙ ap (λ (y : Edition). tables_kept y st.tables) s.follows

  valid_here : Valid (edition_says edition) segment st.tables
  valid_here = subst (λ (y : Edition). Valid (edition_says y) segment st.tables) s.follows s.tables.valid

-- whether a PCR has counted, and whether there is a payload, as the code asks
pub pcr_known : (x : Option Ticks27) → is_pcr x ≡ is_some x
pcr_known None = refl
pcr_known (Some ticks) = refl

pub has_payload_so : (p : Bytes) (h : Header) → h ≡ fields p → has_payload p ≡ is_some h.payload
has_payload_so p h e = has_place p ∙ ap (λ (x : Header). is_some x.payload) (sym e)

-- ---- a packet that passed 24
av1_kind : (k : state.Kind) → is_av1 k ≡ true → k ≡ state.Av1
av1_kind state.Null e = let z : ◌≡◌ {A = ℕ} 0 1 = cc in absurd (omega arith)
av1_kind state.Pat e = let z : ◌≡◌ {A = ℕ} 0 1 = cc in absurd (omega arith)
av1_kind state.Map e = let z : ◌≡◌ {A = ℕ} 0 1 = cc in absurd (omega arith)
av1_kind state.Av1 e = refl
av1_kind state.Listed e = let z : ◌≡◌ {A = ℕ} 0 1 = cc in absurd (omega arith)
av1_kind state.Unlisted e = let z : ◌≡◌ {A = ℕ} 0 1 = cc in absurd (omega arith)

-- a packet of no AV1 kind
pub of_another_kind : (k : Kind) → ((slot : ℕ) → k ≡ kinds.Av1 slot → ⊥) → is_av1 (kind_says k) ≡ false
of_another_kind kinds.Null f = refl
of_another_kind kinds.Pat f = refl
of_another_kind kinds.Map f = refl
of_another_kind (kinds.Av1 slot) f = absurd (f slot refl)
of_another_kind (kinds.Listed slot) f = refl
of_another_kind kinds.Unlisted f = refl

module _ (edition : rules.Edition) (rooms : Rooms) (i : ℕ) (p : Bytes) where
  -- one of the AV1 PID has no section
  no_section : (b : Bool) (st : State)
      → (pick b (at_place i (section_read edition state.Av1 i (payload_unit_start_indicator p) (payload p) st.tables)) (passed st.tables)
      >>= λ t. passed (with_tables t st))
      ≡ passed st
  unfolding section_read pick at_place ◌>>=◌
  no_section true st = refl
  no_section false st = refl

  content_av1 : (st : State) → in_sequence (after24 edition rooms i p state.Av1) st ≡ in_sequence (pes_rules edition rooms i p state.Av1) st
  unfolding in_sequence rules25to28 on_tables ◌>>=◌
  content_av1 st = ap (λ (v : Verdict State). v >>= in_sequence (pes_rules edition rooms i p state.Av1)) (no_section (has_payload p) st)

  -- one of another PID has a section at most
  content_section : (k : state.Kind) (st : State) → is_av1 k ≡ false → has_payload p ≡ true → in_sequence (after24 edition rooms i p k) st
      ≡ (at_place i (section_read edition k i (payload_unit_start_indicator p) (payload p) st.tables) >>= λ t. passed (with_tables t st))
  unfolding in_sequence rules25to28 on_tables pick
  content_section k st e h =
      bind_same (rules25to28 i p k edition st) (in_sequence (pes_rules edition rooms i p k)) passed
      (λ st1. not_av1 edition rooms i p st1 k e)
      ∙ bind_unit (rules25to28 i p k edition st) ∙ rw h

  -- without payload there is nothing
  content_none : (k : state.Kind) (st : State) → has_payload p ≡ false → in_sequence (after24 edition rooms i p k) st ≡ passed st
  unfolding in_sequence rules25to28 on_tables pick ◌>>=◌
  content_none k st h =
      rw h (case (is_av1 k) (λ e. rw (av1_kind k e) (no_payload edition rooms i p st h)) (λ e. not_av1 edition rooms i p st k e))

  -- a packet that passed 21, 22 and 23: its PCR and its counter, then what it carries
  pub two_parts : (k : state.Kind) (st : State) (h : Header) → header_of p ≡ passed h → packet_rules edition rooms i p k st
      ≡ (on_tables (λ t. checked i p (clocked i p t)) st >>= unless_repeat p (in_sequence (after24 edition rooms i p k)))
  unfolding packet_rules ◌>>◌ at_place
  two_parts k st h e = ap (λ (v : Verdict State). v >>= unless_repeat p (in_sequence (after24 edition rooms i p k)))
      (up_to_24 i p st ∙ rw e)

module _ {edition : Edition} {segment : Bytes} {before now : Outputs} {c : code.State} {streams : Streams} {st : State}
    (s : StateKept edition segment before now c streams st)
    (i : ℕ) (p : Bytes) (h : has_payload p ≡ true) (k : Kind) where
  abbrev content : Verdict State
  content = in_sequence (after24 (edition_says edition) (rooms_of before) i p (kind_says k)) st

  -- an AV1 payload
  pub content_taken : (r : ExtractionResult) (after : Outputs) → is_av1 (kind_says k) ≡ true
      → PesRefines before (pes_rules (edition_says edition) (rooms_of before) i p state.Av1) st r after
      → Refines r.outcome content
      (StateKept edition segment before after (record { tables = c.tables; extraction = r.extraction }) streams)
  content_taken r after a t =
      let next : code.State = record { tables = c.tables; extraction = r.extraction } in
      let pes = in_sequence (pes_rules (edition_says edition) (rooms_of before) i p state.Av1) st in
      refines_as pes (StateKept edition segment before after next streams) content r.outcome
      (sym (content_av1 (edition_says edition) (rooms_of before) i p st)
      ∙ ap (λ (x : state.Kind). in_sequence (after24 (edition_says edition) (rooms_of before) i p x) st) (sym (av1_kind (kind_says k) a)))
      (refines_also pes (λ st'. (st'.tables ≡ st.tables) × UnitsRepresent before after r.extraction st'.extraction)
      (StateKept edition segment before after next streams) r.outcome t
      (λ st' _ u. record {
        follows = s.follows;
        tables = subst (Kept segment c.tables streams) (sym u.0) s.tables;
        extraction = u.1;
      }))

  -- a section
  pub content_read : (r : TablesResult) (streams' : Streams) (b : Bool) (w : Bytes) (o : Result NoValue Refused)
      → is_av1 (kind_says k) ≡ false
      → p ≡ packet_at segment i → b ≡ payload_unit_start_indicator p → w ≡ payload p → o ≡ placed_at i r.outcome
      → SectionRefines segment i w b k c.tables streams r streams'
      → Refines o content (StateKept edition segment before now (record { tables = r.tables; extraction = c.extraction }) streams')
  content_read r streams' b w o a at f g m t =
      let next : code.State = record { tables = r.tables; extraction = c.extraction } in
      let read = section_read (edition_says edition) (kind_says k) i (payload_unit_start_indicator p) (payload p) st.tables in
      let Keeps : state.Tables → Type 0 = λ t'. (r.tables ≡ tables_kept edition t') × (streams' ≡ streams_of t'.records) in
      let same = ap₂ (λ (x : Bool) (y : Bytes). section_read (edition_says edition) (kind_says k) i x y st.tables) f g in
      let turn : Refines r.outcome read Keeps =
      refines_as _ Keeps read r.outcome same
      (subst (λ (y : Edition). Refines r.outcome (section_read (edition_says y) (kind_says k) i b w st.tables)
      (λ t'. (r.tables ≡ tables_kept y t') × (streams' ≡ streams_of t'.records))) s.follows
      (t st.tables (g ∙ ap payload at) s.tables)) in
      subst (λ (x : Result NoValue Refused). Refines x content (StateKept edition segment before now next streams')) (sym m)
      (refines_as _ (StateKept edition segment before now next streams') content (placed_at i r.outcome)
      (sym (content_section (edition_says edition) (rooms_of before) i p (kind_says k) st a h))
      (refines_then (at_place i read) (λ t'. (read ≡ passed t') × Keeps t') (StateKept edition segment before now next streams')
      (λ u. with_tables u st) (placed_at i r.outcome)
      (refines_at read (λ t'. (read ≡ passed t') × Keeps t') i r.outcome
      (refines_also read Keeps (λ t'. (read ≡ passed t') × Keeps t') r.outcome turn (λ u e v. (e, v))))
      (λ u _ v.
      kept_in edition segment before now next streams' u st.extraction v.1.0 v.1.1
      (valid_section (edition_says edition) segment i p (kind_says k) (payload_unit_start_indicator p) st.tables u at v.0 (valid_here s))
      s.extraction)))

-- ---- a packet that passed 21, 22 and 23
-- its PCR and its counter: afterwards the code's state with its PCR and the streams are kept of what the rules then say, and the code knows
-- whether it is a repeat
module _ {edition : Edition} {segment : Bytes} {before now : Outputs} {c : code.State} {streams : Streams} {st : State}
    (s : StateKept edition segment before now c streams st) where
  pub counted : (k : Packet) (p : Bytes) (next : code.State) (r : CounterResult) (streams' : Streams) → p ≡ packet_at segment k.index
      → k.header ≡ fields p → look_up k.header.pid (pids_of st.tables.records) ≡ slot_in k.kind → Clocks c k.header next
      → CounterRefines segment k streams r streams'
      → Refines r.outcome (checked k.index p (clocked k.index p st.tables))
      (λ t. StateKept edition segment before now next streams' (with_tables t st) × (r.repeat ≡ is_repeat p (with_tables t st)))
  unfolding checked ◌>>=◌
  counted k p next r streams' at e there went count =
      let i = k.index in
      let t = clocked i p st.tables in
      let v : Valid (edition_says edition) segment t = valid_clocked (edition_says edition) segment i p st.tables (valid_here s) in
      let records = st.tables.records in
      let tried = at_place i (checked_in i records p) in
      let Counts : List StreamRecord → Type 0 = λ after. (streams' ≡ streams_of after)
      × (r.repeat ≡ is_repeat p (with_tables (with_records after t) st)) in
      let clock : next.tables ≡ tables_kept edition t =
      ap (λ (x : code.State). x.tables) went.0
      ∙ ap₂ (λ (x : Tables) (y : Option Ticks27). record { edition = x.edition; pat = x.pat; pmt = x.pmt; pcr = y }) (tables_here s)
      (went.1 st.tables p s.tables.tables e) in
      refines_then tried Counts
      (λ t'. StateKept edition segment before now next streams' (with_tables t' st) × (r.repeat ≡ is_repeat p (with_tables t' st)))
      (λ after. with_records after t) r.outcome
      (count p records at e (ap (λ (x : Header). look_up x.pid (pids_of records)) (sym e) ∙ there) v.records
      (few_records (edition_says edition) segment t v) s.tables.records)
      (λ after f u. (
        kept_in edition segment before now next streams' (with_records after t) st.extraction clock u.0
            (valid_checked (edition_says edition) segment i p t (with_records after t) at
            (ap (λ (x : Verdict (List StreamRecord)). x >>= λ y. passed (with_records y t)) f) v)
            (subst (λ (x : Extraction). UnitsRepresent before now x st.extraction)
            (sym (ap (λ (x : code.State). x.extraction) went.0)) s.extraction),
        u.1,
      ))

-- a packet whose content is taken has payload and is no repeat
pub taken_both : (carries repeat : Bool) → (carries && not repeat) ≡ true → (carries ≡ true) × (repeat ≡ false)
taken_both true true e = clash e refl
taken_both true false e = (refl, refl)
taken_both false repeat e = clash e refl

module _ (edition : rules.Edition) (rooms : Rooms) (i : ℕ) (p : Bytes) (k : state.Kind) (st : State) (h : Header)
    (right : header_of p ≡ passed h) (o : Result NoValue Refused) (repeat : Bool) (Stands : State → Type 0)
    (counts : Refines o (checked i p (clocked i p st.tables))
    (λ t. Stands (with_tables t st) × (repeat ≡ is_repeat p (with_tables t st)))) where
  abbrev Count : state.Tables → Type 0
  Count t = Stands (with_tables t st) × (repeat ≡ is_repeat p (with_tables t st))

  abbrev whole : Verdict State
  whole = packet_rules edition rooms i p k st

  -- what follows 24, but for a repeat
  abbrev carries : Rule
  carries = in_sequence (after24 edition rooms i p k)

  counted_then : (v : Verdict state.Tables) → checked i p (clocked i p st.tables) ≡ v
      → whole ≡ ((v >>= λ t. passed (with_tables t st)) >>= unless_repeat p carries)
  unfolding on_tables
  counted_then v f =
      two_parts edition rooms i p k st h right
      ∙ ap (λ (x : Verdict state.Tables). (x >>= λ t. passed (with_tables t st)) >>= unless_repeat p carries) f

  -- 24
  pub counter_wrong : (q : Refused) → o ≡ Err q → Refines o whole Stands
  unfolding ◌>>=◌
  counter_wrong q f = refines_refused whole Stands o q f (sym (counted_then (refused_by q) (refused_refines _ Count o q f counts)))

  module _ (f : o ≡ (Ok tt)) where
    pub after_24 : (t : state.Tables) × (checked i p (clocked i p st.tables) ≡ passed t) × Count t
    after_24 = passed_refines _ Count o f counts

    abbrev next : State
    next = with_tables after_24.0 st

    pub next_stands : Stands next
    next_stands = after_24.2.0

    goes : whole ≡ unless_repeat p carries next
    unfolding ◌>>=◌
    goes = counted_then (passed after_24.0) after_24.1

    -- without payload there is nothing more
    no_content : has_payload p ≡ false → Refines o whole Stands
    no_content b =
        subst (λ (x : Result NoValue Refused). Refines x whole Stands) (sym f)
        (next, goes ∙ either_way p carries next (content_none edition rooms i p k next b), next_stands)

    -- nor is there for a repeat
    no_more : repeat ≡ true → Refines o whole Stands
    no_more b =
        subst (λ (x : Result NoValue Refused). Refines x whole Stands) (sym f)
        (next, goes ∙ repeated p carries next (sym after_24.2.1 ∙ b), next_stands)

    -- what it carries
    pub with_content : repeat ≡ false → (x : Result NoValue Refused) (S : State → Type 0) → Refines x (carries next) S → Refines x whole S
    with_content b x S t = refines_as _ S whole x (sym (goes ∙ not_repeated p carries next (sym after_24.2.1 ∙ b))) t

  -- what it carries is not taken
  pub passed_over : o ≡ (Ok tt) → (has_payload p && not repeat) ≡ false → Refines o whole Stands
  passed_over f e =
      case repeat (no_more f)
      (λ u. case (has_payload p) (λ t. clash (ap₂ (λ (a b : Bool). a && not b) t u) e) (no_content f))

-- ---- a packet
-- the code's test of the index: the segment has it
pub packet_there : (size i : ℕ) → i < size / packet_length → no_packet size i ≡ false
packet_there size i h = le-ltb size (i * packet_length + packet_length) (omega (arith, h))

module _ (segment : Bytes) (i : ℕ) where
  abbrev read_there : Verdict Header
  read_there = at_place i (header_of (packet_at segment i))

  -- 21, 22 or 23
  pub header_refused : (edition : rules.Edition) (rooms : Rooms) (st : State) (k : state.Kind) (q : Refused) → refused_by q ≡ read_there
      → packet_rules edition rooms i (packet_at segment i) k st ≡ refused_by q
  unfolding packet_rules ◌>>◌ ◌>>=◌
  header_refused edition rooms st k q e =
      let p = packet_at segment i in
      ap (λ (v : Verdict State). v >>= unless_repeat p (in_sequence (after24 edition rooms i p k)))
      (up_to_24 i p st ∙ ap (λ (v : Verdict Header). v >> on_tables (λ t. checked i p (clocked i p t)) st) (sym e))

  -- it passed them
  pub header_right : (h : Header) → passed h ≡ read_there → header_of (packet_at segment i) ≡ passed h
  unfolding at_place
  header_right h = go (header_of (packet_at segment i))
    where
      go : (v : Verdict Header) → passed h ≡ at_place i v → v ≡ passed h
      go (passed x) e = sym e
      go (refused number place) e = never (sym e)

-- of the kind that its PID is
module _ (edition : rules.Edition) (rooms : Rooms) (p : Bytes) (i : ℕ) (st : State) (h : Header) (k : Kind) (right : header_of p ≡ passed h)
    (e : kind_says k ≡ kind_of st.tables h.pid) where
  pub same_kind : kind_says k ≡ kind_of st.tables (pid p)
  same_kind = e ∙ ap (λ (x : Header). kind_of st.tables x.pid) (passed_fields p h right)

  same_rules : packet_rules edition rooms i p (kind_says k) st ≡ packet_rules edition rooms i p (kind_of st.tables (pid p)) st
  same_rules = ap (λ (x : state.Kind). packet_rules edition rooms i p x st) same_kind

  pub packet_refused : (q : Refused) → packet_rules edition rooms i p (kind_says k) st ≡ refused_by q
      → packet_rules edition rooms i p (kind_of st.tables (pid p)) st ≡ refused_by q
  packet_refused q t = sym same_rules ∙ t

  pub packet_passed : (S : State → Type 0) → Refines (Ok tt) (packet_rules edition rooms i p (kind_says k) st) S
      → Refines (Ok tt) (packet_rules edition rooms i p (kind_of st.tables (pid p)) st)
      (λ st'. S st' × (kind_says k ≡ kind_of st.tables (pid p)))
  packet_passed S t = (t.0, sym same_rules ∙ t.1, (t.2, same_kind))

-- ---- what is handed back
-- it is what is kept of a state, and the kind is this one
abbrev Stands : Edition → Bytes → Outputs → Outputs → state.Kind → Stepped → Streams → State → Type 0
Stands edition segment before after k x streams st =
    StateKept edition segment before after x.state streams st × (kind_says x.kind ≡ k)

module _ (r : Stepped) (edition : Edition) (s : Stepped) (back : r ≡ handed_back edition s.outcome s) where
  -- the verdict is the same
  pub back_outcome : r.outcome ≡ s.outcome
  back_outcome = ap (λ (x : Stepped). x.outcome) back ∙ either s.outcome refl
    where
      either : (o : Result NoValue Refused) → s.outcome ≡ o → (handed_back edition o s).outcome ≡ s.outcome
      either (Ok tt) k = refl
      either (Err q) k = sym k

  -- where it passes, all is the same
  pub back_passed : r.outcome ≡ (Ok tt) → r ≡ s
  back_passed p = back ∙ ap (λ (o : Result NoValue Refused). handed_back edition o s) (sym back_outcome ∙ p)

  -- what it is a step of
  pub back_refines : (streams streams' : Streams) → streams' ≡ numbers_back s.outcome streams → (segment : Bytes) (before after : Outputs)
      (k : state.Kind) (v : Verdict State) → Refines s.outcome v (Stands edition segment before after k s streams)
      → Refines r.outcome v (Stands edition segment before after k r streams')
  back_refines streams streams' kept segment before after k v t = either s.outcome refl
    where
      either : (o : Result NoValue Refused) → s.outcome ≡ o → Refines r.outcome v (Stands edition segment before after k r streams')
      either (Ok tt) e =
          subst (λ (y : Streams). Refines r.outcome v (Stands edition segment before after k r y))
          (sym (kept ∙ ap (λ (o : Result NoValue Refused). numbers_back o streams) e))
          (subst (λ (x : Stepped). Refines x.outcome v (Stands edition segment before after k x streams))
          (sym (back_passed (back_outcome ∙ e))) t)
      either (Err q) e =
          refines_refused v (Stands edition segment before after k r streams') r.outcome q (back_outcome ∙ e)
          (sym (refused_refines v (Stands edition segment before after k s streams) s.outcome q e t))

  -- where it refuses, what there was before the first packet
  pub back_refused : (q : Refused) → r.outcome ≡ Err q → r ≡ refused_step edition q
  back_refused q k = back ∙ ap (λ (o : Result NoValue Refused). handed_back edition o s) (sym back_outcome ∙ k)

-- by the outcome of the packet
pub fresh_back : (edition : Edition) (s : Stepped) (q : Refused) → s.outcome ≡ Err q → (c : code.State)
    → c ≡ fresh_state edition
    → record { state = c; kind = kinds.Unlisted; outcome = s.outcome } ≡ handed_back edition s.outcome s
fresh_back edition s q k c fresh =
    ap₂ (λ (x : code.State) (o : Result NoValue Refused). record { state = x; kind = kinds.Unlisted; outcome = o }) fresh k
    ∙ sym (ap (λ (o : Result NoValue Refused). handed_back edition o s) k)

pub zeros_back : (o : Result NoValue Refused) (q : Refused) → o ≡ Err q → (streams streams' : Streams) → length streams.numbers ≡ 42
    → streams'.numbers ≡ zeros streams.numbers → streams' ≡ numbers_back o streams
zeros_back o q k streams streams' long z =
    ap (λ (l : List ℕ). record { numbers = l }) (z ∙ ap (λ (n : ℕ). replicate n 0) long)
    ∙ sym (ap (λ (x : Result NoValue Refused). numbers_back x streams) k)

-- what `step` promises, by what was left before it was handed back
pub steps_back : (edition : Edition) (segment : Bytes) (i : ℕ) (c : code.State) (streams : Streams) (now after : Outputs) (s : Stepped)
    (left : Streams) → (i * packet_length + packet_length ≤ length segment → PacketRefines edition segment i c streams now s left after)
    → RefusesOutside segment i s → KeepsBeyond c.extraction now s after → ((q : Refused) → s.outcome ≡ Err q → after ≡ now)
    → (r : Stepped) → r ≡ handed_back edition s.outcome s → (streams' : Streams) → streams' ≡ numbers_back s.outcome left
    → Steps edition segment i c streams now r streams' after
steps_back edition segment i c streams now after s left rules outside beyond unwritten r back streams' kept =
    let same : r.outcome ≡ s.outcome = back_outcome r edition s back in
    record {
      rules = λ there before st t. back_refines r edition s back left streams' kept segment before after _ _ (rules there before st t);
      outside = λ n. same ∙ outside n;
      beyond =
          λ n p.
          let e = beyond n (sym same ∙ p) in
          (ap (λ (x : Stepped). x.state.extraction) (back_passed r edition s back p) ∙ e.0, e.1);
      refused =
          λ q p. (
            back_refused r edition s back q p,
            (kept ∙ ap (λ (o : Result NoValue Refused). numbers_back o left) (sym same ∙ p), unwritten q (sym same ∙ p)),
          );
    }
