-- Packets that go on, by their rules. On the AV1 PID each passes, and its payload stands behind what is there (`one_goes`); on another
-- listed PID each passes by its counter alone (`one_counts`); and so each of a run of them (`goes`, `counts`). Assumes nothing.
use Rattle.std.specs.Prelude.{Option, Some}
use Prim.Native.Nat.{ℕ, zero, suc, ◌+◌, ◌-◌, ◌*◌, ◌/◌, ◌%◌, ◌≤◌, ◌<◌}
use mathlib.Core.Bool.{true, false}
use mathlib.Core.Path.{◌≡◌, refl, sym, ap, ap₂, subst, ◌∙◌}
use mathlib.Core.List.{List, [], ◌∷◌, ◌++◌, flatten}
use native.Mathlib.Omega.{arith}
use native.Mathlib.Numerals.{add-one}
use borrow.Author.Tests.{ltb-true, ltb-false}
use lib.Dec.{ltb}
use lib.ListN.{length, drop, length-append, length-drop, take-append-drop}
use Rattle.lists.specs.Lists.{Bytes, pick, placed}
use borrow.Rule.Slice.PartMut.{mid_of}
use Rattle.lists.proofs.Parts.{tail_lent}
use Rattle.lists.proofs.Placed.{placed_long, placed_twice}
use Rattle.lists.proofs.Tests.{case}
use Rattle.refusal.specs.Verdict.{Verdict, passed, ◌>>=◌}
use Rattle.descriptor.specs.Naming.{edition_says}
use Rattle.descriptor.specs.declared.edition.Edition.{Edition}
use Rattle.packet.specs.Header.{packet_length, packets, packet_at, pid, fields, payload}
use Rattle.packet.specs.declared.streams.Streams.{Streams}
use Rattle.packet.specs.Counter.{seen}
use Rattle.packet.specs.Streams.{with_last}
use Rattle.plain.specs.Runs.{next_counter, counts_on, counting_on, goes_on, payload_length, going_on, payloads}
use Rattle.plain.proofs.Places.{next_packet, no_packet, packet_length_lem}
use Rattle.plain.proofs.Plains.{plain_passes, of_pid, with_payload, payload_behind, no_start, counts_too}
use Rattle.plain.proofs.Following.{counting_none, counting_next, counting_stop, counting_bounded}
use Rattle.plain.proofs.Following.{going_none, going_next, going_full, going_stop, going_bounded}
use Rattle.segment_rules.specs.State as state
use Rattle.segment_rules.specs.State.{kind_of}
use Rattle.segment_rules.specs.Rules.{in_sequence, is_pcr, pes_rules, unless_repeat, unit_of, packet_rules}
use Rattle.segment_rules.specs.Check.{Outputs, outputs_of, rooms_of}
use Rattle.segment_rules.proofs.Sequence.{not_repeated}
use Rattle.segment_rules.proofs.Running.{length_packets}
use Rattle.segment_rules.proofs.ByKind.{av1_packet, other_listed}
use Rattle.segment_rules.proofs.Growing.{Grows, same_units, one_more, packet_grows}
use Rattle.tables.specs.declared.state.Kind.{Kind}
use Rattle.tables.specs.declared.state.Kind.TheVariants as kinds
use Rattle.tables.specs.declared.tables.Tables.{Tables}
use Rattle.tables.specs.Tables.{slot_in, Kept}
use Rattle.units.specs.declared.state.PesFound.{PesFound}
use Rattle.units.specs.declared.units.Extraction.{Extraction}
use Rattle.units.specs.Extraction.{UnitsRepresent, PayloadOf}
use Rattle.units.proofs.Extracting.{adds_right}
use Rattle.extraction.specs.declared.packets.State.{State}
use Rattle.extraction.specs.Packets.{StateKept}
use Rattle.segment_run.specs.Parts.{Follows, MayGoOn, last_went, Pass, GoesOn}
use Rattle.segment_run.proofs.Counting.{Due, due_kept, last_twice, next_due, state_after, counted_so, not_repeating, kept_so}

-- ---- so many packets, one by one
-- the last of one and of those behind it
went_one : (streams : Streams) (slot counter k m : ℕ)
    → last_went (with_last streams slot (seen (next_counter counter) k false)) slot (next_counter counter) (k + 1) m
    ≡ last_went streams slot counter k (suc m)
went_one streams slot counter k zero =
    let z : k ≡ k + 0 = omega arith in
    let y : (counter + 1) % 16 ≡ (counter + suc 0) % 16 = omega arith in
    ap₂ (λ (x w : ℕ). with_last streams slot (seen x w false)) y z
went_one streams slot counter k (suc m) =
    let z : k + 1 + m ≡ k + suc m = omega arith in
    let y : ((counter + 1) % 16 + suc m) % 16 ≡ (counter + suc (suc m)) % 16 = omega arith in
    last_twice streams slot (seen (next_counter counter) k false)
    (seen (((counter + 1) % 16 + suc m) % 16) (k + 1 + m) false)
    ∙ ap₂ (λ (x w : ℕ). with_last streams slot (seen x w false)) y z

module _ (edition : Edition) (segment : Bytes) (before : Outputs) (kind : state.Kind) (slot : ℕ) where
  -- m packets from index k on pass, which leave this state and these outputs
  pub record Gone (m k : ℕ) (streams : Streams) (counter : ℕ) (st : state.State) (c : State) (after : Outputs) : Type 0 where
    pub reached : state.State
    pub passes : Pass (edition_says edition) segment (rooms_of before) kind m k st reached
    pub kept : StateKept edition segment before after c (last_went streams slot counter k m) reached

  module _ (k : ℕ) (streams : Streams) (counter : ℕ) (st : state.State) (c : State) (after : Outputs) where
    none_gone : StateKept edition segment before after c streams st → Gone 0 k streams counter st c after
    none_gone s = record { reached = st; passes = refl; kept = s }

    one_gone : (m : ℕ) (next : state.State) → kind_of st.tables (pid (packet_at segment k)) ≡ kind
        → packet_rules (edition_says edition) (rooms_of before) k (packet_at segment k) kind st ≡ passed next
        → next.extraction.units ≡ st.extraction.units
        → Gone m (k + 1) (with_last streams slot (seen (next_counter counter) k false)) (next_counter counter) next c after
        → Gone (suc m) k streams counter st c after
    one_gone m next is rule same rest =
        record {
          reached = rest.reached;
          passes = (next, is, rule, same, rest.passes);
          kept =
              subst (λ (l : Streams). StateKept edition segment before after c l rest.reached) (went_one streams slot counter k m)
              rest.kept;
        }

-- ---- a packet of another listed PID
module _ (edition : Edition) (segment : Bytes) (before now : Outputs) (c : State) (n slot : ℕ) where
  module _ (streams : Streams) (st : state.State) (s : StateKept edition segment before now c streams st) (counter : ℕ)
      (d : Due st.tables.records n slot counter) (k : ℕ) (g : counts_on n counter (packet_at segment k) ≡ true) where
    abbrev reached_by : state.State
    reached_by = state_after segment c.tables streams st s.tables n slot counter d k g

    one_counts : packet_rules (edition_says edition) (rooms_of before) k (packet_at segment k) state.Listed st ≡ passed reached_by
    one_counts =
        other_listed (edition_says edition) (rooms_of before) k (packet_at segment k) st (fields (packet_at segment k))
        (plain_passes n counter (packet_at segment k) g)
        ∙ counted_so segment c.tables streams st s.tables n slot counter d k g

    counts_kept : StateKept edition segment before now c (with_last streams slot (seen (next_counter counter) k false)) reached_by
    counts_kept =
        record {
          follows = s.follows;
          tables = kept_so segment c.tables streams st s.tables n slot counter d k g;
          extraction = s.extraction;
        }

  -- so many packets are left from index k on
  pub counts : (left k : ℕ) → k + left ≡ length segment / packet_length → (streams : Streams) (st : state.State)
      → StateKept edition segment before now c streams st → (counter : ℕ) → kind_of st.tables n ≡ state.Listed
      → Due st.tables.records n slot counter
      → Gone edition segment before state.Listed slot (counting_on n counter (drop k (packets segment))) k streams counter st c now
  unfolding kind_of
  counts zero k h streams st s counter is d =
      let none : counting_on n counter (drop k (packets segment)) ≡ 0 =
      ap (counting_on n counter) (no_packet segment k (omega arith)) ∙ counting_none n counter in
      subst (λ (m : ℕ). Gone edition segment before state.Listed slot m k streams counter st c now) (sym none)
      (none_gone edition segment before state.Listed slot k streams counter st c now s)
  counts (suc left) k h streams st s counter is d =
      let p = packet_at segment k in
      let l = drop (suc k) (packets segment) in
      let here = ap (counting_on n counter) (next_packet segment k (omega arith)) in
      case (counts_on n counter p)
      (λ g.
      let many : counting_on n counter (drop k (packets segment))
      ≡ suc (counting_on n (next_counter counter) (drop (k + 1) (packets segment))) =
      here ∙ counting_next n counter p l g
      ∙ ap (λ (x : ℕ). suc (counting_on n (next_counter counter) (drop x (packets segment)))) (sym (add-one k)) in
      subst (λ (m : ℕ). Gone edition segment before state.Listed slot m k streams counter st c now) (sym many)
      (one_gone edition segment before state.Listed slot k streams counter st c now _ (reached_by streams st s counter d k g)
      (ap (kind_of st.tables) (of_pid n counter p g) ∙ is) (one_counts streams st s counter d k g) refl
      (counts left (k + 1) (omega arith) _ (reached_by streams st s counter d k g) (counts_kept streams st s counter d k g)
      (next_counter counter) is (next_due segment st.tables.records n slot counter d k g))))
      (λ g.
      subst (λ (m : ℕ). Gone edition segment before state.Listed slot m k streams counter st c now)
      (sym (here ∙ counting_stop n counter p l g))
      (none_gone edition segment before state.Listed slot k streams counter st c now s))

-- ---- a packet of the AV1 PID
-- what holds where one of PID n may go on
pub record Ready (c : State) (st : state.State) (n slot counter : ℕ) (f : PesFound) : Type 0 where
  pub kind : kind_of st.tables n ≡ state.Av1
  pub due : Due st.tables.records n slot counter
  pub clock : is_pcr st.tables.pcr ≡ true
  pub opened : c.extraction.pes ≡ Some f

-- the state with so many bytes more
abbrev with_bytes : State → ℕ → State
with_bytes c n =
    record {
      tables = c.tables;
      extraction = record { pes = c.extraction.pes; units = c.extraction.units; start = c.extraction.start; bytes = n };
    }

abbrev longer : State → ℕ → State
longer c n = with_bytes c (c.extraction.bytes + n)

-- where the next payload is put
abbrev pub place : State → ℕ
place c = c.extraction.start + c.extraction.bytes

-- where no unit has closed, the units are the same
no_unit_lem : (x x' : state.Extraction) → Grows x x' → length x'.units ≡ length x.units → x'.units ≡ x.units
no_unit_lem x x' (same_units e) h = e
no_unit_lem x x' (one_more o at e) h = absurd (omega (arith, h, ap length e, length-append x.units (unit_of o ∷ [])))

module _ (edition : Edition) (segment : Bytes) (before : Outputs) (lens times : List ℕ) (n slot : ℕ) (f : PesFound) where
  module _ (out : List ℕ) (c : State) (streams : Streams) (st : state.State)
      (s : StateKept edition segment before (outputs_of out lens times) c streams st) (counter : ℕ) (r : Ready c st n slot counter f)
      (k : ℕ) (g : goes_on n counter (packet_at segment k) ≡ true) where
    abbrev p : Bytes
    p = packet_at segment k

    counting : counts_on n counter p ≡ true
    counting = counts_too n counter p g

    abbrev counted : state.State
    counted = state_after segment c.tables streams st s.tables n slot counter r.due k counting

    abbrev after : Streams
    after = with_last streams slot (seen (next_counter counter) k false)

    rules : packet_rules (edition_says edition) (rooms_of before) k p state.Av1 st
        ≡ in_sequence (pes_rules (edition_says edition) (rooms_of before) k p state.Av1) counted
    unfolding ◌>>=◌
    rules =
        let rest = in_sequence (pes_rules (edition_says edition) (rooms_of before) k p state.Av1) in
        av1_packet (edition_says edition) (rooms_of before) k p st (fields p) (plain_passes n counter p counting)
        ∙ ap (λ (v : Verdict state.State). v >>= unless_repeat p rest)
        (counted_so segment c.tables streams st s.tables n slot counter r.due k counting)
        ∙ not_repeated p rest counted (not_repeating segment c.tables streams st s.tables n slot counter r.due k counting)

    module _ (h : k < length segment / packet_length) (room : payload_length ≤ length out - place c) (fits : place c ≤ length out) where
      long : length (payload p) ≡ payload_length
      long = ap length (payload_behind n counter p counting) ∙ length-drop 4 p ∙ ap (λ (m : ℕ). m - 4) (packet_length_lem segment k h)

      one_goes : (st' : state.State) × (packet_rules (edition_says edition) (rooms_of before) k p state.Av1 st ≡ passed st')
          × StateKept edition segment before (outputs_of (placed out (place c) (payload p)) lens times) (longer c payload_length) after st'
          × (st'.extraction.units ≡ st.extraction.units)
          × Ready (longer c payload_length) st' n slot (next_counter counter) f
      unfolding kind_of
      one_goes =
          let is : PayloadOf p false (payload p) =
          record { carries = with_payload n counter p counting; starts = no_start n counter p g; same = refl } in
          let out' = outputs_of (placed out (place c) (payload p)) lens times in
          let e = c.extraction in
          let d = adds_right (edition_says edition) k p (payload p) counted is s.extraction f r.opened r.clock
          (omega (arith, long, room)) refl in
          let rule = rules ∙ d.1 in
          let units : UnitsRepresent before out' (longer c payload_length).extraction d.0.extraction =
          subst (λ (x : Extraction). UnitsRepresent before out' x d.0.extraction)
          (ap₂ (λ (x : Option PesFound) (m : ℕ). record { pes = x; units = e.units; start = e.start; bytes = e.bytes + m })
          (sym r.opened) long)
          d.2.1 in
          let back = sym d.2.0 in (
            d.0,
            rule,
            record {
              follows = s.follows;
              tables =
                  subst (Kept segment c.tables after) back
                  (kept_so segment c.tables streams st s.tables n slot counter r.due k counting);
              extraction = units;
            },
            no_unit_lem st.extraction d.0.extraction (packet_grows (edition_says edition) (rooms_of before) k p state.Av1 st d.0 rule)
                (sym units.units ∙ s.extraction.units),
            record {
              kind = ap (λ (t : state.Tables). kind_of t n) d.2.0 ∙ r.kind;
              due =
                  subst (λ (t : state.Tables). Due t.records n slot (next_counter counter)) back
                  (next_due segment st.tables.records n slot counter r.due k counting);
              clock = ap (λ (t : state.Tables). is_pcr t.pcr) d.2.0 ∙ r.clock;
              opened = r.opened;
            },
          )

  -- of so many packets from index k on, whose payloads are put into this output
  abbrev pub Went : ℕ → ℕ → List ℕ → State → Streams → state.State → ℕ → Type 0
  Went m k out c streams st counter =
      Gone edition segment before state.Av1 slot m k streams counter st (longer c (m * payload_length))
      (outputs_of (placed out (place c) (payloads m (drop k (packets segment)))) lens times)

  none_went : (k : ℕ) (out : List ℕ) (c : State) (streams : Streams) (st : state.State)
      → StateKept edition segment before (outputs_of out lens times) c streams st → (counter : ℕ) → Went 0 k out c streams st counter
  unfolding flatten
  none_went k out c streams st s counter =
      let z : c.extraction.bytes ≡ c.extraction.bytes + 0 * payload_length = omega arith in
      none_gone edition segment before state.Av1 slot k streams counter st (longer c (0 * payload_length))
      (outputs_of (placed out (place c) []) lens times)
      (subst (λ (w : List ℕ). StateKept edition segment before (outputs_of w lens times) (longer c (0 * payload_length)) streams st)
      (sym (take-append-drop (place c) out))
      (subst (λ (b : ℕ). StateKept edition segment before (outputs_of out lens times) (with_bytes c b) streams st) z s))

  -- one more in front of them
  module _ (k : ℕ) (h : k < length segment / packet_length) (out : List ℕ) (c : State) (streams : Streams) (st : state.State)
      (s : StateKept edition segment before (outputs_of out lens times) c streams st) (counter : ℕ) (r : Ready c st n slot counter f)
      (g : goes_on n counter (packet_at segment k) ≡ true) (room : payload_length ≤ length out - place c) (fits : place c ≤ length out)
    where
      abbrev one : (st' : state.State) × (packet_rules (edition_says edition) (rooms_of before) k (packet_at segment k) state.Av1 st
          ≡ passed
          st')
          × StateKept edition segment before (outputs_of (placed out (place c) (payload (packet_at segment k))) lens times)
          (longer c payload_length) (with_last streams slot (seen (next_counter counter) k false)) st'
          × (st'.extraction.units ≡ st.extraction.units)
          × Ready (longer c payload_length) st' n slot (next_counter counter) f
      one = one_goes out c streams st s counter r k g h room fits

      abbrev out1 : List ℕ
      out1 = placed out (place c) (payload (packet_at segment k))

      kept_long : length out1 ≡ length out
      kept_long =
          let size = long out c streams st s counter r k g h room fits in
          placed_long out (place c) (omega (arith, size, room)) (payload (packet_at segment k)) (omega (arith, size, room))

      one_went : (m : ℕ)
          → Went m (k + 1) out1 (longer c payload_length) (with_last streams slot (seen (next_counter counter) k false)) one.0
          (next_counter counter)
          → Went (suc m) k out c streams st counter
      unfolding flatten
      one_went m rest =
          let p = packet_at segment k in
          let size = long out c streams st s counter r k g h room fits in
          let l = drop (k + 1) (packets segment) in
          let seam : c.extraction.start + (c.extraction.bytes + payload_length) ≡ place c + length (payload p) = omega (arith, size) in
          let bytes : c.extraction.bytes + payload_length + m * payload_length ≡ c.extraction.bytes + suc m * payload_length =
          omega arith in
          let listed : payload p ++ payloads m l ≡ payloads (suc m) (drop k (packets segment)) =
          ap (λ (x : ℕ). payload p ++ payloads m (drop x (packets segment))) (add-one k)
          ∙ ap (payloads (suc m)) (sym (next_packet segment k h)) in
          let put : placed out1 (c.extraction.start + (c.extraction.bytes + payload_length)) (payloads m l)
          ≡ placed out (place c) (payloads (suc m) (drop k (packets segment))) =
          ap (λ (x : ℕ). placed out1 x (payloads m l)) seam ∙ placed_twice out (place c) fits (payload p) (payloads m l)
          ∙ ap (placed out (place c)) listed in
          one_gone edition segment before state.Av1 slot k streams counter st (longer c (suc m * payload_length))
          (outputs_of (placed out (place c) (payloads (suc m) (drop k (packets segment)))) lens times) m one.0
          (ap (kind_of st.tables) (of_pid n counter p (counts_too n counter p g)) ∙ r.kind) one.1 one.3
          (subst (λ (x : List ℕ). Gone edition segment before state.Av1 slot m (k + 1)
          (with_last streams slot (seen (next_counter counter) k false)) (next_counter counter) one.0
          (longer c (suc m * payload_length)) (outputs_of x lens times)) put
          (subst (λ (x : ℕ). Gone edition segment before state.Av1 slot m (k + 1)
          (with_last streams slot (seen (next_counter counter) k false)) (next_counter counter) one.0 (with_bytes c x)
          (outputs_of (placed out1 (c.extraction.start + (c.extraction.bytes + payload_length)) (payloads m l)) lens times)) bytes rest))

  -- so many packets are left from index k on
  pub goes : (left k : ℕ) → k + left ≡ length segment / packet_length → (out : List ℕ) (c : State) (streams : Streams) (st : state.State)
      → StateKept edition segment before (outputs_of out lens times) c streams st → (counter : ℕ) → Ready c st n slot counter f
      → place c ≤ length out
      → Went (going_on (length out - place c) n counter (drop k (packets segment))) k out c streams st counter
  goes zero k h out c streams st s counter r fits =
      let none : going_on (length out - place c) n counter (drop k (packets segment)) ≡ 0 =
      ap (going_on (length out - place c) n counter) (no_packet segment k (omega arith)) ∙ going_none (length out - place c) n counter in
      subst (λ (m : ℕ). Went m k out c streams st counter) (sym none) (none_went k out c streams st s counter)
  goes (suc left) k h out c streams st s counter r fits =
      let p = packet_at segment k in
      let l = drop (suc k) (packets segment) in
      let free = length out - place c in
      let within : k < length segment / packet_length = omega arith in
      let here = ap (going_on free n counter) (next_packet segment k within) in
      case (ltb free payload_length)
      (λ t.
      subst (λ (m : ℕ). Went m k out c streams st counter) (sym (here ∙ going_full free n counter p l (ltb-true free payload_length t)))
      (none_went k out c streams st s counter))
      (λ t. case (goes_on n counter p)
      (λ g.
      let room = ltb-false free payload_length t in
      let next = one k within out c streams st s counter r g room fits in
      let put = out1 k within out c streams st s counter r g room fits in
      let same = kept_long k within out c streams st s counter r g room fits in
      let less : length put - place (longer c payload_length) ≡ free - payload_length = omega (arith, same) in
      let many : going_on free n counter (drop k (packets segment))
      ≡ suc (going_on (length put - place (longer c payload_length)) n (next_counter counter) (drop (k + 1) (packets segment))) =
      here ∙ going_next free n counter p l room g
      ∙ ap₂ (λ (x y : ℕ). suc (going_on x n (next_counter counter) (drop y (packets segment)))) (sym less) (sym (add-one k)) in
      subst (λ (m : ℕ). Went m k out c streams st counter) (sym many)
      (one_went k within out c streams st s counter r g room fits _
      (goes left (k + 1) (omega arith) put (longer c payload_length) _ next.0 next.2 (next_counter counter) next.4
      (omega (arith, same, room)))))
      (λ g.
      subst (λ (m : ℕ). Went m k out c streams st counter) (sym (here ∙ going_stop free n counter p l g))
      (none_went k out c streams st s counter)))

-- ---- the code
-- how many, of the output as it is lent
pub lent_many : (n last : ℕ) (l : List Bytes) (out : List ℕ) (at m : ℕ) → at ≤ length out
    → m ≡ going_on (length (mid_of at (length out - at) out)) n last l → m ≡ going_on (length out - at) n last l
lent_many n last l out at m h e = e ∙ ap (λ (x : ℕ). going_on x n last l) (ap length (tail_lent at out h) ∙ length-drop at out)

-- no packet goes on
none_put : (out : List ℕ) (at : ℕ) (l : List Bytes) (m : ℕ) → m ≡ 0 → placed out at (payloads m l) ≡ out
unfolding flatten
none_put out at l m z = ap (λ (x : ℕ). placed out at (payloads x l)) z ∙ take-append-drop at out

-- so many packets are left from an index on
left_from : (segment : Bytes) (k : ℕ) → length (drop k (packets segment)) ≡ length segment / packet_length - k
left_from segment k =
    length-drop k (packets segment) ∙ ap (λ (x : ℕ). x - k) (length_packets (length segment / packet_length) segment)

module _ (segment : Bytes) (c : State) (streams : Streams) (n slot counter : ℕ) (kind : Kind)
    (f : Follows c streams n slot counter kind) (at : slot_in kind ≡ Some slot) where
  -- the packet before is the last in its slot
  due_then : (t : state.Tables) → Kept segment c.tables streams t → Due t.records n slot counter
  due_then t kept =
      due_kept segment c.tables streams t kept n slot counter f.seen.0 f.seen.1 ((f.kind segment t kept).1 ∙ at) f.seen.2

-- what is known once they are counted: on the AV1 PID
pub record Followed (segment : Bytes) (k : ℕ) (c : State) (streams : Streams) (n slot counter : ℕ) (out : List ℕ) (m : ℕ) : Type 0 where
  pub follows : Follows c streams n slot counter (kinds.Av1 slot)
  pub may : MayGoOn c
  pub within : k ≤ length segment / packet_length
  pub fits : place c ≤ length out
  pub many : m ≡ going_on (length out - place c) n counter (drop k (packets segment))

module _ {segment : Bytes} {k : ℕ} {c : State} {streams : Streams} {n slot counter : ℕ} {out : List ℕ} {m : ℕ}
    (f : Followed segment k c streams n slot counter out m) where
  -- they lie within the segment
  pub followed_within : k + m ≤ length segment / packet_length
  followed_within =
      omega (arith, (going_bounded (length out - place c) n counter (drop k (packets segment))).0, left_from segment k, f.many, f.within)

  -- and are copied behind what is there of the unit
  pub all_went : (streams' : Streams) → streams' ≡ last_went streams slot counter k m → (out' : List ℕ)
      → out' ≡ placed out (place c) (payloads m (drop k (packets segment)))
      → GoesOn segment k c streams out (record { packets = m; av1 = true }) streams' out'
  unfolding pick
  all_went streams' last out' put =
      record {
        passes = λ edition lens times some before st s. went edition lens times before st s;
        within = followed_within;
        unmoved =
            λ z. (last ∙ ap (last_went streams slot counter k) z, put ∙ none_put out (place c) (drop k (packets segment)) m z);
      }
    where
      went : (edition : Edition) (lens times : List ℕ) (before : Outputs) (st : state.State)
          → StateKept edition segment before (outputs_of out lens times) c streams st
          → (st' : state.State) × Pass (edition_says edition) segment (rooms_of before) state.Av1 m k st st'
          × StateKept edition segment before (outputs_of out' lens times) (longer c (m * payload_length)) streams' st'
      went edition lens times before st s =
          let r : Ready c st n slot counter f.may.opened.0 =
          record {
            kind = sym (f.follows.kind segment st.tables s.tables).0;
            due = due_then segment c streams n slot counter (kinds.Av1 slot) f.follows refl st.tables s.tables;
            clock = ap (λ (t : Tables). is_pcr t.pcr) (sym s.tables.tables) ∙ f.may.clocked;
            opened = f.may.opened.1;
          } in
          let all = goes edition segment before lens times n slot f.may.opened.0 (length segment / packet_length - k) k
          (omega (arith, f.within)) out c streams st s counter r f.fits in
          let x = subst (λ (y : ℕ). Went edition segment before lens times n slot f.may.opened.0 y k out c streams st counter)
          (sym f.many) all in (
            x.reached,
            x.passes,
            subst (λ (y : Streams). StateKept edition segment before (outputs_of out' lens times) (longer c (m * payload_length)) y
                x.reached) (sym last)
                (subst (λ (y : List ℕ). StateKept edition segment before (outputs_of y lens times) (longer c (m * payload_length))
                (last_went streams slot counter k m) x.reached) (sym put) x.kept),
          )

-- on another listed PID
pub record Counted (segment : Bytes) (k : ℕ) (c : State) (streams : Streams) (n slot counter m : ℕ) : Type 0 where
  pub follows : Follows c streams n slot counter (kinds.Listed slot)
  pub within : k ≤ length segment / packet_length
  pub many : m ≡ counting_on n counter (drop k (packets segment))

module _ {segment : Bytes} {k : ℕ} {c : State} {streams : Streams} {n slot counter m : ℕ}
    (f : Counted segment k c streams n slot counter m) where
  pub counted_within : k + m ≤ length segment / packet_length
  counted_within = omega (arith, counting_bounded n counter (drop k (packets segment)), left_from segment k, f.many, f.within)

  pub all_counted : (streams' : Streams) → streams' ≡ last_went streams slot counter k m → (out : List ℕ)
      → GoesOn segment k c streams out (record { packets = m; av1 = false }) streams' out
  unfolding pick
  all_counted streams' last out =
      record {
        passes = λ edition lens times some before st s. went edition lens times before st s;
        within = counted_within;
        unmoved = λ z. (last ∙ ap (last_went streams slot counter k) z, refl);
      }
    where
      went : (edition : Edition) (lens times : List ℕ) (before : Outputs) (st : state.State)
          → StateKept edition segment before (outputs_of out lens times) c streams st
          → (st' : state.State) × Pass (edition_says edition) segment (rooms_of before) state.Listed m k st st'
          × StateKept edition segment before (outputs_of out lens times) (longer c 0) streams' st'
      went edition lens times before st s =
          let now = outputs_of out lens times in
          let z : c.extraction.bytes ≡ c.extraction.bytes + 0 = omega arith in
          let all = counts edition segment before now c n slot (length segment / packet_length - k) k (omega (arith, f.within)) streams st s
          counter (sym (f.follows.kind segment st.tables s.tables).0)
          (due_then segment c streams n slot counter (kinds.Listed slot) f.follows refl st.tables s.tables) in
          let x = subst (λ (y : ℕ). Gone edition segment before state.Listed slot y k streams counter st c now) (sym f.many) all in (
            x.reached,
            x.passes,
            subst (λ (b : ℕ). StateKept edition segment before now (with_bytes c b) streams' x.reached) z
                (subst (λ (y : Streams). StateKept edition segment before now c y x.reached) (sym last) x.kept),
          )
