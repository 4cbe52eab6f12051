-- A packet that counts on after the last one of its PID: its counter is right and it is no copy (`checks`), so that it becomes the last
-- packet in its slot (`kept_so`), and nothing else of the tables changes, since it has no PCR (`counted_so`). Assumes nothing.
use Rattle.ticks.specs.declared.Ticks27.{Ticks27}
use Rattle.std.specs.Prelude.{Option, Some, None}
use Prim.Native.Nat.{ℕ, ◌+◌, ◌*◌, ◌%◌, ◌≤◌}
use mathlib.Core.Bool.{Bool, true, false, not, ◌&&◌, ◌||◌, or-true, and-false}
use mathlib.Core.Path.{◌≡◌, refl, sym, ap, ap₂, ◌∙◌}
use mathlib.Core.List.{List}
use native.Mathlib.Omega.{arith}
use borrow.Author.Tests.{eq-eqb}
use lib.Dec.{eqb, ltb}
use lib.ListN.{length, get_or, set, get_or-map}
use lib.Seq.{get_or-set_same, set-set, set_comm}
use Rattle.lists.specs.Lists.{Bytes, pick}
use Rattle.lists.proofs.Tests.{case, clash, apart}
use Rattle.refusal.specs.Verdict.{Verdict, passed, ◌>>=◌, at_place}
use Rattle.refusal.proofs.Verdicts.{pass_on}
use Rattle.descriptor.specs.Naming.{edition_says}
use Rattle.packet.specs.Header.{packet_at, pid, continuity_counter, has_payload, discontinuity_indicator}
use Rattle.packet.specs.declared.counter.Last.{Last}
use Rattle.packet.specs.declared.streams.Streams.{Streams}
use Rattle.packet.specs.Counter.{StreamRecord, named, due, counter_right, bytes_same, copy_of, repeats, check, pids_of, record_of, seen}
use Rattle.packet.specs.Counter.{checked_in}
use Rattle.packet.specs.Counter.{last_kept, last_of}
use Rattle.packet.specs.Streams.{look_up, most_records, mark_of, index_of, last_in, with_last}
use Rattle.packet.proofs.Copies.{copy_not_due}
use Rattle.packet.proofs.Counters.{checked_pids}
use Rattle.packet.proofs.Slots.{look_up_at}
use Rattle.packet.proofs.Recorded.{found_at, record_first}
use Rattle.packet.proofs.Keeping.{last_kept_lem, put_kept}
use Rattle.plain.specs.Runs.{next_counter, counts_on}
use Rattle.plain.proofs.Plains.{of_pid, counter_next, with_payload, no_break, no_pcr}
use Rattle.segment_rules.specs.State as state
use Rattle.segment_rules.specs.State.{with_tables, with_records}
use Rattle.segment_rules.specs.Rules.{on_tables, last_pcr, clocked, checked, last_repeats, is_repeat}
use Rattle.segment_rules.proofs.ByKind.{counted}
use Rattle.segment_rules.proofs.Lying.{few_records, valid_checked}
use Rattle.tables.specs.declared.tables.Tables.{Tables}
use Rattle.tables.specs.Tables.{Kept}
use Rattle.segment_rules.proofs.Clocks.{uncounted}
use Rattle.tables.proofs.Counting.{slot_within}

-- ---- the counter
-- a packet with payload whose counter is the next one is right
right_after : (q p : Bytes) (counter : ℕ) → continuity_counter q ≡ counter → has_payload p ≡ true → continuity_counter p ≡ next_counter
    counter
    → counter_right (Some q) p ≡ true
unfolding counter_right due pick
right_after q p counter e h k =
    ap (λ (b : Bool). discontinuity_indicator p || eqb (continuity_counter p)
    (pick b ((continuity_counter q + 1) % 16) (continuity_counter q))) h
    ∙ ap (λ (b : Bool). discontinuity_indicator p || b)
    (eq-eqb (continuity_counter p) ((continuity_counter q + 1) % 16) (k ∙ ap (λ (n : ℕ). (n + 1) % 16) (sym e)))
    ∙ or-true (discontinuity_indicator p)

-- and no copy
not_equal : (q p : Bytes) → counter_right (Some q) p ≡ true → has_payload p ≡ true → discontinuity_indicator p ≡ false → bytes_same q p ≡
    false
unfolding copy_of
not_equal q p r h d =
    case (bytes_same q p)
    (λ t. clash r (copy_not_due q p (ap₂ (λ (x y : Bool). x && not y && bytes_same q p) h d ∙ t)))
    (λ t. t)

-- so that it becomes the last packet of its PID, which is no repeat
abbrev latest : ℕ → StreamRecord → Bytes → Bool → StreamRecord
latest i r p repeat = record { pid = r.pid; last = Some p; lies = i; repeat = repeat }

checks_right : (i : ℕ) (r : StreamRecord) (q p : Bytes) → r.last ≡ Some q → counter_right (Some q) p ≡ true → bytes_same q p ≡ false
    → check i r p ≡ passed (latest i r p false)
unfolding check copy_of
checks_right i r q p e f g =
    let right : counter_right r.last p ≡ true = ap (λ (o : Option Bytes). counter_right o p) e ∙ f in
    let other : copy_of r.last p ≡ false =
    ap (λ (o : Option Bytes). copy_of o p) e ∙ ap (λ (b : Bool). has_payload p && not (discontinuity_indicator p) && b) g
    ∙ and-false (has_payload p && not (discontinuity_indicator p)) in
    let copy : repeats r p ≡ false = ap (λ (b : Bool). b && not r.repeat) other in
    sym (pass_on 24 (ap₂ (λ (x y : Bool). not (x || y)) right copy) refl) ∙ ap (λ (b : Bool). passed (latest i r p b)) copy

-- ---- the record in a slot
module _ (records : List StreamRecord) (n k : ℕ) (e : look_up n (pids_of records) ≡ Some k) where
  record_found : record_of n records ≡ Some (get_or records k (named 0))
  record_found =
      let f = look_up_at n (pids_of records) k e in
      let at : (j : ℕ) → get_or (pids_of records) j 0 ≡ (get_or records j (named 0)).pid = λ j. get_or-map (λ (r : StreamRecord). r.pid)
      records j (named 0) in
      record_first n records k (slot_within n records k e) (sym (at k) ∙ f.has) (λ j h z. f.first j h (at j ∙ z))

-- a PID has its record in this slot, and its last packet had this counter
pub record Due (records : List StreamRecord) (n slot counter : ℕ) : Type 0 where
  pub found : look_up n (pids_of records) ≡ Some slot
  pub before : (q : Bytes) × ((get_or records slot (named 0)).last ≡ Some q) × (continuity_counter q ≡ counter)

-- what the code has seen of it
abbrev counter_in : Option Last → ℕ
counter_in None = 0
counter_in (Some l) = l.counter

module _ (segment : Bytes) (c : Tables) (streams : Streams) (t : state.Tables) (kept : Kept segment c streams t) where
  few : length t.records ≤ most_records
  few = few_records (edition_says c.edition) segment t kept.valid

  pub due_kept : (n slot counter i : ℕ) (repeat : Bool) → look_up n (pids_of t.records) ≡ Some slot
      → last_in streams slot ≡ seen counter i repeat → Due t.records n slot counter
  unfolding last_kept
  due_kept n slot counter i repeat e at =
      let r = get_or t.records slot (named 0) in
      let same : last_of r ≡ seen counter i repeat =
      sym (last_kept_lem t.records slot (slot_within n t.records slot e) few)
      ∙ ap (λ (x : Streams). last_in x slot) (sym kept.records) ∙ at in
      record { found = e; before = go r.last r.lies r.repeat same }
    where
      go : (o : Option Bytes) (j : ℕ) (b : Bool) → last_kept o j b ≡ seen counter i repeat
          → (q : Bytes) × (o ≡ Some q) × (continuity_counter q ≡ counter)
      go None j b f = apart (cc)
      go (Some q) j b f = (q, refl, ap counter_in f)

-- ---- the numbers of a slot
-- a second last packet over the first
pub last_twice : (streams : Streams) (slot : ℕ) (a b : Option Last)
    → with_last (with_last streams slot a) slot b ≡ with_last streams slot b
unfolding with_last pick
last_twice streams slot a b =
    let numbers = streams.numbers in
    case (ltb slot most_records)
    (λ t. rw t (ap (λ (l : List ℕ). record { numbers = l })
    (ap (λ (l : List ℕ). set l (2 * most_records + slot) (index_of b))
    (set_comm (set numbers (most_records + slot) (mark_of a)) (2 * most_records + slot) (most_records + slot) (index_of a) (mark_of b)
    (λ z. absurd (omega (arith, z))))
    ∙ set-set (set (set numbers (most_records + slot) (mark_of a)) (most_records + slot) (mark_of b)) (2 * most_records + slot) (index_of a)
    (index_of b)
    ∙ ap (λ (l : List ℕ). set l (2 * most_records + slot) (index_of b)) (set-set numbers (most_records + slot) (mark_of a) (mark_of b)))))
    (λ t. rw t)

-- ---- a packet
module _ (segment : Bytes) (records : List StreamRecord) (n slot counter : ℕ) (d : Due records n slot counter) (k : ℕ)
    (g : counts_on n counter (packet_at segment k) ≡ true) where
  abbrev p : Bytes
  p = packet_at segment k

  abbrev old : StreamRecord
  old = get_or records slot (named 0)

  abbrev new : StreamRecord
  new = latest k old p false

  -- the records with it
  abbrev pub after : List StreamRecord
  after = set records slot new

  checks : check k old p ≡ passed new
  checks =
      let (q, e, f) = d.before in
      let right = right_after q p counter f (with_payload n counter p g) (counter_next n counter p g) in
      checks_right k old q p e right (not_equal q p right (with_payload n counter p g) (no_break n counter p g))

  found_in : look_up (pid p) (pids_of records) ≡ Some slot
  found_in = ap (λ (m : ℕ). look_up m (pids_of records)) (of_pid n counter p g) ∙ d.found

  records_so : checked_in k records p ≡ passed after
  unfolding ◌>>=◌
  records_so =
      found_at k p records slot found_in ∙ ap (λ (v : Verdict StreamRecord). v >>= λ r. passed (set records slot r)) checks

  -- its PID is found where it was
  still : look_up n (pids_of after) ≡ Some slot
  still = ap (look_up n) (checked_pids k p records after records_so) ∙ d.found

  there : get_or after slot (named 0) ≡ new
  there = get_or-set_same records slot new (named 0) (slot_within n records slot d.found)

  -- the next one is due after it
  pub next_due : Due after n slot (next_counter counter)
  next_due = record { found = still; before = (p, ap (λ (r : StreamRecord). r.last) there, counter_next n counter p g) }

  no_repeat : last_repeats (record_of (pid p) after) ≡ false
  no_repeat =
      ap (λ (m : ℕ). last_repeats (record_of m after)) (of_pid n counter p g)
      ∙ ap last_repeats (record_found after n slot still ∙ ap Some there)

-- ---- by its rules
module _ (segment : Bytes) (c : Tables) (streams : Streams) (st : state.State) (kept : Kept segment c streams st.tables)
    (n slot counter : ℕ) (d : Due st.tables.records n slot counter) (k : ℕ) (g : counts_on n counter (packet_at segment k) ≡ true) where
  abbrev it : Bytes
  it = packet_at segment k

  -- the tables with it
  abbrev pub tables_after : state.Tables
  tables_after = with_records (after segment st.tables.records n slot counter d k g) st.tables

  abbrev pub state_after : state.State
  state_after = with_tables tables_after st

  unclocked : clocked k it st.tables ≡ st.tables
  unclocked = ap (λ (x : Option Ticks27). state.with_pcr (last_pcr st.tables.pcr x) st.tables)
      (uncounted it st.tables.pmt (no_pcr n counter it g))

  checked_so : checked k it st.tables ≡ passed tables_after
  unfolding checked at_place ◌>>=◌
  checked_so = rw (records_so segment st.tables.records n slot counter d k g)

  pub counted_so : counted k it st ≡ passed state_after
  unfolding on_tables ◌>>=◌
  counted_so = ap (λ (t : state.Tables). checked k it t >>= λ t'. passed (with_tables t' st)) unclocked ∙ rw checked_so

  pub not_repeating : is_repeat it state_after ≡ false
  not_repeating = no_repeat segment st.tables.records n slot counter d k g

  pub kept_so : Kept segment c (with_last streams slot (seen (next_counter counter) k false)) tables_after
  unfolding last_kept
  kept_so =
      record {
        valid = valid_checked (edition_says c.edition) segment k it st.tables tables_after refl checked_so kept.valid;
        tables = kept.tables;
        records =
            ap₂ (λ (x : Streams) (m : ℕ). with_last x slot (seen m k false)) kept.records (sym (counter_next n counter it g))
            ∙ put_kept st.tables.records slot (new segment st.tables.records n slot counter d k g)
            (slot_within n st.tables.records slot d.found) (few segment c streams st.tables kept) refl;
      }
