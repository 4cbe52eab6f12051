-- The check of a packet's counter by the record in the slot of its kind, as the code keeps it. Assumes nothing.
use Rattle.std.specs.Prelude.{Result, Ok, Err, Option, Some, None}
use Prim.Native.Nat.{ℕ, zero, suc, ◌≤◌, ◌<◌}
use mathlib.Core.Bool.{Bool, false}
use mathlib.Core.Path.{◌≡◌, refl, sym, ap, ap₂, subst, ◌∙◌}
use mathlib.Core.List.{List, [], ◌∷◌}
use native.Mathlib.Omega.{arith}
use borrow.Author.Tests.{ne_eqb}
use lib.ListN.{length, get_or, set, length-map, get_or-map}
use Rattle.lists.specs.Lists.{Bytes, pick}
use Rattle.lists.proofs.Tests.{apart}
use Rattle.refusal.specs.Verdict.{Verdict, passed, ◌>>=◌, at_place, NoValue}
use Rattle.refusal.specs.Number.{refused_by}
use Rattle.refusal.specs.declared.Refused.{Refused}
use Rattle.refusal.proofs.Verdicts.{passed_same, passed_after}
use Rattle.packet.specs.Header.{packet_at, pid, continuity_counter, fields}
use Rattle.packet.specs.declared.header.Header.{Header}
use Rattle.packet.specs.declared.counter.Stream.{Stream}
use Rattle.packet.specs.declared.counter.Last.{Last}
use Rattle.packet.specs.declared.counter.Counted.{Counted}
use Rattle.packet.specs.declared.streams.Streams.{Streams}
use Rattle.packet.specs.Counter.{StreamRecord, named, bytes_same, equals_last, updated, check, checked_in, given_back, counter_says}
use Rattle.packet.specs.Counter.{pids_of}
use Rattle.packet.specs.declared.counter.Checked.{Checked}
use Rattle.packet.specs.Counter.{record_of, last_kept, last_of, counted, Of, Checks}
use Rattle.packet.specs.Streams.{most_records, look_up, streams_of, last_in, with_last}
use Rattle.packet.proofs.Slots.{look_up_at, look_up_none}
use Rattle.packet.proofs.Counters.{some_same}
use Rattle.packet.proofs.Recorded.{found_at, found_none, record_put}
use Rattle.segment_rules.specs.Rules.{last_repeats}
use Rattle.segment_rules.specs.Lying.{LastLies, RecordLies, RecordsLie}
use Rattle.tables.specs.declared.state.Packet.{Packet}
use Rattle.tables.specs.Tables.{Refines, slot_in}
use Rattle.tables.specs.Parts.{last_repeated, EqualRefines}
use Rattle.packet.proofs.Keeping.{last_kept_lem, put_kept}

-- ---- a packet and the last one of its PID
module _ (segment : Bytes) (s : StreamRecord) (lies : RecordLies segment s) (l : Option Last) (kept : l ≡ last_of s) (p : Bytes) where
  pub equals_none : l ≡ None → false ≡ equals_last s.last p
  unfolding last_kept
  equals_none e = go s.last (sym kept ∙ e)
    where
      go : (o : Option Bytes) → last_kept o s.lies s.repeat ≡ None → false ≡ equals_last o p
      go None f = refl
      go (Some q) f = apart (cc)

  pub equals_packet : (x : Last) → l ≡ Some x → (q : Bytes) → q ≡ packet_at segment x.index
      → (b : Bool) → b ≡ bytes_same q p → b ≡ equals_last s.last p
  unfolding last_kept
  equals_packet x e q lent b f = f ∙ go s.last lies (sym kept ∙ e)
    where
      go : (o : Option Bytes) → LastLies segment o s.lies → last_kept o s.lies s.repeat ≡ Some x
          → bytes_same q p ≡ equals_last o p
      go None m g = apart (cc)
      go (Some y) m g =
          let same : s.lies ≡ x.index =
          ap (λ (z : Last). z.index)
          (some_same (record { counter = continuity_counter y; index = s.lies; repeat = s.repeat }) x g) in
          ap (λ (w : Bytes). bytes_same w p) (lent ∙ ap (packet_at segment) (sym same) ∙ sym m)

-- ---- the check by the record
pub stream_checked : (s : StreamRecord) (p : Bytes) (h : Header) (i : ℕ) (equal : Bool) (l : Option Last) (c : Counted) (r : Checked)
    → h ≡ fields p → l ≡ last_of s → s.pid ≡ pid p → equal ≡ equals_last s.last p → c ≡ counted h i equal
    → Of (record { pid = h.pid; last = l }) c (λ t q. Checks c.index t q r) → Checks i s p r
stream_checked s p h i equal l c r e f g same k of =
    let at : c.index ≡ i = ap (λ (x : Counted). x.index) k in
    subst (λ (n : ℕ). Checks n s p r) at
    (of s p (ap₂ (λ (n : ℕ) (m : Option Last). record { pid = n; last = m }) (ap (λ (x : Header). x.pid) e ∙ sym g) f)
    (k ∙ ap₂ (λ (x : Header) (b : Bool). counted x i b) e same
    ∙ ap (λ (n : ℕ). counted (fields p) n (equals_last s.last p)) (sym at)))

-- ---- the slot of a PID
pub slot_within : (n : ℕ) (records : List StreamRecord) (j : ℕ) → look_up n (pids_of records) ≡ Some j → j < length records
slot_within n records j e = omega (arith, (look_up_at n (pids_of records) j e).within, length-map records (λ (r : StreamRecord). r.pid))

-- ---- the record in it
lies_at : (segment : Bytes) (records : List StreamRecord) (k : ℕ) → RecordsLie segment records → RecordLies segment
    (get_or records k (named 0))
lies_at segment [] k h = tt
lies_at segment (r ∷ records) zero h = h.0
lies_at segment (r ∷ records) (suc k) h = lies_at segment records k h.1

pid_at : (records : List StreamRecord) (j : ℕ) → get_or (pids_of records) j 0 ≡ (get_or records j (named 0)).pid
pid_at records j = get_or-map (λ (r : StreamRecord). r.pid) records j (named 0)

record_none : (n : ℕ) (records : List StreamRecord) → ((j : ℕ) → j < length records → (get_or records j (named 0)).pid ≡ n → ⊥)
    → record_of n records ≡ None
unfolding record_of pick
record_none n [] f = refl
record_none n (r ∷ records) f =
    rw (ne_eqb r.pid n (f 0 (omega arith))) (record_none n records (λ j i. f (suc j) (omega arith)))

-- the record that a check gives back is of its PID, and the packet is its last one
gives_back : (i : ℕ) (s : StreamRecord) (p : Bytes) (t : StreamRecord) → check i s p ≡ passed t → updated i s p ≡ t
unfolding check
gives_back i s p t e = passed_same (updated i s p) t (passed_after _ (passed (updated i s p)) t e).1

-- ---- the counter
module _ (segment : Bytes) (k : Packet) (streams : Streams) (p : Bytes) (records : List StreamRecord)
    (looked : look_up (pid p) (pids_of records) ≡ slot_in k.kind) (lie : RecordsLie segment records) (few : length records ≤ most_records)
    (kept : streams ≡ streams_of records) where
  abbrev verdict : Verdict (List StreamRecord)
  verdict = at_place k.index (checked_in k.index records p)

  abbrev Says : Streams → Bool → List StreamRecord → Type 0
  Says after repeat records' = (after ≡ streams_of records') × (repeat ≡ last_repeats (record_of (pid p) records'))

  -- a kind that has no record
  pub counter_away : slot_in k.kind ≡ None → Refines (Ok tt) verdict (Says streams false)
  unfolding at_place
  counter_away e =
      let away = looked ∙ e in
      let nowhere = look_up_none (pid p) (pids_of records) away in (
        records,
        ap (at_place k.index) (found_none k.index p records away),
        (
          kept,
          ap last_repeats (sym (record_none (pid p) records (λ j i z. nowhere j
              (omega (arith, length-map records (λ (r : StreamRecord). r.pid))) (pid_at records j ∙ z)))),
        ),
      )

  -- one that has
  module _ (n : ℕ) (e : slot_in k.kind ≡ Some n) where
    found : look_up (pid p) (pids_of records) ≡ Some n
    found = looked ∙ e

    abbrev pub s : StreamRecord
    s = get_or records n (named 0)

    there : n < length records
    there = slot_within (pid p) records n found

    same_pid : s.pid ≡ pid p
    same_pid = sym (pid_at records n) ∙ (look_up_at (pid p) (pids_of records) n found).has

    -- what the code checks is the record in the slot
    pub checks_by : (own : p ≡ packet_at segment k.index) → k.header ≡ fields p → (l : Option Last) → l ≡ last_in streams n
        → (w : Bytes) → w ≡ packet_at segment k.index → (equal : Bool) → EqualRefines segment l w equal
        → (c : Counted) → c ≡ counted k.header k.index equal → (r : Checked)
        → Of (record { pid = k.header.pid; last = l }) c (λ t q. Checks c.index t q r) → Checks k.index s p r
    checks_by own read l had w lent equal equals c made r of =
        let same : l ≡ last_of s = had ∙ ap (λ (x : Streams). last_in x n) kept ∙ last_kept_lem records n there few in
        stream_checked s p k.header k.index equal l c r read same same_pid
        (equals s same (lies_at segment records n lie) ∙ ap (equals_last s.last) (lent ∙ sym own)) made of

    module _ (r : Checked) (checks : Checks k.index s p r) where
      by_record : checked_in k.index records p ≡ (check k.index s p >>= λ t. passed (set records n t))
      by_record = found_at k.index p records n found

      -- the record refuses
      pub counter_refused : (q : Refused) → r.verdict ≡ Err q
          → verdict ≡ refused_by (record { why = q.why; place = k.index })
      unfolding at_place ◌>>=◌
      counter_refused q f =
          ap (at_place k.index) (by_record ∙ ap (λ (v : Verdict StreamRecord). v >>= λ t. passed (set records n t))
          (sym checks.0 ∙ ap (λ (v : Result NoValue Refused). counter_says v (given_back s (check k.index s p))) f))

      -- or is given back, and put in its slot
      pub counter_right : r.verdict ≡ (Ok tt) → (after : Streams) → after ≡ with_last streams n r.stream.last
          → (repeat : Bool) → repeat ≡ last_repeated r.stream.last → Refines (Ok tt) verdict (Says after repeat)
      unfolding at_place ◌>>=◌ last_kept
      counter_right f after put repeat told =
          let t = given_back s (check k.index s p) in
          let gave : check k.index s p ≡ passed t =
          sym checks.0 ∙ ap (λ (v : Result NoValue Refused). counter_says v (given_back s (check k.index s p))) f in
          let new = gives_back k.index s p t gave in
          let its : r.stream.last ≡ last_of t = ap (λ (x : Stream). x.last) checks.1 in
          let pids : t.pid ≡ s.pid = sym (ap (λ (x : StreamRecord). x.pid) new) in
          let first = (look_up_at (pid p) (pids_of records) n found).first in (
            set records n t,
            ap (at_place k.index) (by_record ∙ ap (λ (v : Verdict StreamRecord). v >>= λ x. passed (set records n x)) gave),
            (
              put ∙ ap₂ (λ (x : Streams) (y : Option Last). with_last x n y) kept its ∙ put_kept records n t there few pids,
              told ∙ ap last_repeated (its ∙ ap last_of (sym new)) ∙ ap (λ (x : StreamRecord). x.repeat) new
                  ∙ ap last_repeats (sym (record_put (pid p) records n t there (pids ∙ same_pid)
                  (λ j i z. first j i (pid_at records j ∙ z)))),
            ),
          )
