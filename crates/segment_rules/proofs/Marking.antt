-- The records of a run in which a copy has come behind its original: they are those without the copy, but for the record of the copy's PID,
-- which has the copy as its last packet and says that it was a repeat (`mark`), until the next packet of that PID comes. The two runs are
-- compared without where the packets lie, which is 0 in all records here (`said`, Alike.antt). Assumes nothing.
use Rattle.std.specs.Prelude.{Option, Some, None}
use Prim.Native.Nat.{ℕ}
use mathlib.Core.Bool.{Bool, true, false, not, ◌&&◌, ◌||◌, and-false, or-true, or-false}
use mathlib.Core.Path.{◌≡◌, refl, sym, ap, ◌∙◌}
use mathlib.Core.List.{List, [], ◌∷◌, ◌++◌}
use native.Mathlib.Omega.{arith}
use borrow.Author.Tests.{eq-eqb, eqb-true}
use lib.Dec.{eqb}
use Rattle.lists.specs.Lists.{Bytes, pick}
use Rattle.lists.proofs.Tests.{case, and_both}
use Rattle.refusal.specs.Verdict.{Verdict, passed, refused, ◌>>=◌}
use Rattle.refusal.proofs.Verdicts.{passed_then}
use Rattle.packet.specs.Header.{pid, continuity_counter, has_payload, discontinuity_indicator}
use Rattle.packet.specs.Counter.{StreamRecord, due, counter_right, bytes_same, copy_of, repeats, updated, follows, check, record_of}
use Rattle.packet.specs.Counter.{checked_in}
use Rattle.packet.proofs.Counters.{check_right, check_wrong, check_passed, some_not_none, some_same}
use Rattle.packet.proofs.Copies.{same_front, copy_not_due}
use Rattle.segment_rules.proofs.Sequence.{bind_assoc, bind_where, bind_same}

-- a packet p, and p' that is a copy of it
module _ (p p' : Bytes) (copies : copy_of (Some p) p' ≡ true) where
  equal : bytes_same p p' ≡ true
  unfolding copy_of
  equal = (and_both (has_payload p' && not (discontinuity_indicator p')) (bytes_same p p') copies).1

  -- it has the PID and the counter of its original
  pub same_pid : pid p' ≡ pid p
  same_pid =
      let one = same_front p p' equal 1 (omega arith) in
      let two = same_front p p' equal 2 (omega arith) in
      rw (one, two)

  pub same_counter : continuity_counter p' ≡ continuity_counter p
  same_counter = let three = same_front p p' equal 3 (omega arith) in rw three

  -- the record of the PID after the original, and after the copy
  abbrev pub after_original : StreamRecord
  after_original = record { pid = pid p; last = Some p; lies = 0; repeat = false }

  abbrev pub after_copy : StreamRecord
  after_copy = record { pid = pid p; last = Some p'; lies = 0; repeat = true }

  unfoldable pub mark : List StreamRecord → List StreamRecord
  mark [] = []
  mark (r ∷ records) = pick (eqb r.pid (pid p)) (after_copy ∷ records) (r ∷ mark records)

  -- the copy's check marks the record of its PID
  repeats_it : repeats after_original p' ≡ true
  repeats_it = rw copies

  check_copy : check 0 after_original p' ≡ passed after_copy
  check_copy =
      check_right 0 after_original p'
      (ap (λ (b : Bool). counter_right (Some p) p' || b) repeats_it ∙ or-true (counter_right (Some p) p'))
      ∙ ap (λ (b : Bool). passed (record { pid = pid p; last = Some p'; lies = 0; repeat = b })) repeats_it

  pub copy_checked : (records : List StreamRecord) → record_of (pid p) records ≡ Some after_original
      → checked_in 0 records p' ≡ passed (mark records)
  unfolding checked_in record_of mark pick ◌>>=◌
  copy_checked [] e = absurd (some_not_none after_original (sym e))
  copy_checked (r ∷ records) e =
      ap (λ (n : ℕ). pick (eqb r.pid n) (check 0 r p' >>= λ r'. passed (r' ∷ records))
      (checked_in 0 records p' >>= λ records'. passed (r ∷ records')))
      same_pid
      ∙ go (eqb r.pid (pid p)) e (copy_checked records)
    where
      go : (b : Bool) → pick b (Some r) (record_of (pid p) records) ≡ Some after_original
          → (record_of (pid p) records ≡ Some after_original → checked_in 0 records p' ≡ passed (mark records))
          → pick b (check 0 r p' >>= λ r'. passed (r' ∷ records)) (checked_in 0 records p' >>= λ records'. passed (r ∷ records'))
          ≡ passed (pick b (after_copy ∷ records) (r ∷ mark records))
      go true k more = rw (some_same r after_original k, check_copy)
      go false k more = rw (more k)

  -- ---- the records after the copy
  -- those of other PIDs are as they were
  pub mark_other : (n : ℕ) (records : List StreamRecord) → eqb (pid p) n ≡ false → record_of n (mark records) ≡ record_of n records
  unfolding record_of mark pick
  mark_other n [] e = refl
  mark_other n (r ∷ records) e = go (eqb r.pid (pid p)) refl (mark_other n records e)
    where
      go : (b : Bool) → eqb r.pid (pid p) ≡ b → record_of n (mark records) ≡ record_of n records
          → record_of n (pick b (after_copy ∷ records) (r ∷ mark records)) ≡ pick (eqb r.pid n) (Some r) (record_of n records)
      go true h more =
          let off : eqb r.pid n ≡ false = ap (λ (m : ℕ). eqb m n) (eqb-true r.pid (pid p) h) ∙ e in
          rw (e, off)
      go false h more = ap (λ (o : Option StreamRecord). pick (eqb r.pid n) (Some r) o) more

  -- that of the copy's PID
  pub mark_own : (records : List StreamRecord) (r : StreamRecord) → record_of (pid p) records ≡ Some r
      → record_of (pid p) (mark records) ≡ Some after_copy
  unfolding record_of mark pick
  mark_own [] r e = absurd (some_not_none r (sym e))
  mark_own (s ∷ records) r e = go (eqb s.pid (pid p)) refl e (mark_own records r)
    where
      own : eqb (pid p) (pid p) ≡ true
      own = eq-eqb (pid p) (pid p) refl

      go : (b : Bool) → eqb s.pid (pid p) ≡ b → pick b (Some s) (record_of (pid p) records) ≡ Some r
          → (record_of (pid p) records ≡ Some r → record_of (pid p) (mark records) ≡ Some after_copy)
          → record_of (pid p) (pick b (after_copy ∷ records) (s ∷ mark records)) ≡ Some after_copy
      go true h k more = rw own
      go false h k more = rw h (more k)

  -- PIDs that are named
  pub mark_append : (records new : List StreamRecord) (r : StreamRecord) → record_of (pid p) records ≡ Some r
      → mark (records ++ new) ≡ mark records ++ new
  unfolding record_of mark pick
  mark_append [] new r e = absurd (some_not_none r (sym e))
  mark_append (s ∷ records) new r e = go (eqb s.pid (pid p)) e (mark_append records new r)
    where
      go : (b : Bool) → pick b (Some s) (record_of (pid p) records) ≡ Some r
          → (record_of (pid p) records ≡ Some r → mark (records ++ new) ≡ mark records ++ new)
          → pick b (after_copy ∷ (records ++ new)) (s ∷ mark (records ++ new)) ≡ pick b (after_copy ∷ records) (s ∷ mark records) ++ new
      go true k more = refl
      go false k more = ap (λ (l : List StreamRecord). s ∷ l) (more k)

  -- ---- a later packet
  -- of another PID: the check goes on as without the copy
  mark_behind : (r : StreamRecord) (records : List StreamRecord) → eqb r.pid (pid p) ≡ false → mark (r ∷ records) ≡ r ∷ mark records
  unfolding mark pick
  mark_behind r records e = rw e

  mark_here : (r : StreamRecord) (records : List StreamRecord) → eqb r.pid (pid p) ≡ true → mark (r ∷ records) ≡ after_copy ∷ records
  unfolding mark pick
  mark_here r records e = rw e

  -- the check of the first of these records, or of those behind it
  first_check : (r : StreamRecord) (records : List StreamRecord) (q : Bytes) → eqb r.pid (pid q) ≡ true
      → checked_in 0 (r ∷ records) q ≡ (check 0 r q >>= λ r'. passed (r' ∷ records))
  unfolding checked_in pick
  first_check r records q e = rw e

  behind_check : (r : StreamRecord) (records : List StreamRecord) (q : Bytes) → eqb r.pid (pid q) ≡ false
      → checked_in 0 (r ∷ records) q ≡ (checked_in 0 records q >>= λ records'. passed (r ∷ records'))
  unfolding checked_in pick
  behind_check r records q e = rw e

  none_checked : (q : Bytes) → checked_in 0 (mark []) q ≡ (checked_in 0 [] q >>= λ after. passed (mark after))
  unfolding checked_in mark ◌>>=◌
  none_checked q = refl

  pub other_checked : (q : Bytes) (records : List StreamRecord) → eqb (pid p) (pid q) ≡ false
      → checked_in 0 (mark records) q ≡ (checked_in 0 records q >>= λ after. passed (mark after))
  unfolding ◌>>=◌
  other_checked q [] e = none_checked q
  other_checked q (r ∷ records) e =
      case (eqb r.pid (pid p))
      (λ b. let off : eqb r.pid (pid q) ≡ false = ap (λ (m : ℕ). eqb m (pid q)) (eqb-true r.pid (pid p) b) ∙ e in
      ap (λ (l : List StreamRecord). checked_in 0 l q) (mark_here r records b)
      ∙ behind_check after_copy records q e
      ∙ bind_same (checked_in 0 records q) _ _ (λ l. ap passed (sym (mark_here r l b)))
      ∙ sym (bind_assoc (checked_in 0 records q) (λ l. passed (r ∷ l)) (λ l. passed (mark l)))
      ∙ sym (ap (λ (v : Verdict (List StreamRecord)). v >>= λ l. passed (mark l)) (behind_check r records q off)))
      (λ b. ap (λ (l : List StreamRecord). checked_in 0 l q) (mark_behind r records b)
      ∙ case (eqb r.pid (pid q))
      (λ on. first_check r (mark records) q on
      ∙ bind_where (check 0 r q) _ _
      (λ r' k. ap passed (sym (mark_behind r' records (ap (λ (s : StreamRecord). eqb s.pid (pid p)) (check_passed 0 r r' q k).1 ∙ b))))
      ∙ sym (bind_assoc (check 0 r q) (λ r'. passed (r' ∷ records)) (λ l. passed (mark l)))
      ∙ sym (ap (λ (v : Verdict (List StreamRecord)). v >>= λ l. passed (mark l)) (first_check r records q on)))
      (λ off. behind_check r (mark records) q off
      ∙ ap (λ (v : Verdict (List StreamRecord)). v >>= λ l. passed (r ∷ l)) (other_checked q records e)
      ∙ bind_assoc (checked_in 0 records q) (λ l. passed (mark l)) (λ l. passed (r ∷ l))
      ∙ bind_same (checked_in 0 records q) _ _ (λ l. ap passed (sym (mark_behind r l b)))
      ∙ sym (bind_assoc (checked_in 0 records q) (λ l. passed (r ∷ l)) (λ l. passed (mark l)))
      ∙ sym (ap (λ (v : Verdict (List StreamRecord)). v >>= λ l. passed (mark l)) (behind_check r records q off))))

  -- the record of the PID is the first, or behind it
  none_there : record_of (pid p) [] ≡ None
  unfolding record_of
  none_there = refl

  record_first : (r : StreamRecord) (records : List StreamRecord) → eqb r.pid (pid p) ≡ true → record_of (pid p) (r ∷ records) ≡ Some r
  unfolding record_of pick
  record_first r records e = rw e

  record_behind : (r : StreamRecord) (records : List StreamRecord) → eqb r.pid (pid p) ≡ false
      → record_of (pid p) (r ∷ records) ≡ record_of (pid p) records
  unfolding record_of pick
  record_behind r records e = rw e

  -- of the same PID, no copy of the original: then the records are the same again
  check_next : (q : Bytes) → copy_of (Some p) q ≡ false → follows after_original q ≡ true
      → check 0 after_copy q ≡ passed (updated 0 after_original q)
  unfolding counter_right
  check_next q f h =
      let no_repeat : repeats after_original q ≡ false = rw f in
      let in_step : counter_right (Some p) q ≡ true =
      sym (or-false (counter_right (Some p) q)) ∙ ap (λ (b : Bool). counter_right (Some p) q || b) (sym no_repeat) ∙ h in
      let so : counter_right (Some p') q ≡ true =
      ap (λ (n : ℕ). discontinuity_indicator q || eqb (continuity_counter q) (due n (has_payload q))) same_counter ∙ in_step in
      check_right 0 after_copy q (ap (λ (b : Bool). b || repeats after_copy q) so)
      ∙ ap (λ (b : Bool). passed (record { pid = pid p; last = Some q; lies = 0; repeat = b }))
      (and-false (copy_of (Some p') q) ∙ sym no_repeat)

  pub next_checked : (q : Bytes) (records after : List StreamRecord) → pid q ≡ pid p → copy_of (Some p) q ≡ false
      → record_of (pid p) records ≡ Some after_original → checked_in 0 records q ≡ passed after → checked_in 0 (mark records) q ≡ passed
      after
  unfolding ◌>>=◌
  next_checked q [] after e f h k = absurd (some_not_none after_original (sym (sym none_there ∙ h)))
  next_checked q (r ∷ records) after e f h k =
      case (eqb r.pid (pid p))
      (λ b. let on : eqb r.pid (pid q) ≡ true = ap (λ (m : ℕ). eqb r.pid m) e ∙ b in
      let r-is : r ≡ after_original = some_same r after_original (sym (record_first r records b) ∙ h) in
      let c = passed_then (check 0 r q) (λ r'. passed (r' ∷ records)) after (sym (first_check r records q on) ∙ k) in
      let u = check_passed 0 r c.0 q c.1 in
      let right : follows after_original q ≡ true = ap (λ (s : StreamRecord). follows s q) (sym r-is) ∙ u.0 in
      let own : eqb (pid p) (pid q) ≡ true = eq-eqb (pid p) (pid q) (sym e) in
      ap (λ (l : List StreamRecord). checked_in 0 l q) (mark_here r records b)
      ∙ first_check after_copy records q own
      ∙ ap (λ (v : Verdict StreamRecord). v >>= λ r'. passed (r' ∷ records)) (check_next q f right)
      ∙ ap (λ (s : StreamRecord). passed (s ∷ records)) (ap (λ (s : StreamRecord). updated 0 s q) (sym r-is) ∙ sym u.1)
      ∙ c.2)
      (λ b. let off : eqb r.pid (pid q) ≡ false = ap (λ (m : ℕ). eqb r.pid m) e ∙ b in
      let c = passed_then (checked_in 0 records q) (λ l. passed (r ∷ l)) after (sym (behind_check r records q off) ∙ k) in
      ap (λ (l : List StreamRecord). checked_in 0 l q) (mark_behind r records b)
      ∙ behind_check r (mark records) q off
      ∙ ap (λ (v : Verdict (List StreamRecord)). v >>= λ l. passed (r ∷ l))
      (next_checked q records c.0 e f (sym (record_behind r records b) ∙ h) c.1)
      ∙ c.2)

  -- "A third copy is 24.", wherever the copies lie
  pub third_refused : (q : Bytes) → copy_of (Some p') q ≡ true → (i lies : ℕ)
      → check i (record { pid = pid p; last = Some p'; lies = lies; repeat = true }) q ≡ refused 24 0
  third_refused q e i lies =
      check_wrong i (record { pid = pid p; last = Some p'; lies = lies; repeat = true }) q
      (ap (λ (b : Bool). b || repeats after_copy q) (copy_not_due p' q e) ∙ and-false (copy_of (Some p') q))
