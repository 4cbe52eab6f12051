-- The record of a PID, and the sentence over the PID's packets: the record of a PID that has just been named follows the empty history
-- (`named_follows`); the check gives 24 exactly where the sentence fails after it (`history_follows`, `check_right`, `check_wrong`), and
-- the record given back follows the longer one (`updated_follows`). Assumes nothing.
use Rattle.std.specs.Prelude.{Ok, Err, Option, Some, None}
use Prim.Native.Nat.{ℕ, zero, suc, ◌<◌}
use mathlib.Core.Bool.{Bool, true, false, not, ◌&&◌, ◌||◌, and-false, or-true}
use mathlib.Core.Path.{◌≡◌, refl, sym, ap, ap₂, ◌∙◌, subst}
use mathlib.Core.List.{List, [], ◌∷◌, ◌++◌, map}
use native.Mathlib.Omega.{arith}
use borrow.Author.Tests.{eq-eqb, ne_eqb, eqb-true, eqb-false, not-false}
use lib.Dec.{eqb}
use lib.ListN.{length, get_or, set}
use Rattle.lists.specs.Lists.{Bytes, pick}
use Rattle.lists.proofs.Tests.{apart}
use Rattle.refusal.specs.declared.Refusal.TheVariants as refusals
use Rattle.refusal.specs.Verdict.{Verdict, passed, refused, ◌>>=◌, given}
use Rattle.refusal.proofs.Verdicts.{refuse, pass_on, passed_then, passed_same, passed_after, given_passed, All}
use Rattle.packet.specs.Header.{pid, continuity_counter, has_payload, discontinuity_indicator}
use Rattle.packet.proofs.Headers.{has_place}
use Rattle.packet.specs.declared.counter.Counted.{Counted}
use Rattle.packet.specs.declared.counter.Last.{Last}
use Rattle.packet.specs.declared.counter.Stream.{Stream}
use Rattle.packet.specs.Counter.{StreamRecord, counter_right, named, updated, follows, right_after, check, pids_of}
use Rattle.packet.specs.Counter.{record_of, checked_in, history_after, history, latest, repeats_after, latest_repeats, Follows, equals_last}
use Rattle.packet.specs.Counter.{copy_of, copied, due, repeats, seen, last_kept, last_of, stream_of, stream_after, CountedAs, Checks}

-- ---- the check, from the test
module _ (i : ℕ) (r : StreamRecord) (p : Bytes) where
  pub check_right : follows r p ≡ true → check i r p ≡ passed (updated i r p)
  unfolding check
  check_right e = sym (pass_on 24 (ap not e) refl)

  pub check_wrong : follows r p ≡ false → check i r p ≡ refused 24 0
  unfolding check
  check_wrong e = sym (refuse 24 _ (ap not e))

-- a repeat follows, and so does a packet whose counter is right
module _ (r : StreamRecord) (p : Bytes) where
  pub repeat_follows : repeats r p ≡ true → follows r p ≡ true
  repeat_follows e = ap (λ (b : Bool). counter_right r.last p || b) e ∙ or-true (counter_right r.last p)

  pub right_follows : counter_right r.last p ≡ true → follows r p ≡ true
  right_follows e = ap (λ (b : Bool). b || repeats r p) e

-- ---- the record and the history
-- a PID that has just been named has no history
pub named_follows : (n : ℕ) → Follows (named n) []
unfolding latest latest_repeats
named_follows n = (refl, refl)

-- a copy of the latest, which was none
repeats_after_lem : (earlier : List Bytes) (p : Bytes) → (copy_of (latest earlier) p && not (latest_repeats earlier)) ≡ repeats_after
    earlier p
unfolding latest latest_repeats repeats_after copy_of
repeats_after_lem [] p = rw (and-false (has_payload p && not (discontinuity_indicator p)))
repeats_after_lem (last ∷ earlier) p = refl

module _ (i : ℕ) (r : StreamRecord) (earlier : List Bytes) (p : Bytes) (f : Follows r earlier) where
  -- the record says of a packet what the sentence says after the history
  pub history_follows : follows r p ≡ right_after earlier p
  history_follows = rw (f.0, f.1, repeats_after_lem earlier p)

  -- the record updated follows the history with the packet
  pub updated_follows : Follows (updated i r p) (p ∷ earlier)
  unfolding latest latest_repeats
  updated_follows = (refl, rw (f.0, f.1, repeats_after_lem earlier p))

-- ---- the records of several PIDs
-- the first record of a PID
module _ (n : ℕ) (r : StreamRecord) (records : List StreamRecord) where
  record_here : eqb r.pid n ≡ true → record_of n (r ∷ records) ≡ Some r
  unfolding record_of pick
  record_here e = rw e

  record_behind : eqb r.pid n ≡ false → record_of n (r ∷ records) ≡ record_of n records
  unfolding record_of pick
  record_behind e = rw e

pub some_not_none : {A : Type 0} (a : A) → ◌≡◌ {A = Option A} (Some a) None → ⊥
some_not_none a e = let z : ◌≡◌ {A = ℕ} 0 1 = cc in absurd (omega arith)

pub some_same : {A : Type 0} (a b : A) → ◌≡◌ {A = Option A} (Some a) (Some b) → a ≡ b
some_same a b e = cc

-- the record of PID n after this packet, which has index i, was checked
abbrev pub record_after : ℕ → ℕ → Bytes → Option StreamRecord → Option StreamRecord
record_after i n p None = None
record_after i n p (Some r) = Some (pick (eqb (pid p) n) (updated i r p) r)

-- a packet of another PID
other_after : (i n : ℕ) (p : Bytes) (o : Option StreamRecord) → eqb (pid p) n ≡ false → record_after i n p o ≡ o
unfolding pick
other_after i n p None e = refl
other_after i n p (Some r) e = rw e

-- a check that passed gives back the record updated
pub check_passed : (i : ℕ) (r r' : StreamRecord) (p : Bytes) → check i r p ≡ passed r' → (follows r p ≡ true) × (r' ≡ updated i r p)
unfolding check
check_passed i r r' p e =
    let k = passed_after (given 24 (not (follows r p))) (passed (updated i r p)) r' e in
    (not-false _ (given_passed 24 _ k.0), sym (passed_same _ r' k.1))

module _ (i n : ℕ) (p : Bytes) (r : StreamRecord) (records : List StreamRecord) where
  -- the first record is of the packet's PID
  updated_first : eqb r.pid (pid p) ≡ true → (c : Bool) → eqb r.pid n ≡ c
      → record_of n (updated i r p ∷ records) ≡ record_after i n p (record_of n (r ∷ records))
  unfolding pick
  updated_first hp true hn =
      let e : eqb (pid p) n ≡ true = eq-eqb (pid p) n (sym (eqb-true r.pid (pid p) hp) ∙ eqb-true r.pid n hn) in
      record_here n (updated i r p) records hn
      ∙ sym (ap (λ (o : Option StreamRecord). record_after i n p o) (record_here n r records hn) ∙ rw e)
  updated_first hp false hn =
      let e : eqb (pid p) n ≡ false = ne_eqb (pid p) n (λ k. eqb-false r.pid n hn (eqb-true r.pid (pid p) hp ∙ k)) in
      record_behind n (updated i r p) records hn
      ∙ sym (ap (λ (o : Option StreamRecord). record_after i n p o) (record_behind n r records hn)
      ∙ other_after i n p (record_of n records) e)

  -- it is of another, and those behind it are as they should be
  updated_behind : eqb r.pid (pid p) ≡ false → (after : List StreamRecord) → record_of n after ≡ record_after i n p (record_of n records)
      → (c : Bool) → eqb r.pid n ≡ c → record_of n (r ∷ after) ≡ record_after i n p (record_of n (r ∷ records))
  unfolding pick
  updated_behind hp after k true hn =
      let e : eqb (pid p) n
      ≡ false = ne_eqb (pid p) n (λ (z : pid p ≡ n). eqb-false r.pid (pid p) hp (eqb-true r.pid n hn ∙ sym z)) in
      record_here n r after hn ∙ sym (ap (λ (o : Option StreamRecord). record_after i n p o) (record_here n r records hn) ∙ rw e)
  updated_behind hp after k false hn =
      record_behind n r after hn ∙ k ∙ sym (ap (λ (o : Option StreamRecord). record_after i n p o) (record_behind n r records hn))

-- a packet's check updates the record of its PID, and no other
pub checked_record : (i n : ℕ) (p : Bytes) (records after : List StreamRecord) → checked_in i records p ≡ passed after
    → record_of n after ≡ record_after i n p (record_of n records)
unfolding checked_in pick record_of
checked_record i n p [] after e = ap (record_of n) (sym (passed_same [] after e))
checked_record i n p (r ∷ records) after e = go (λ t k. checked_record i n p records t k) (eqb r.pid (pid p)) refl e
  where
    go : ((t : List StreamRecord) → checked_in i records p ≡ passed t → record_of n t ≡ record_after i n p (record_of n records))
        → (b : Bool) → eqb r.pid (pid p) ≡ b
        → pick b (check i r p >>= λ r'. passed (r' ∷ records)) (checked_in i records p >>= λ records'. passed (r ∷ records')) ≡ passed after
        → record_of n after ≡ record_after i n p (record_of n (r ∷ records))
    go more true hb k =
        let q = passed_then (check i r p) (λ r'. passed (r' ∷ records)) after k in
        let u = check_passed i r q.0 p q.1 in
        ap (record_of n) (sym (passed_same (q.0 ∷ records) after q.2) ∙ ap (λ (t : StreamRecord). t ∷ records) u.1)
        ∙ updated_first i n p r records hb (eqb r.pid n) refl
    go more false hb k =
        let q = passed_then (checked_in i records p) (λ records'. passed (r ∷ records')) after k in
        ap (record_of n) (sym (passed_same (r ∷ q.0) after q.2))
        ∙ updated_behind i n p r records hb q.0 (more q.0 q.1) (eqb r.pid n) refl

-- and names no PID
pub checked_pids : (i : ℕ) (p : Bytes) (records after : List StreamRecord)
    → checked_in i records p ≡ passed after → pids_of after ≡ pids_of records
unfolding checked_in pick
checked_pids i p [] after e = ap pids_of (sym (passed_same [] after e))
checked_pids i p (r ∷ records) after e = go (λ t k. checked_pids i p records t k) (eqb r.pid (pid p)) e
  where
    go : ((t : List StreamRecord) → checked_in i records p ≡ passed t → pids_of t ≡ pids_of records) → (b : Bool)
        → pick b (check i r p >>= λ r'. passed (r' ∷ records)) (checked_in i records p >>= λ records'. passed (r ∷ records')) ≡ passed after
        → pids_of after ≡ pids_of (r ∷ records)
    go more true k =
        let q = passed_then (check i r p) (λ r'. passed (r' ∷ records)) after k in
        ap pids_of (sym (passed_same (q.0 ∷ records) after q.2))
        ∙ ap (λ (t : StreamRecord). t.pid ∷ pids_of records) (check_passed i r q.0 p q.1).1
    go more false k =
        let q = passed_then (checked_in i records p) (λ records'. passed (r ∷ records')) after k in
        ap pids_of (sym (passed_same (r ∷ q.0) after q.2)) ∙ ap (λ (l : List ℕ). r.pid ∷ l) (more q.0 q.1)

-- a PID that none of the records has
pub no_record : (n : ℕ) (records : List StreamRecord) → All (λ m. eqb m n ≡ false) (pids_of records) → record_of n records ≡ None
unfolding record_of pick
no_record n [] h = refl
no_record n (r ∷ records) h = rw h.0 (no_record n records h.1)

-- on a PID that has no record there is nothing to check
pub unrecorded : (i : ℕ) (p : Bytes) (records : List StreamRecord) → record_of (pid p) records ≡ None
    → checked_in i records p ≡ passed records
unfolding checked_in pick record_of ◌>>=◌
unrecorded i p [] e = refl
unrecorded i p (r ∷ records) e = go (λ k. unrecorded i p records k) (eqb r.pid (pid p)) e
  where
    go : (record_of (pid p) records ≡ None → checked_in i records p ≡ passed records) → (b : Bool)
        → pick b (Some r) (record_of (pid p) records) ≡ None
        → pick b (check i r p >>= λ r'. passed (r' ∷ records)) (checked_in i records p >>= λ records'. passed (r ∷ records'))
        ≡ passed (r ∷ records)
    go more true k = absurd (some_not_none r k)
    go more false k = rw (more k)

-- 24 is given exactly where the counter is wrong after the PID's last packet
pub wrong_refused : (i : ℕ) (p : Bytes) (r : StreamRecord) (records : List StreamRecord)
    → record_of (pid p) records ≡ Some r → follows r p ≡ false → checked_in i records p ≡ refused 24 0
unfolding checked_in pick record_of ◌>>=◌
wrong_refused i p r [] e w = absurd (some_not_none r (sym e))
wrong_refused i p r (s ∷ records) e w = go (λ k. wrong_refused i p r records k w) (eqb s.pid (pid p)) e
  where
    go : (record_of (pid p) records ≡ Some r → checked_in i records p ≡ refused 24 0) → (b : Bool)
        → pick b (Some s) (record_of (pid p) records) ≡ Some r
        → pick b (check i s p >>= λ r'. passed (r' ∷ records)) (checked_in i records p >>= λ records'. passed (s ∷ records')) ≡ refused 24 0
    go more true k = rw (some_same s r k, check_wrong i r p w)
    go more false k = rw (more k)

pub right_passes : (i : ℕ) (p : Bytes) (r : StreamRecord) (records : List StreamRecord)
    → record_of (pid p) records ≡ Some r → follows r p ≡ true → (after : List StreamRecord) × (checked_in i records p ≡ passed after)
unfolding checked_in pick record_of ◌>>=◌
right_passes i p r [] e w = absurd (some_not_none r (sym e))
right_passes i p r (s ∷ records) e w = go (λ k. right_passes i p r records k w) (eqb s.pid (pid p)) e
  where
    go : (record_of (pid p) records ≡ Some r → (after : List StreamRecord) × (checked_in i records p ≡ passed after)) → (b : Bool)
        → pick b (Some s) (record_of (pid p) records) ≡ Some r → (after : List StreamRecord)
        × (pick b (check i s p >>= λ r'. passed (r' ∷ records)) (checked_in i records p >>= λ records'. passed (s ∷ records'))
        ≡ passed after)
    go more true k = (updated i r p ∷ records, rw (some_same s r k, check_right i r p w))
    go more false k = let q = more k in (s ∷ q.0, rw q.1)

-- the check by the record in a slot, which is the first of the packet's PID
pub checked_at : (i : ℕ) (p : Bytes) (records : List StreamRecord) (k : ℕ) (d : StreamRecord) → k < length records
    → (get_or records k d).pid ≡ pid p
    → ((j : ℕ) → j < k → (get_or records j d).pid ≡ pid p → ⊥)
    → checked_in i records p ≡ (check i (get_or records k d) p >>= λ r. passed (set records k r))
unfolding checked_in pick ◌>>=◌
checked_at i p [] k d h e f = absurd (omega arith)
checked_at i p (r ∷ records) zero d h e f = rw (eq-eqb r.pid (pid p) e)
checked_at i p (r ∷ records) (suc k) d h e f =
    rw (ne_eqb r.pid (pid p) (f 0 (omega arith)))
    (ap (λ (v : Verdict (List StreamRecord)). v >>= λ records'. passed (r ∷ records'))
    (checked_at i p records k d (omega arith) e (λ j i. f (suc j) (omega arith)))
    ∙ go (check i (get_or records k d) p))
  where
    go : (v : Verdict StreamRecord)
        → ((v >>= λ t. passed (set records k t)) >>= λ records'. passed (r ∷ records')) ≡ (v >>= λ t. passed (r ∷ set records k t))
    go (passed t) = refl
    go (refused number place) = refl

-- ---- one packet more
pub history_next : (earlier : List Bytes) (n : ℕ) (ps : List Bytes) (p : Bytes)
    → history_after earlier n (ps ++ (p ∷ [])) ≡ pick (eqb (pid p) n) (p ∷ history_after earlier n ps) (history_after earlier n ps)
unfolding history_after
history_next earlier n [] p = refl
history_next earlier n (q ∷ ps) p = history_next (pick (eqb (pid q) n) (q ∷ earlier) earlier) n ps p

-- the record that the check gives back follows the history with the packet
pub follows_next : (i n : ℕ) (r : StreamRecord) (ps : List Bytes) (p : Bytes) → Follows r (history n ps)
    → Follows (pick (eqb (pid p) n) (updated i r p) r) (history n (ps ++ (p ∷ [])))
unfolding pick
follows_next i n r ps p f = subst (Follows (pick (eqb (pid p) n) (updated i r p) r)) (sym (history_next [] n ps p)) (go (eqb (pid p) n))
  where
    go : (b : Bool) → Follows (pick b (updated i r p) r) (pick b (p ∷ history n ps) (history n ps))
    go true = updated_follows i r (history n ps) p f
    go false = f

-- ---- PIDs that are named
-- a PID that has a record keeps it
pub kept_record : (n : ℕ) (records new : List StreamRecord) (r : StreamRecord) → record_of n records ≡ Some r
    → record_of n (records ++ new) ≡ Some r
unfolding record_of pick
kept_record n [] new r e = absurd (some_not_none r (sym e))
kept_record n (s ∷ records) new r e = go (λ k. kept_record n records new r k) (eqb s.pid n) e
  where
    go : (record_of n records ≡ Some r → record_of n (records ++ new) ≡ Some r) → (b : Bool) → pick b (Some s) (record_of n records) ≡ Some
        r
        → pick b (Some s) (record_of n (records ++ new)) ≡ Some r
    go more true k = k
    go more false k = more k

-- another has the one that it is named with
pub new_record : (n : ℕ) (records new : List StreamRecord) → record_of n records ≡ None → record_of n (records ++ new) ≡ record_of n new
unfolding record_of pick
new_record n [] new e = refl
new_record n (s ∷ records) new e = go (λ k. new_record n records new k) (eqb s.pid n) e
  where
    go : (record_of n records ≡ None → record_of n (records ++ new) ≡ record_of n new) → (b : Bool)
        → pick b (Some s) (record_of n records) ≡ None → pick b (Some s) (record_of n (records ++ new)) ≡ record_of n new
    go more true k = absurd (some_not_none s k)
    go more false k = more k

pub named_record : (n : ℕ) (r : StreamRecord) (pids : List ℕ) → record_of n (map named pids) ≡ Some r → r ≡ named n
unfolding record_of pick
named_record n r [] e = absurd (some_not_none r (sym e))
named_record n r (m ∷ pids) e = go (λ k. named_record n r pids k) (eqb m n) refl e
  where
    go : (record_of n (map named pids) ≡ Some r → r ≡ named n) → (b : Bool) → eqb m n ≡ b
        → pick b (Some (named m)) (record_of n (map named pids)) ≡ Some r → r ≡ named n
    go more true h k = sym (some_same (named m) r k) ∙ ap named (eqb-true m n h)
    go more false h k = more k

-- ---- the code's record
module _ (s : Stream) (c : Counted) (r : StreamRecord) (p : Bytes) (stands : s ≡ stream_of r) (reads : CountedAs r p c) where
  same_last : s.last ≡ last_of r
  same_last = ap (λ (t : Stream). t.last) stands

  -- no packet was seen
  module _ (e : s.last ≡ None) where
    none_seen : r.last ≡ None
    unfolding last_kept
    none_seen = go r.last (sym same_last ∙ e)
      where
        go : (o : Option Bytes) → last_kept o r.lies r.repeat ≡ None → o ≡ None
        go None k = refl
        go (Some q) k = apart (cc)

    pub unseen_repeats : false ≡ repeats r p
    unfolding copy_of
    unseen_repeats = sym (rw (none_seen, and-false (has_payload p && not (discontinuity_indicator p))) refl)

    pub unseen_follows : true ≡ counter_right r.last p
    unfolding counter_right
    unseen_follows = rw none_seen refl

  -- one was: the parts of the sentence
  module _ (l : Last) (e : s.last ≡ Some l) where
    one_seen : (q : Bytes) × (r.last ≡ Some q) × (l.counter ≡ continuity_counter q) × (l.repeat ≡ r.repeat)
    unfolding last_kept
    one_seen = go r.last (sym same_last ∙ e)
      where
        go : (o : Option Bytes) → last_kept o r.lies r.repeat ≡ Some l
            → (q : Bytes) × (o ≡ Some q) × (l.counter ≡ continuity_counter q) × (l.repeat ≡ r.repeat)
        go None k = apart (cc)
        go (Some q) k =
            let z = some_same (record { counter = continuity_counter q; index = r.lies; repeat = r.repeat }) l k in
            (q, refl, sym (ap (λ (x : Last). x.counter) z), sym (ap (λ (x : Last). x.repeat) z))

    pub seen_follows : counter_right r.last p ≡ (c.discontinuity || eqb c.counter (due l.counter c.payload))
    unfolding counter_right
    seen_follows =
        let k = one_seen in
        ap (λ (o : Option Bytes). counter_right o p) k.1
        ∙ ap₂ (λ (m : ℕ) (b : Bool). discontinuity_indicator p || eqb (continuity_counter p) (due m b)) (sym k.2) (has_place p)
        ∙ ap (λ (d : Counted). d.discontinuity || eqb d.counter (due l.counter d.payload)) (sym reads)

    parts : repeats r p ≡ (copied c && not l.repeat)
    unfolding copy_of
    parts =
        ap (λ (b : Bool). copy_of r.last p && not b) (sym one_seen.3)
        ∙ ap (λ (b : Bool). b && not (discontinuity_indicator p) && equals_last r.last p && not l.repeat) (has_place p)
        ∙ ap (λ (d : Counted). copied d && not l.repeat) (sym reads)

    pub no_copy_repeats : copied c ≡ false → false ≡ repeats r p
    no_copy_repeats h = sym (parts ∙ rw h)

    pub copy_repeats : copied c ≡ true → not l.repeat ≡ repeats r p
    copy_repeats h = sym (parts ∙ rw h)

  -- ---- the answer
  -- the record after the packet
  after_stands : (repeat : Bool) → repeat ≡ repeats r p → stream_after s c repeat ≡ stream_of (updated c.index r p)
  unfolding last_kept
  after_stands repeat e =
      ap (λ (t : Stream). stream_after t c repeat) stands
      ∙ ap (λ (n : ℕ). record { pid = r.pid; last = seen n c.index repeat }) (ap (λ (d : Counted). d.counter) reads)
      ∙ ap (λ (b : Bool). record { pid = r.pid; last = seen (continuity_counter p) c.index b }) e

  pub right_checks : (repeat : Bool) → repeat ≡ repeats r p → follows r p ≡ true
      → Checks c.index r p (record { stream = stream_after s c repeat; verdict = (Ok tt) })
  right_checks repeat k e = rw (check_right c.index r p e) (refl, after_stands repeat k)

  pub wrong_checks : repeats r p ≡ false → counter_right r.last p ≡ false
      → Checks c.index r p (record { stream = s; verdict = Err (record { why = refusals.ContinuityCounter; place = 0 }) })
  wrong_checks k e = rw (check_wrong c.index r p (ap (λ (b : Bool). b || repeats r p) e ∙ k)) (refl, stands)
