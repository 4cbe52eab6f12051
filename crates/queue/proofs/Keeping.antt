-- The empty queue is valid with every store, and every operation keeps validity. Assumes nothing.
use Prim.Native.Nat.{ℕ, ◌+◌, ◌≤◌}
use mathlib.Core.Bool.{Bool, false}
use mathlib.Core.Path.{◌≡◌, refl, sym, ap, subst, ◌∙◌}
use mathlib.Core.List.{List, [], ◌∷◌, ◌++◌, map, flatten}
use native.Mathlib.Omega.{arith}
use borrow.Author.Tests.{leb-false}
use lib.Dec.{leb, ltb}
use lib.ListN.{length, drop, length-append, length-take, take-append-drop}
use lib.Seq.{take-append_seam}
use Rattle.lists.specs.Lists.{Bytes, any}
use Rattle.lists.proofs.Tests.{or_neither}
use Rattle.refusal.specs.Verdict.{Verdict, passed, refused, given}
use Rattle.refusal.proofs.Verdicts.{passed_after, given_passed, passed_same}
use Rattle.unit.specs.Unit.{sum}
use Rattle.queue.specs.declared.records.Queue.{Queue}
use Rattle.queue.specs.Queue.{TimedUnit, most_units, queued_bytes, queue_of, unit_wrong, QueueIs, adding, dropping, units_after}
use Rattle.queue.specs.Queue.{store_after, store_with}
use Rattle.queue.specs.Answer.{Added, Dropped, Adds, Drops}

-- few units, each of which could be added, whose bytes were put at the store's front
pub standing : (units : List TimedUnit) (store : Bytes) → length units ≤ most_units → any unit_wrong units ≡ false
    → QueueIs (queue_of units) (store_with units store) units
standing units store few right =
    record {
      holds = refl;
      few = few;
      stands = take-append_seam (queued_bytes units)
          (drop (length (queued_bytes units)) store);
      right = right;
    }

-- the fresh state; after clear and after a send
pub empty_is : (store : Bytes) → QueueIs (queue_of []) store []
unfolding any flatten
empty_is store = record { holds = refl; few = omega arith; stands = refl; right = refl }

any_append : {A : Type 0} (f : A → Bool) (l m : List A) → any f l ≡ false → any f m ≡ false → any f (l ++ m) ≡ false
unfolding any
any_append f [] m e g = g
any_append f (a ∷ l) m e g = let h = or_neither (f a) (any f l) e in rw h.0 (any_append f l m h.1 g)

-- add
module _ (u : TimedUnit) (units after : List TimedUnit) (queue : Queue) (store : Bytes) (q : QueueIs queue store units)
    (e : adding u (length store) units ≡ passed after) where
  abbrev longer : List TimedUnit
  longer = units ++ (u ∷ [])

  tries : (leb most_units (length units) ≡ false) × (unit_wrong u ≡ false) × (ltb (length store) (length (queued_bytes longer)) ≡ false)
      × (longer ≡ after)
  unfolding adding
  tries =
      let a = passed_after (given 50 (leb most_units (length units))) _ after e in
      let b = passed_after (given 51 (unit_wrong u)) _ after a.1 in
      let g = passed_after (given 8 (ltb (length store) (length (queued_bytes longer)))) _ after b.1 in
      (given_passed 50 _ a.0, given_passed 51 _ b.0, given_passed 8 _ g.0, passed_same longer after g.1)

  few_more : length longer ≤ most_units
  few_more = omega (arith, length-append units (u ∷ []), leb-false most_units (length units) tries.0)

  right_more : any unit_wrong longer ≡ false
  unfolding any
  right_more = any_append unit_wrong units (u ∷ []) q.right (rw tries.1)

  pub add_keeps : QueueIs (queue_of after) (store_with after store) after
  add_keeps = rw (← tries.3) (standing longer store few_more right_more)

-- drop
pub drop_keeps : (units : List TimedUnit) (queue : Queue) (store : Bytes) → QueueIs queue store units
    → QueueIs (queue_of (dropping units)) (store_with (dropping units) store) (dropping units)
unfolding dropping any
drop_keeps [] queue store q = standing [] store (omega arith) refl
drop_keeps (u ∷ us) queue store q =
    let few = q.few in
    standing us store (omega arith) (or_neither (unit_wrong u) (any unit_wrong us) q.right).1

-- ---- the theorem by name: what each operation hands back is valid with the store that it leaves, refused or not
-- a queue that is valid is the one of its units
pub as_units : {queue : Queue} {store : Bytes} {units : List TimedUnit} → QueueIs queue store units → QueueIs (queue_of units) store units
as_units q = record { holds = refl; few = q.few; stands = q.stands; right = q.right }

module _ {queue : Queue} {store : Bytes} {units : List TimedUnit} (q : QueueIs queue store units) where
  after_add : (u : TimedUnit) (v : Verdict (List TimedUnit)) → adding u (length store) units ≡ v
      → QueueIs (queue_of (units_after v units)) (store_after v store) (units_after v units)
  unfolding units_after store_after
  after_add u (passed after) e = add_keeps u units after queue store q e
  after_add u (refused number place) e = as_units q

  pub adds_keep : (u : TimedUnit) (r : Added) (after : Bytes) → Adds u units store r after
      → QueueIs r.queue after (units_after (adding u (length store) units) units)
  adds_keep u r after a =
      let v = adding u (length store) units in
      subst (λ (s : Bytes). QueueIs r.queue s (units_after v units)) (sym a.leaves)
      (subst (λ (x : Queue). QueueIs x (store_after v store) (units_after v units)) (sym a.queue) (after_add u v refl))

  pub drops_keep : (r : Dropped) (after : Bytes) → Drops units store r after → QueueIs r.queue after (dropping units)
  drops_keep r after d =
      subst (λ (s : Bytes). QueueIs r.queue s (dropping units)) (sym d.leaves)
      (subst (λ (x : Queue). QueueIs x (store_with (dropping units) store) (dropping units)) (sym d.queue)
      (drop_keeps units queue store q))

-- the units' bytes are in the store
pub bytes_within : {queue : Queue} {store : Bytes} {units : List TimedUnit} → QueueIs queue store units
    → length (queued_bytes units) ≤ length store
bytes_within {queue} {store} {units} q = omega (arith, ap length q.stands, length-take (length (queued_bytes units)) store)

-- where they stand there, putting them there changes nothing
pub unchanged : {queue : Queue} {store : Bytes} {units : List TimedUnit} → QueueIs queue store units → store_with units store ≡ store
unchanged {queue} {store} {units} q =
    ap (λ (w : Bytes). w ++ drop (length (queued_bytes units)) store) (sym q.stands) ∙ take-append-drop (length (queued_bytes units)) store

-- ---- 2026-06: the total is "equal to the sum of the queued lengths"; every operation keeps it so, refused or not, since it keeps validity
bytes_sum : (units : List TimedUnit) → length (queued_bytes units) ≡ sum (map (λ u. length u.carried) units)
unfolding flatten sum
bytes_sum [] = refl
bytes_sum (u ∷ us) = length-append u.carried (queued_bytes us) ∙ ap (λ (n : ℕ). length u.carried + n) (bytes_sum us)

pub total_sum : {queue : Queue} {store : Bytes} {units : List TimedUnit} → QueueIs queue store units
    → queue.total ≡ sum (map (λ u. length u.carried) units)
total_sum {units = units} q = ap (λ (x : Queue). x.total) q.holds ∙ bytes_sum units
