-- What add and drop leave, by the way that each takes. Assumes nothing.
use Rattle.std.specs.Prelude.{Result, Ok, Err, is_err}
use Prim.Native.Nat.{ℕ, ◌+◌, ◌-◌, ◌≤◌, ◌<◌}
use mathlib.Core.Bool.{true, false, true≢false}
use mathlib.Core.Path.{◌≡◌, refl, sym, ap, ap₂, subst, ◌∙◌}
use mathlib.Core.List.{List, [], ◌∷◌, ◌++◌, flatten, append_assoc}
use native.Mathlib.Omega.{arith}
use borrow.Author.Tests.{le-leb, lt-leb, lt-ltb, le-ltb}
use lib.ListN.{length, take, drop, get_or, length-append}
use lib.Seq.{drop-drop, drop-append_seam}
use Rattle.lists.specs.Lists.{Bytes, over, placed}
use Rattle.lists.proofs.Parts.{drop_take}
use Rattle.refusal.specs.declared.Refusal.{Refusal}
use Rattle.refusal.specs.declared.Refusal.TheVariants as refusals
use Rattle.refusal.specs.Number.{number_of, says}
use Rattle.refusal.specs.declared.Refused.{Refused}
use Rattle.refusal.specs.Verdict.{Verdict, passed, refused, ◌>>=◌, ◌>>◌}
use Rattle.refusal.proofs.Verdicts.{refuse, pass_on, passed_then}
use Rattle.unit.specs.Unit.{read_unit}
use Rattle.unit.specs.Answer.{checking}
use Rattle.unit.specs.declared.reading.Counts.{Counts}
use Rattle.queue.specs.declared.records.Queued.{Queued}
use Rattle.queue.specs.declared.records.Queue.{Queue}
use Rattle.queue.specs.Queue.{TimedUnit, most_units, queued_bytes, record_of, slots, queue_of, is_refused}
use Rattle.queue.specs.Queue.{unit_wrong, QueueIs, adding, is_empty, dropping, units_after, store_after, store_with}
use Rattle.queue.specs.Answer.{Added, Adds, Drops}
use Rattle.queue.specs.Parts.{with_record, without_first}
use Rattle.queue.proofs.Keeping.{bytes_within}
use Rattle.queue.proofs.Slots.{more_bytes, one_more, first_gone}

-- ---- 51, by what reading and the times say
unread : {A B : Type 0} (v : Verdict A) (f : A → Verdict B) (number place : ℕ) → (v >>= f) ≡ refused number place
    → ((a : A) → is_refused (f a) ≡ false) → is_refused v ≡ true
unfolding is_refused ◌>>=◌
unread (passed a) f number place e k = absurd (true≢false (sym (ap is_refused e) ∙ k a))
unread (refused n p) f number place e k = refl

is_read : (unit : Bytes) (c : Counts) → checking unit ≡ passed c → is_refused (read_unit unit) ≡ false
unfolding checking is_refused
is_read unit c e = let h = passed_then (read_unit unit) _ c e in ap is_refused h.1

pub reading_fails : (unit : Bytes) (r : Result Counts Refused) → says r ≡ checking unit → is_err r ≡ is_refused (read_unit unit)
unfolding checking is_refused
reading_fails unit (Ok c) e = sym (is_read unit c (sym e))
reading_fails unit (Err q) e = sym (unread (read_unit unit) _ (number_of q.why) q.place (sym e) (λ l. refl))

-- bytes put behind those at the front
put_behind : (w v store : Bytes) (n : ℕ) → n ≡ length w → take n store ≡ w → placed store n v ≡ over (w ++ v) store
put_behind w v store n e t =
    ap₂ (λ (x y : Bytes). x ++ (v ++ drop (length v) y)) t refl
    ∙ ap (λ (x : Bytes). w ++ (v ++ x)) (drop-drop (length v) n store
    ∙ ap (λ (k : ℕ). drop k store) (ap (λ (k : ℕ). k + length v) e ∙ sym (length-append w v)))
    ∙ sym (append_assoc w v (drop (length (w ++ v)) store))

-- what stands behind the first of two strings at the front
behind_first : (w v store : Bytes) → take (length (w ++ v)) store ≡ w ++ v → take (length v) (drop (length w) store) ≡ v
behind_first w v store e =
    let n : length (w ++ v) ≡ length w + length v = length-append w v in
    let d : length (w ++ v) - length w ≡ length v = omega arith in
    ap (λ (k : ℕ). take k (drop (length w) store)) (sym d) ∙ sym (drop_take (length w) (length (w ++ v)) store (omega arith))
    ∙ ap (drop (length w)) e ∙ drop-append_seam w v

module _ {queue : Queue} {store : Bytes} {units : List TimedUnit} (q : QueueIs queue store units) where
  pub counts : queue.count ≡ length units
  counts = ap (λ (x : Queue). x.count) q.holds

  pub totals : queue.total ≡ length (queued_bytes units)
  totals = ap (λ (x : Queue). x.total) q.holds

  pub total_within : queue.total ≤ length store
  total_within = omega (arith, totals, bytes_within q)

  -- ---- add
  module _ (u : TimedUnit) where
    -- a refusal, and the queue as it was
    abbrev refusing : Refused → Added
    refusing r = record { answer = Err r; queue = queue }

    refused_by_lem : (why : Refusal) (r : Refused) → r ≡ record { why = why; place = 0 }
        → refused (number_of why) 0 ≡ adding u (length store) units → Adds u units store (refusing r) store
    unfolding ◌>>◌ units_after store_after
    refused_by_lem why r e f =
        rw e record {
          answers = ap (λ (v : Verdict (List TimedUnit)). v >> passed tt) f;
          queue = q.holds ∙ ap (λ (v : Verdict (List TimedUnit)). queue_of (units_after v units)) f;
          leaves = ap (λ (v : Verdict (List TimedUnit)). store_after v store) f;
        }

    pub adds_full : 8 ≤ queue.count → (r : Refused) → r ≡ record { why = refusals.QueueFull; place = 0 }
        → Adds u units store (refusing r) store
    unfolding adding
    adds_full h r e = refused_by_lem refusals.QueueFull r e (refuse 50 _ (le-leb most_units (length units) (omega (arith, counts))))

    module _ (h : queue.count < 8) where
      pub adds_unacceptable : unit_wrong u ≡ true → (r : Refused) → r ≡ record { why = refusals.QueuedUnit; place = 0 }
          → Adds u units store (refusing r) store
      unfolding adding
      adds_unacceptable w r e =
          refused_by_lem refusals.QueuedUnit r e
          (pass_on 50 (lt-leb most_units (length units) (omega (arith, counts))) (refuse 51 _ w))

      module _ (w : unit_wrong u ≡ false) (used : ℕ) (is : used ≡ queue.total) where
        longer_length : length (queued_bytes (units ++ (u ∷ []))) ≡ used + length u.carried
        longer_length = ap length (more_bytes units u) ∙ omega (arith, length-append (queued_bytes units) u.carried, totals)

        pub adds_no_room : length store - used < length u.carried → (r : Refused) → r ≡ record { why = refusals.NoRoom; place = 0 }
            → Adds u units store (refusing r) store
        unfolding adding
        adds_no_room h₁ r e =
            refused_by_lem refusals.NoRoom r e
            (pass_on 50 (lt-leb most_units (length units) (omega (arith, counts)))
            (pass_on 51 w
            (refuse 8 _ (lt-ltb (length store) (length (queued_bytes (units ++ (u ∷ [])))) (omega (arith, longer_length, total_within))))))

        passes : length u.carried ≤ length store - used → adding u (length store) units ≡ passed (units ++ (u ∷ []))
        unfolding adding
        passes r =
            sym (pass_on 50 (lt-leb most_units (length units) (omega (arith, counts)))
            (pass_on 51 w
            (pass_on 8
            (le-ltb (length store) (length (queued_bytes (units ++ (u ∷ [])))) (omega (arith, longer_length, total_within))) refl)))

        pub adds_added : length u.carried ≤ length store - used → (after : Bytes) (longer : Queue)
            → after ≡ placed store used u.carried → longer ≡ with_record queue (record_of u)
            → Adds u units store (record { answer = (Ok tt); queue = longer }) after
        unfolding ◌>>◌ units_after store_after
        adds_added r after longer ea el =
            let f : adding u (length store) units ≡ passed (units ++ (u ∷ [])) = passes r in
            record {
              answers = sym (ap (λ (v : Verdict (List TimedUnit)). v >> passed tt) f);
              queue =
                  el ∙ ap (λ (x : Queue). with_record x (record_of u)) q.holds ∙ one_more units u (omega (arith, counts))
                  ∙ sym (ap (λ (v : Verdict (List TimedUnit)). queue_of (units_after v units)) f);
              leaves =
                  ea ∙ put_behind (queued_bytes units) u.carried store used (is ∙ totals) (ap (λ (n : ℕ). take n store) (is ∙ totals)
                  ∙ q.stands)
                  ∙ ap (λ (w : Bytes). over w store) (sym (more_bytes units u))
                  ∙ sym (ap (λ (v : Verdict (List TimedUnit)). store_after v store) f);
            }

-- ---- drop
module _ {queue : Queue} {store : Bytes} where
  pub drops_empty : (units : List TimedUnit) → QueueIs queue store units → queue.count ≡ 0
      → Drops units store (record { dropped = false; queue = queue }) store
  unfolding is_empty dropping flatten
  drops_empty [] q e = record { answers = refl; queue = q.holds; leaves = refl }
  drops_empty (u ∷ us) q e = absurd (omega (arith, counts q))

  -- the oldest unit's length is that of the first slot, and is no more than all together
  pub first_length : (units : List TimedUnit) (d : Queued) → QueueIs queue store units → (queue.count ≡ 0 → ⊥)
      → (u : TimedUnit) × (us : List TimedUnit) × (units ≡ u ∷ us) × ((get_or queue.units 0 d).length ≡ length u.carried)
  unfolding slots
  first_length [] d q n = absurd (n (counts q))
  first_length (u ∷ us) d q n = (u, us, refl, ap (λ (x : Queue). (get_or x.units 0 d).length) q.holds)

  pub first_within : (units : List TimedUnit) (d : Queued) → QueueIs queue store units → (queue.count ≡ 0 → ⊥)
      → (get_or queue.units 0 d).length ≤ queue.total
  unfolding flatten
  first_within units d q n =
      let f = first_length units d q n in
      omega (
        arith,
        totals q,
        ap (λ (l : List TimedUnit). length (queued_bytes l)) f.2,
        length-append f.0.carried
            (queued_bytes f.1),
        f.3,
      )

  pub drops_dropped : {units : List TimedUnit} (u : TimedUnit) (us : List TimedUnit) (q : QueueIs queue store units) → units ≡ u ∷ us
      → (used first : ℕ) → used ≡ queue.total → first ≡ length u.carried
      → (after : Bytes) (shorter : Queue) → after ≡ over (take (used - first) (drop first store)) store → shorter ≡ without_first queue
      → Drops units store (record { dropped = true; queue = shorter }) after
  unfolding is_empty dropping flatten
  drops_dropped {units} u us q e used first eu ef after shorter ea es =
      let b : queued_bytes units ≡ u.carried ++ queued_bytes us = ap queued_bytes e in
      let n : used - first ≡ length (queued_bytes us) = omega (arith, totals q, ap length b, length-append u.carried (queued_bytes us)) in
      let t : take (used - first) (drop first store) ≡ queued_bytes us =
      ap₂ (λ (i j : ℕ). take i (drop j store)) n ef
      ∙ behind_first u.carried (queued_bytes us) store (subst (λ (w : Bytes). take (length w) store ≡ w) b q.stands) in
      record {
        answers = sym (ap is_empty e);
        queue =
            es ∙ ap without_first (q.holds ∙ ap queue_of e) ∙ first_gone u us (subst (λ (l : List TimedUnit). length l ≤ 8) e q.few)
            ∙ sym (ap (λ (l : List TimedUnit). queue_of (dropping l)) e);
        leaves = ea ∙ ap (λ (w : Bytes). over w store) t ∙ sym (ap (λ (l : List TimedUnit). store_with (dropping l) store) e);
      }
