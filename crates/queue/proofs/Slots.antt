-- The slots of a queue: one more record, the first one gone. Assumes nothing.
use Prim.Native.Nat.{ℕ, zero, suc, ◌+◌, ◌≤◌, ◌<◌}
use mathlib.Core.Path.{◌≡◌, refl, sym, ap, ap₂, ◌∙◌}
use mathlib.Core.List.{List, [], ◌∷◌, ◌++◌, map, flatten, append-nil, append_assoc}
use native.Mathlib.Omega.{arith}
use native.Mathlib.Numerals.{add-one}
use lib.ListN.{length, take, drop, set, get_or, replicate, length-append, length-drop, length-set, take-append-drop, drop_of_length-le}
use lib.Seq.{drop-drop, take-suc-set, take-suc, drop-set-lt, get_or-drop, take_all, drop-cons, set-append_seam}
use Rattle.lists.specs.Lists.{Bytes}
use Rattle.queue.specs.declared.records.Queued.{Queued}
use Rattle.queue.specs.declared.records.Queue.{Queue}
use Rattle.queue.specs.Queue.{TimedUnit, most_units, queued_bytes, record_of, no_record, slots, queue_of}
use Rattle.queue.specs.Parts.{with_record, without_first}

-- ---- how many bytes there are with one more unit
pub more_bytes : (l : List TimedUnit) (x : TimedUnit) → queued_bytes (l ++ (x ∷ [])) ≡ queued_bytes l ++ x.carried
unfolding flatten
more_bytes [] x = append-nil x.carried
more_bytes (y ∷ l) x =
    ap (λ (r : Bytes). y.carried ++ r) (more_bytes l x) ∙ sym (append_assoc y.carried (queued_bytes l) x.carried)

-- ---- one more record
set_next : (units : List TimedUnit) (u : TimedUnit) (all : List Queued) → length units < length all
    → set (map record_of units ++ drop (length units) all) (length units) (record_of u)
    ≡ map record_of (units ++ (u ∷ [])) ++ drop (length (units ++ (u ∷ []))) all
set_next [] u [] h = absurd (omega arith)
set_next [] u (a ∷ all) h = refl
set_next (x ∷ units) u [] h = absurd (omega arith)
set_next (x ∷ units) u (a ∷ all) h = ap (λ (l : List Queued). record_of x ∷ l) (set_next units u all (omega arith))

abbrev pub queue_with : ℕ → List Queued → ℕ → Queue
queue_with count l total = record { count = count; units = l; total = total }

pub same_queue : {n n' t t' : ℕ} {l l' : List Queued} → n ≡ n' → l ≡ l' → t ≡ t' → queue_with n l t ≡ queue_with n' l' t'
same_queue {n} {n'} {t} {t'} {l} {l'} en el et =
    ap₂ (λ (x : ℕ) (y : List Queued). queue_with x y t) en el ∙ ap (queue_with n' l') et

pub one_more : (units : List TimedUnit) (u : TimedUnit) → length units < 8
    → with_record (queue_of units) (record_of u) ≡ queue_of (units ++ (u ∷ []))
unfolding slots
one_more units u h =
    same_queue (sym (length-append units (u ∷ []))) (set_next units u (replicate most_units no_record) h)
    (sym (ap length (more_bytes units u) ∙ length-append (queued_bytes units) u.carried))

-- ---- the first record gone
all_none : (n k : ℕ) → n ≤ k → drop n (replicate k no_record) ++ (no_record ∷ []) ≡ drop n (replicate (suc k) no_record)
all_none zero zero h = refl
all_none zero (suc k) h = ap (λ (l : List Queued). no_record ∷ l) (all_none zero k (omega arith))
all_none (suc n) zero h = absurd (omega arith)
all_none (suc n) (suc k) h = all_none n k (omega arith)

pub first_gone : (u : TimedUnit) (us : List TimedUnit) → length (u ∷ us) ≤ 8 → without_first (queue_of (u ∷ us)) ≡ queue_of us
unfolding slots flatten
first_gone u us h =
    same_queue (omega arith)
    (append_assoc (map record_of us) (drop (length us) (replicate 7 no_record)) (no_record ∷ [])
    ∙ ap (λ (l : List Queued). map record_of us ++ l) (all_none (length us) 7 (omega arith)))
    (omega (arith, length-append u.carried (queued_bytes us)))

-- one record moves down
pub record Moved (l units : List Queued) (i : ℕ) : Type 0 where
  pub long : length units ≡ 8
  pub front : take i units ≡ take i (drop 1 l)
  pub back : drop i units ≡ drop i (replicate 8 no_record)

pub moved_start : (l units : List Queued) → units ≡ replicate 8 no_record → Moved l units 0
moved_start l units e = record { long = ap length e; front = refl; back = e }

pub moved_next : {l units : List Queued} {i : ℕ} (d r : Queued) → length l ≡ 8 → i < 7 → r ≡ get_or l (i + 1) d → Moved l units i
    → Moved l (set units i r) (i + 1)
moved_next {l} {units} {i} d r h k e m =
    let n : i + 1 ≡ 1 + i = omega arith in
    let g : get_or (drop 1 l) i d ≡ r = get_or-drop 1 l i d ∙ ap (λ (j : ℕ). get_or l j d) (sym n) ∙ sym e in
    record {
      long = length-set units i r ∙ m.long;
      front =
          rw add-one
          (take-suc-set units i r (omega (arith, m.long)) ∙ ap (λ (x : List Queued). x ++ (r ∷ [])) m.front
          ∙ ap (λ (x : Queued). take i (drop 1 l) ++ (x ∷ [])) (sym g) ∙ sym (take-suc (drop 1 l) i d (omega (arith, length-drop 1 l))));
      back =
          drop-set-lt (i + 1) units i r (omega arith) ∙ sym (drop-drop 1 i units) ∙ ap (λ (x : List Queued). drop 1 x) m.back
          ∙ drop-drop 1 i (replicate 8 no_record);
    }

pub moved_done : {l units : List Queued} (i : ℕ) → length l ≡ 8 → i ≡ 7 → Moved l units i → units ≡ drop 1 l ++ (no_record ∷ [])
moved_done {l} {units} i h e m =
    sym (take-append-drop i units)
    ∙ ap (λ (x : List Queued). x ++ drop i units) (m.front ∙ take_all i (drop 1 l) (omega (arith, length-drop 1 l)))
    ∙ ap (λ (x : List Queued). drop 1 l ++ x) (m.back ∙ ap (λ (k : ℕ). drop k (replicate 8 no_record)) e)

-- the records behind the first one move down, one after the other
one_down : (a : Queued) (l : List Queued) (i : ℕ) (r : Queued) → i < length l
    → set (take i l ++ drop i (a ∷ l)) i (get_or (take i l ++ drop i (a ∷ l)) (suc i) r) ≡ take (suc i) l ++ drop (suc i) (a ∷ l)
one_down a [] i r h = absurd (omega arith)
one_down a (b ∷ l) zero r h = refl
one_down a (b ∷ l) (suc i) r h = ap (λ (m : List Queued). b ∷ m) (one_down b l i r (omega arith))

pub record_moved : (l now : List Queued) (i : ℕ) (r : Queued) → i + 1 < length l → now ≡ take i (drop 1 l) ++ drop i l
    → set now i (get_or now (i + 1) r) ≡ take (i + 1) (drop 1 l) ++ drop (i + 1) l
record_moved [] now i r h e = absurd (omega arith)
record_moved (a ∷ l) now i r h e = rw (e, add-one) (one_down a l i r (omega arith))

-- the last slot is then empty
pub shifted : (l now : List Queued) (r : Queued) → length l ≡ 8 → now ≡ take 7 (drop 1 l) ++ drop 7 l
    → set now 7 r ≡ drop 1 l ++ (r ∷ [])
shifted l now r h e =
    let w : List Queued = drop 1 l in
    let n : length w ≡ 7 = omega (arith, length-drop 1 l) in
    let moved : now ≡ w ++ (get_or l 7 r ∷ []) =
    e
    ∙ ap₂ (λ (x y : List Queued). x ++ y) (take_all 7 w (omega arith))
    (drop-cons l 7 r (omega arith) ∙ ap (λ (x : List Queued). get_or l 7 r ∷ x) (drop_of_length-le l {i = 8} (omega arith))) in
    ap (λ (x : List Queued). set x 7 r) moved
    ∙ ap (λ (i : ℕ). set (w ++ (get_or l 7 r ∷ [])) i r) (sym n)
    ∙ set-append_seam w _ _ r
