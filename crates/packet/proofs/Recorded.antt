-- The check of a packet by the record that the lookup of its PID finds (`found_at`, `found_none`), and which PIDs the lookup finds
-- (`any_at`, `any_none`, `unrecorded_none`); the record of a PID by its slot (`record_first`, `record_put`). Assumes nothing.
use Rattle.std.specs.Prelude.{Option, Some, None}
use Prim.Native.Nat.{ℕ, zero, suc, ◌<◌}
use mathlib.Core.Bool.{Bool, true, false, ◌||◌}
use mathlib.Core.Path.{◌≡◌, refl, sym, ap, ◌∙◌}
use mathlib.Core.List.{List, [], ◌∷◌}
use native.Mathlib.Omega.{arith}
use borrow.Author.Tests.{eq-eqb, ne_eqb, eqb-true, eqb-false}
use lib.Dec.{eqb}
use lib.ListN.{length, get_or, set, length-map, get_or-map}
use lib.Seq.{set-get_or}
use Rattle.lists.specs.Lists.{Bytes, pick, any}
use Rattle.lists.proofs.Tests.{case}
use Rattle.refusal.specs.Verdict.{passed, ◌>>=◌}
use Rattle.packet.specs.Header.{pid}
use Rattle.packet.specs.Counter.{StreamRecord, named, check, pids_of, record_of, checked_in}
use Rattle.packet.specs.Streams.{look_up_from, look_up}
use Rattle.packet.proofs.Counters.{checked_at, unrecorded, some_not_none}
use Rattle.packet.proofs.Slots.{look_up_at}

-- ---- the lookup, one PID at a time
module _ (k n m : ℕ) (l : List ℕ) where
  look_here : eqb m n ≡ true → look_up_from k n (m ∷ l) ≡ Some k
  unfolding look_up_from
  look_here e = rw (e, look_up_from)

  look_behind : eqb m n ≡ false → look_up_from k n (m ∷ l) ≡ look_up_from (suc k) n l
  unfolding look_up_from
  look_behind e = rw (e, look_up_from)

pub look_first : (n m : ℕ) (l : List ℕ) → n ≡ m → look_up n (m ∷ l) ≡ Some 0
look_first n m l e = look_here 0 n m l (eq-eqb m n (sym e))

-- the slots count one more behind one more PID
abbrev pub next_slot : (Option ℕ) → (Option ℕ)
next_slot (Some i) = Some (suc i)
next_slot None = None

look_next : (k n : ℕ) (l : List ℕ) → look_up_from (suc k) n l ≡ next_slot (look_up_from k n l)
unfolding look_up_from
look_next k n [] = refl
look_next k n (m ∷ l) =
    case (eqb m n)
    (λ e. look_here (suc k) n m l e ∙ sym (ap next_slot (look_here k n m l e)))
    (λ e. look_behind (suc k) n m l e ∙ look_next (suc k) n l ∙ sym (ap next_slot (look_behind k n m l e)))

pub look_past : (n m : ℕ) (l : List ℕ) → (n ≡ m → ⊥) → look_up n (m ∷ l) ≡ next_slot (look_up n l)
look_past n m l e = look_behind 0 n m l (ne_eqb m n (λ z. e (sym z))) ∙ look_next 0 n l

pub look_nowhere : (n : ℕ) → look_up n [] ≡ None
unfolding look_up_from
look_nowhere n = refl

-- ---- which PIDs it finds
not_none : {P : Type 0} {k : ℕ} → Some k ≡ None → P
not_none e = let z : ◌≡◌ {A = ℕ} 0 1 = cc in absurd (omega arith)

found_any : (k n : ℕ) (l : List ℕ) → any (eqb n) l ≡ false → look_up_from k n l ≡ None
unfolding any look_up_from
found_any k n [] e = refl
found_any k n (m ∷ l) e =
    case (eqb m n)
    (λ t. absurd (clash_by (eqb n m) (any (eqb n) l) (eq-eqb n m (sym (eqb-true m n t))) e))
    (λ t. look_behind k n m l t ∙ found_any (suc k) n l (drop_first (eqb n m) (any (eqb n) l) e))
  where
    clash_by : (x y : Bool) → x ≡ true → x || y ≡ false → ⊥
    clash_by true y h f = let z : ◌≡◌ {A = ℕ} 0 1 = cc in absurd (omega arith)
    clash_by false y h f = let z : ◌≡◌ {A = ℕ} 0 1 = cc in absurd (omega arith)

    drop_first : (x y : Bool) → x || y ≡ false → y ≡ false
    drop_first true y f = let z : ◌≡◌ {A = ℕ} 0 1 = cc in absurd (omega arith)
    drop_first false y f = f

pub any_at : (n : ℕ) (l : List ℕ) (k : ℕ) → look_up n l ≡ Some k → any (eqb n) l ≡ true
any_at n l k e = case (any (eqb n) l) (λ t. t) (λ t. not_none (sym e ∙ found_any 0 n l t))

pub any_none : (n : ℕ) (l : List ℕ) → look_up n l ≡ None → any (eqb n) l ≡ false
unfolding any
any_none n l e = go 0 l e
  where
    go : (k : ℕ) (l : List ℕ) → look_up_from k n l ≡ None → any (eqb n) l ≡ false
    go k [] f = refl
    go k (m ∷ l) f =
        case (eqb m n)
        (λ t. not_none (sym (look_here k n m l t) ∙ f))
        (λ t. rw (ne_eqb n m (λ z. eqb-false m n t (sym z))) (go (suc k) l (sym (look_behind k n m l t) ∙ f)))

-- ---- the records
module _ (i : ℕ) (p : Bytes) (records : List StreamRecord) where
  -- of a slot that the lookup found
  pub found_at : (k : ℕ) → look_up (pid p) (pids_of records) ≡ Some k
      → checked_in i records p ≡ (check i (get_or records k (named 0)) p >>= λ r. passed (set records k r))
  found_at k e =
      let f = look_up_at (pid p) (pids_of records) k e in
      let at : (j : ℕ) → get_or (pids_of records) j 0 ≡ (get_or records j (named 0)).pid = λ j. get_or-map (λ (r : StreamRecord). r.pid)
      records j (named 0) in
      checked_at i p records k (named 0) (omega (arith, f.within, length-map records (λ (r : StreamRecord). r.pid))) (sym (at k) ∙ f.has)
      (λ j h z. f.first j h (at j ∙ z))

-- where it found none, there is nothing to check
pub found_none : (i : ℕ) (p : Bytes) (records : List StreamRecord)
    → look_up (pid p) (pids_of records) ≡ None → checked_in i records p ≡ passed records
unfolding record_of pick
found_none i p records e = unrecorded i p records (go 0 records e)
  where
    go : (k : ℕ) (l : List StreamRecord) → look_up_from k (pid p) (pids_of l) ≡ None → record_of (pid p) l ≡ None
    go k [] f = refl
    go k (r ∷ l) f =
        case (eqb r.pid (pid p))
        (λ t. not_none (sym (look_here k (pid p) r.pid (pids_of l) t) ∙ f))
        (λ t. rw t (go (suc k) l (sym (look_behind k (pid p) r.pid (pids_of l) t) ∙ f)))

-- it finds none of a PID that has no record
pub unrecorded_none : (n : ℕ) (records : List StreamRecord) → record_of n records ≡ None → look_up n (pids_of records) ≡ None
unfolding record_of pick look_up_from
unrecorded_none n records e = go 0 records e
  where
    go : (k : ℕ) (l : List StreamRecord) → record_of n l ≡ None → look_up_from k n (pids_of l) ≡ None
    go k [] f = refl
    go k (r ∷ l) f =
        case (eqb r.pid n)
        (λ t. absurd (some_not_none r (sym (ap (λ (b : Bool). pick b (Some r) (record_of n l)) t) ∙ f)))
        (λ t. look_behind k n r.pid (pids_of l) t ∙ go (suc k) l (sym (ap (λ (b : Bool). pick b (Some r) (record_of n l)) t) ∙ f))

-- ---- the record of a PID
-- the first record that has the PID, where another is put in its place that has it too
pub record_put : (n : ℕ) (records : List StreamRecord) (k : ℕ) (t : StreamRecord) → k < length records → t.pid ≡ n
    → ((j : ℕ) → j < k → (get_or records j (named 0)).pid ≡ n → ⊥) → record_of n (set records k t) ≡ Some t
unfolding record_of pick
record_put n [] k t h e f = absurd (omega arith)
record_put n (r ∷ records) zero t h e f = rw (eq-eqb t.pid n e)
record_put n (r ∷ records) (suc k) t h e f =
    rw (ne_eqb r.pid n (f 0 (omega arith))) (record_put n records k t (omega arith) e (λ j i. f (suc j) (omega arith)))

-- the first record that has it
pub record_first : (n : ℕ) (records : List StreamRecord) (k : ℕ) → k < length records → (get_or records k (named 0)).pid ≡ n
    → ((j : ℕ) → j < k → (get_or records j (named 0)).pid ≡ n → ⊥) → record_of n records ≡ Some (get_or records k (named 0))
record_first n records k h e f =
    ap (record_of n) (sym (set-get_or records k (named 0))) ∙ record_put n records k (get_or records k (named 0)) h e f
