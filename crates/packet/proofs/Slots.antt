-- The lookup of a PID, one slot at a time, also among the PIDs that the code keeps (`slot_end`, `slot_here`, `slot_next`); what its answer
-- means (`look_up_at`, `look_up_none`); the last packet that two numbers stand for (`mark_none`, `mark_some`). Assumes nothing.
use Rattle.std.specs.Prelude.{Option, Some, None}
use Prim.Native.Nat.{ℕ, zero, suc, ◌+◌, ◌-◌, ◌/◌, ◌%◌, ◌≤◌, ◌<◌}
use mathlib.Core.Path.{◌≡◌, refl, sym, ap, subst, ◌∙◌}
use mathlib.Core.List.{List, [], ◌∷◌, ◌++◌}
use native.Mathlib.Omega.{arith}
use borrow.Author.Tests.{eqb-true, eqb-false, eq-eqb, ne_eqb}
use lib.Dec.{eqb}
use lib.ListN.{length, get_or, take, drop, replicate, length-append, length-take, length-drop, drop_of_length-le}
use lib.Seq.{get_or-take, get_or-drop}
use Rattle.lists.proofs.Parts.{next}
use Rattle.lists.proofs.Tests.{case}
use Rattle.packet.specs.Counter.{seen}
use Rattle.packet.specs.declared.streams.Streams.{Streams}
use Rattle.packet.specs.Streams.{look_up_from, look_up, most_records, listed_pids, last_from}

-- ---- the lookup, one slot at a time
module _ (slot pid n : ℕ) (pids : List ℕ) where
  pub first_has : n ≡ pid → look_up_from slot pid (n ∷ pids) ≡ Some slot
  unfolding look_up_from
  first_has e = rw (eq-eqb _ _ e, look_up_from)

  pub first_has_not : (n ≡ pid → ⊥) → look_up_from slot pid (n ∷ pids) ≡ look_up_from (suc slot) pid pids
  unfolding look_up_from
  first_has_not e = rw (ne_eqb _ _ e, look_up_from)

-- ---- among the PIDs of so many listed streams
-- zeros behind the end of a list change no element
none_behind : (n k : ℕ) → ◌≡◌ {A = ℕ} (get_or (replicate n 0) k 0) 0
none_behind zero k = refl
none_behind (suc n) zero = refl
none_behind (suc n) (suc k) = none_behind n k

zeros_behind : (l : List ℕ) (n k : ℕ) → get_or (l ++ replicate n 0) k 0 ≡ get_or l k 0
zeros_behind [] n k = none_behind n k
zeros_behind (a ∷ l) n zero = refl
zeros_behind (a ∷ l) n (suc k) = zeros_behind l n k

module _ (s : Streams) (count i : ℕ) where
  abbrev long : List ℕ
  long = s.numbers ++ replicate most_records 0

  twelve : length (take 12 (drop 2 long)) ≡ 12
  twelve = omega (arith, length-take 12 (drop 2 long), length-drop 2 long, length-append s.numbers (replicate most_records 0))

  -- from the count on, and from the twelfth on, none is listed
  pub past_count : count ≤ i → length (listed_pids count s) ≤ i
  past_count h = omega (arith, length-take count (take 12 (drop 2 long)))

  pub past_twelve : 12 ≤ i → length (listed_pids count s) ≤ i
  past_twelve h = omega (arith, length-take count (take 12 (drop 2 long)), twelve)

  module _ (pid : ℕ) where
    pub slot_end : length (listed_pids count s) ≤ i → look_up_from (2 + i) pid (drop i (listed_pids count s)) ≡ None
    unfolding look_up_from
    slot_end h = ap (look_up_from (2 + i) pid) (drop_of_length-le (listed_pids count s) {i = i} h)

    module _ (h : i < count) (k : i < 12) where
      next_pid : drop i (listed_pids count s) ≡ get_or s.numbers (2 + i) 0 ∷ drop (i + 1) (listed_pids count s)
      next_pid =
          next (listed_pids count s) i (omega (arith, length-take count (take 12 (drop 2 long)), twelve))
          ∙ ap (λ (n : ℕ). n ∷ drop (i + 1) (listed_pids count s))
          (get_or-take count (take 12 (drop 2 long)) i 0 h ∙ get_or-take 12 (drop 2 long) i 0 k ∙ get_or-drop 2 long i 0
          ∙ zeros_behind s.numbers most_records (2 + i))

      pub slot_here : get_or s.numbers (2 + i) 0 ≡ pid → look_up_from (2 + i) pid (drop i (listed_pids count s)) ≡ Some (2 + i)
      slot_here e =
          ap (look_up_from (2 + i) pid) next_pid ∙ first_has (2 + i) pid (get_or s.numbers (2 + i) 0)
          (drop (i + 1) (listed_pids count s)) e

      pub slot_next : (get_or s.numbers (2 + i) 0 ≡ pid → ⊥)
          → look_up_from (2 + i) pid (drop i (listed_pids count s))
          ≡ look_up_from (2 + (i + 1)) pid (drop (i + 1) (listed_pids count s))
      slot_next e =
          let one_more : suc (2 + i) ≡ 2 + (i + 1) = omega arith in
          ap (look_up_from (2 + i) pid) next_pid
          ∙ first_has_not (2 + i) pid (get_or s.numbers (2 + i) 0) (drop (i + 1) (listed_pids count s)) e
          ∙ ap (λ (j : ℕ). look_up_from j pid (drop (i + 1) (listed_pids count s))) one_more

-- ---- the last packet that two numbers stand for
pub mark_none : (mark i : ℕ) → mark ≡ 0 → None ≡ last_from mark i
unfolding last_from
mark_none zero i e = refl
mark_none (suc mark) i e = absurd (omega arith)

pub mark_some : (mark i : ℕ) → (mark ≡ 0 → ⊥) → seen ((mark - 1) / 2 % 256) i (eqb ((mark - 1) % 2) 1) ≡ last_from mark i
unfolding last_from
mark_some zero i e = absurd (e refl)
mark_some (suc mark) i e =
    let less : suc mark - 1 ≡ mark = omega arith in
    ap (λ (n : ℕ). seen (n / 2 % 256) i (eqb (n % 2) 1)) less

-- ---- what the answer means
-- the slot is listed, it has the PID, and none before it has
pub record FirstAt (pid : ℕ) (l : List ℕ) (slot : ℕ) : Type 0 where
  pub within : slot < length l
  pub has : get_or l slot 0 ≡ pid
  pub first : (j : ℕ) → j < slot → get_or l j 0 ≡ pid → ⊥

-- no slot has the PID
abbrev pub Nowhere : ℕ → List ℕ → Type 0
Nowhere pid l = (j : ℕ) → j < length l → get_or l j 0 ≡ pid → ⊥

-- of a list whose first PID has slot k
abbrev Means : ℕ → ℕ → List ℕ → (Option ℕ) → Type 0
Means k pid l (Some slot) = (j : ℕ) × (slot ≡ k + j) × FirstAt pid l j
Means k pid l None = Nowhere pid l

module _ (k pid n : ℕ) (l : List ℕ) where
  means_here : n ≡ pid → Means k pid (n ∷ l) (Some k)
  means_here e = (0, omega arith, record { within = omega arith; has = e; first = λ j h. absurd (omega arith) })

  first_later : (n ≡ pid → ⊥) → (i : ℕ) → FirstAt pid l i → (j : ℕ) → j < suc i → get_or (n ∷ l) j 0 ≡ pid → ⊥
  first_later w i f zero h = w
  first_later w i f (suc j) h = f.first j (omega arith)

  nowhere_later : (n ≡ pid → ⊥) → Nowhere pid l → (j : ℕ) → j < suc (length l) → get_or (n ∷ l) j 0 ≡ pid → ⊥
  nowhere_later w v zero h = w
  nowhere_later w v (suc j) h = v j (omega arith)

  means_later : (n ≡ pid → ⊥) → (v : Option ℕ) → Means (suc k) pid l v → Means k pid (n ∷ l) v
  means_later w (Some slot) m =
      let f = m.2 in
      (suc m.0, omega (arith, m.1), record { within = omega (arith, f.within); has = f.has; first = first_later w m.0 f })
  means_later w None m = nowhere_later w m

look_up_means : (k pid : ℕ) (l : List ℕ) → Means k pid l (look_up_from k pid l)
unfolding look_up_from
look_up_means k pid [] = λ j h. absurd (omega arith)
look_up_means k pid (n ∷ l) =
    case (eqb n pid)
    (λ t. let e = eqb-true n pid t in subst (Means k pid (n ∷ l)) (sym (first_has k pid n l e)) (means_here k pid n l e))
    (λ t.
    let w = eqb-false n pid t in
    subst (Means k pid (n ∷ l)) (sym (first_has_not k pid n l w))
    (means_later k pid n l w (look_up_from (suc k) pid l) (look_up_means (suc k) pid l)))

pub look_up_at : (pid : ℕ) (l : List ℕ) (slot : ℕ) → look_up pid l ≡ Some slot → FirstAt pid l slot
look_up_at pid l slot e =
    let m = subst (Means 0 pid l) e (look_up_means 0 pid l) in
    subst (FirstAt pid l) (let h = m.1 in omega arith) m.2

pub look_up_none : (pid : ℕ) (l : List ℕ) → look_up pid l ≡ None → Nowhere pid l
look_up_none pid l e = subst (Means 0 pid l) e (look_up_means 0 pid l)
