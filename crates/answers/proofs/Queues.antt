-- A queue that is handed back and handed in again is the same; the numbers of its slots are put one a turn. Assumes nothing.
use mir.Val.{bool_byte}
use Prim.Native.Nat.{ℕ, zero, suc, ◌+◌, ◌-◌, ◌≤◌, ◌<◌}
use mathlib.Core.Bool.{Bool, true, false, not}
use mathlib.Core.Path.{◌≡◌, refl, ap, ap₂, ◌∙◌}
use mathlib.Core.List.{List, [], ◌∷◌, ◌++◌, map}
use native.Mathlib.Omega.{arith}
use lib.Dec.{eqb}
use lib.ListN.{length, take, get_or, set, replicate}
use Rattle.lists.specs.Lists.{pick}
use Rattle.refusal.specs.Verdict.{Verdict}
use Rattle.queue.specs.declared.records.Queued.{Queued}
use Rattle.queue.specs.declared.records.Queue.{Queue}
use Rattle.queue.specs.Queue.{no_record}
use Rattle.mux_rules.specs.declared.Written.{Written}
use Rattle.answers.specs.declared.queueing.QueueState.{QueueState}
use Rattle.answers.specs.declared.queueing.ChannelState.{ChannelState}
use Rattle.answers.specs.Queueing.{indices, slot_from, queue_from, mark, state_of, sent_with}

-- a flag as a number
pub byte_is : (b : Bool) → bool_byte b ≡ mark b
unfolding mark pick
byte_is true = refl
byte_is false = refl

marked_back : (b : Bool) → not (eqb (mark b) 0) ≡ b
unfolding mark pick
marked_back true = refl
marked_back false = refl

slot_back : (r : Queued) → slot_from r.length r.pts.0 r.dts.0 (mark r.marked) ≡ r
slot_back r = ap (λ (b : Bool). record { length = r.length; pts = r.pts; dts = r.dts; marked = b }) (marked_back r.marked)

-- a list of eight, by its elements
eight : (d : Queued) (l : List Queued) → length l ≡ 8
    → get_or l 0 d ∷ get_or l 1 d ∷ get_or l 2 d ∷ get_or l 3 d ∷ get_or l 4 d ∷ get_or l 5 d ∷ get_or l 6 d ∷ get_or l 7 d ∷ [] ≡ l
eight d [] h = absurd (omega arith)
eight d (a ∷ []) h = absurd (omega arith)
eight d (a ∷ b ∷ []) h = absurd (omega arith)
eight d (a ∷ b ∷ c ∷ []) h = absurd (omega arith)
eight d (a ∷ b ∷ c ∷ e ∷ []) h = absurd (omega arith)
eight d (a ∷ b ∷ c ∷ e ∷ f ∷ []) h = absurd (omega arith)
eight d (a ∷ b ∷ c ∷ e ∷ f ∷ g ∷ []) h = absurd (omega arith)
eight d (a ∷ b ∷ c ∷ e ∷ f ∷ g ∷ i ∷ []) h = absurd (omega arith)
eight d (a ∷ b ∷ c ∷ e ∷ f ∷ g ∷ i ∷ k ∷ []) h = refl
eight d (a ∷ b ∷ c ∷ e ∷ f ∷ g ∷ i ∷ k ∷ m ∷ l) h = absurd (omega arith)

cons : {a b : Queued} {l m : List Queued} → a ≡ b → l ≡ m → a ∷ l ≡ b ∷ m
cons e f = ap₂ (λ (x : Queued) (y : List Queued). x ∷ y) e f

pub same_queue : (q : Queue) → length q.units ≡ 8 → queue_from (state_of q) ≡ q
same_queue q h =
    ap (λ (l : List Queued). record { count = q.count; units = l; total = q.total })
    (cons (slot_back _) (cons (slot_back _) (cons (slot_back _) (cons (slot_back _)
    (cons (slot_back _) (cons (slot_back _) (cons (slot_back _) (cons (slot_back _) refl)))))))
    ∙ eight no_record q.units h)

-- eight slots, one by one
pub from_eight : (n t : ℕ) (a0 a1 a2 a3 a4 a5 a6 a7 b0 b1 b2 b3 b4 b5 b6 b7 : Queued) → a0 ≡ b0 → a1 ≡ b1 → a2 ≡ b2 → a3 ≡ b3 → a4 ≡ b4
    → a5 ≡ b5
    → a6 ≡ b6 → a7 ≡ b7
    → ◌≡◌ {A = Queue} (record { count = n; total = t; units = a0 ∷ a1 ∷ a2 ∷ a3 ∷ a4 ∷ a5 ∷ a6 ∷ a7 ∷ [] })
    (record { count = n; total = t; units = b0 ∷ b1 ∷ b2 ∷ b3 ∷ b4 ∷ b5 ∷ b6 ∷ b7 ∷ [] })
from_eight n t a0 a1 a2 a3 a4 a5 a6 a7 b0 b1 b2 b3 b4 b5 b6 b7 e0 e1 e2 e3 e4 e5 e6 e7 =
    ap (λ (l : List Queued). record { count = n; total = t; units = l })
    (cons e0 (cons e1 (cons e2 (cons e3 (cons e4 (cons e5 (cons e6 (cons e7 refl))))))))

-- ---- eight numbers, one a turn
-- what stands in an array of eight zeros after i turns
abbrev filled : (ℕ → ℕ) → ℕ → List ℕ
filled f i = map f (take i indices) ++ replicate (8 - i) 0

filled_next : (f : ℕ → ℕ) (i : ℕ) → i < 8 → set (filled f i) i (f i) ≡ filled f (i + 1)
filled_next f zero h = refl
filled_next f (suc zero) h = refl
filled_next f (suc (suc zero)) h = refl
filled_next f (suc (suc (suc zero))) h = refl
filled_next f (suc (suc (suc (suc zero)))) h = refl
filled_next f (suc (suc (suc (suc (suc zero))))) h = refl
filled_next f (suc (suc (suc (suc (suc (suc zero)))))) h = refl
filled_next f (suc (suc (suc (suc (suc (suc (suc zero))))))) h = refl
filled_next f (suc (suc (suc (suc (suc (suc (suc (suc i)))))))) h = absurd (omega arith)

filled_long : (f : ℕ → ℕ) (i : ℕ) → i < 8 → length (filled f i) ≡ 8
filled_long f zero h = refl
filled_long f (suc zero) h = refl
filled_long f (suc (suc zero)) h = refl
filled_long f (suc (suc (suc zero))) h = refl
filled_long f (suc (suc (suc (suc zero)))) h = refl
filled_long f (suc (suc (suc (suc (suc zero))))) h = refl
filled_long f (suc (suc (suc (suc (suc (suc zero)))))) h = refl
filled_long f (suc (suc (suc (suc (suc (suc (suc zero))))))) h = refl
filled_long f (suc (suc (suc (suc (suc (suc (suc (suc i)))))))) h = absurd (omega arith)

-- a number of each slot
module _ (units : List Queued) where
  abbrev length_of : ℕ → ℕ
  length_of i = (get_or units i no_record).length

  abbrev pts_of : ℕ → ℕ
  pts_of i = (get_or units i no_record).pts.0

  abbrev dts_of : ℕ → ℕ
  dts_of i = (get_or units i no_record).dts.0

  abbrev mark_of : ℕ → ℕ
  mark_of i = mark (get_or units i no_record).marked

  pub record Filling (lengths pts dts marks : List ℕ) (i : ℕ) : Type 0 where
    pub few : i ≤ 8
    pub lengths_put : lengths ≡ filled length_of i
    pub pts_put : pts ≡ filled pts_of i
    pub dts_put : dts ≡ filled dts_of i
    pub marks_put : marks ≡ filled mark_of i

  pub filling_start : Filling (replicate 8 0) (replicate 8 0) (replicate 8 0) (replicate 8 0) 0
  filling_start = record { few = omega arith; lengths_put = refl; pts_put = refl; dts_put = refl; marks_put = refl }

  put_next : {l : List ℕ} {i x : ℕ} (f : ℕ → ℕ) → l ≡ filled f i → i < 8 → x ≡ f i → set l i x ≡ filled f (i + 1)
  put_next {l} {i} {x} f e h k = ap₂ (λ (a : List ℕ) (y : ℕ). set a i y) e k ∙ filled_next f i h

  pub filling_next : {l p d m : List ℕ} {i : ℕ} → Filling l p d m i → i < 8 → (x : ℕ) → x ≡ mark_of i
      → Filling (set l i (length_of i)) (set p i (pts_of i)) (set d i (dts_of i)) (set m i x) (i + 1)
  filling_next g h x e =
      record {
        few = omega arith;
        lengths_put = put_next length_of g.lengths_put h refl;
        pts_put = put_next pts_of g.pts_put h refl;
        dts_put = put_next dts_of g.dts_put h refl;
        marks_put = put_next mark_of g.marks_put h e;
      }

  -- each array has room
  pub filling_long : {l p d m : List ℕ} {i : ℕ} → Filling l p d m i → i < 8
      → (length l ≡ 8) × (length p ≡ 8) × (length d ≡ 8) × (length m ≡ 8)
  filling_long {l} {p} {d} {m} {i} g h = (
    ap length g.lengths_put ∙ filled_long length_of i h,
    ap length g.pts_put ∙ filled_long pts_of i h,
    ap length g.dts_put ∙ filled_long dts_of i h,
    ap length g.marks_put ∙ filled_long mark_of i h,
  )

pub filling_done : (q : Queue) {l p d m : List ℕ} {i : ℕ} → Filling q.units l p d m i → 8 ≤ i
    → record { units = q.count; length = l; pts = p; dts = d; marked = m; total = q.total } ≡ state_of q
filling_done q {l} {p} {d} {m} {i} g h =
    let e : i ≡ 8 = let few = g.few in omega arith in
    let at : (f : ℕ → ℕ) → filled f i ≡ map f indices = λ f. ap (filled f) e in
    rw (
      g.lengths_put ∙ at (length_of q.units),
      g.pts_put ∙ at (pts_of q.units),
      g.dts_put ∙ at (dts_of q.units),
      g.marks_put ∙ at (mark_of q.units),
    )

-- send's answer, of three parts
pub sent_by : {n n' : ChannelState} {s s' : QueueState} {v v' : Verdict Written} → n ≡ n' → s ≡ s' → v ≡ v'
    → sent_with n s v ≡ sent_with n' s' v'
sent_by {n} {n'} {s} {s'} {v} {v'} en es ev =
    ap₂ (λ (x : ChannelState) (y : QueueState). sent_with x y v) en es ∙ ap (sent_with n' s') ev
