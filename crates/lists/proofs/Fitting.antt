-- As much of a string as an output has room for from a place on, put there (`Fitted`): nothing, none behind the end, one byte, and one
-- string behind the other; a loop that puts the bytes of a string from a place on. Assumes nothing.
use Prim.Native.Nat.{ℕ, suc, ◌+◌, ◌-◌, ◌≤◌, ◌<◌}
use mathlib.Core.Path.{◌≡◌, sym, ap, ap₂, subst, ◌∙◌}
use mathlib.Core.List.{List, [], ◌∷◌, ◌++◌, append-nil}
use native.Mathlib.Omega.{arith}
use borrow.Author.Tests.{ltb-true, ltb-false}
use lib.Dec.{ltb}
use lib.ListN.{length, take, drop, set, get_or, length-append, length-take, length-drop, take-append-drop}
use lib.Seq.{length-take-le, take_all, take-nil, take-suc, take-append-le, take-append-add, drop-drop, get_or-drop, set_split}
use Rattle.lists.specs.Lists.{placed, fitting, Fitted}
use Rattle.lists.proofs.Tests.{case}
use Rattle.lists.proofs.Placed.{placed_long, placed_twice}

-- ---- what has room
pub fitting_most : (out : List ℕ) (n : ℕ) (w : List ℕ) → length (fitting out n w) ≤ length out - n
fitting_most out n w = omega (arith, length-take (length out - n) w)

first_of_lem : (k : ℕ) (w v : List ℕ) → take k w ++ take (k - length (take k w)) v ≡ take k (w ++ v)
first_of_lem k w v =
    case (ltb k (length w))
    (λ t.
    let h = ltb-true k (length w) t in
    let e : k - length (take k w) ≡ 0 = omega (arith, length-take-le k w (omega arith)) in
    ap (λ (j : ℕ). take k w ++ take j v) e ∙ append-nil (take k w) ∙ sym (take-append-le k w v (omega arith)))
    (λ t.
    let h = ltb-false k (length w) t in
    let e : length w + (k - length w) ≡ k = omega arith in
    ap (λ (l : List ℕ). l ++ take (k - length l) v) (take_all k w h) ∙ sym (take-append-add w v (k - length w))
    ∙ ap (λ (j : ℕ). take j (w ++ v)) e)

-- v behind w has the room that w leaves
pub fitting_append : (out : List ℕ) (n : ℕ) (w v : List ℕ)
    → fitting out n w ++ take (length out - (n + length (fitting out n w))) v ≡ fitting out n (w ++ v)
fitting_append out n w v =
    let e : length out - (n + length (fitting out n w)) ≡ length out - n - length (fitting out n w) = omega arith in
    ap (λ (j : ℕ). fitting out n w ++ take j v) e ∙ first_of_lem (length out - n) w v

pub fitting_one : (out : List ℕ) (n b : ℕ) → n < length out → fitting out n (b ∷ []) ≡ b ∷ []
fitting_one out n b h = take_all (length out - n) (b ∷ []) (omega arith)

-- ---- what is put
placed_nothing : (out : List ℕ) (n : ℕ) (w : List ℕ) → w ≡ [] → placed out n w ≡ out
placed_nothing out n w e = ap (placed out n) e ∙ take-append-drop n out

-- nothing has room, or there is nothing to put
fitted_nothing : (out : List ℕ) (n : ℕ) (w : List ℕ) → fitting out n w ≡ [] → Fitted out n w n out
fitted_nothing out n w e =
    record { behind = omega (arith, ap length e); stands = sym (placed_nothing out n (fitting out n w) e) }

pub fitted_start : (out : List ℕ) (n : ℕ) → Fitted out n [] n out
fitted_start out n = fitted_nothing out n [] (take-nil (length out - n))

pub fitted_behind : (out : List ℕ) (n : ℕ) (w : List ℕ) → length out ≤ n → Fitted out n w n out
fitted_behind out n w h =
    let e : length out - n ≡ 0 = omega arith in
    fitted_nothing out n w (ap (λ (k : ℕ). take k w) e)

pub fitted_one : (out : List ℕ) (n b : ℕ) → n < length out → Fitted out n (b ∷ []) (n + 1) (set out n b)
fitted_one out n b h =
    let e : suc n ≡ n + 1 = omega arith in
    let f = fitting_one out n b h in
    record {
      behind = omega (arith, ap length f);
      stands = set_split out n b h
          ∙ ap (λ (l : List ℕ). take n out ++ (b ∷ l)) (ap (λ (k : ℕ). drop k out) e ∙ sym (drop-drop 1 n out))
          ∙ ap (placed out n) (sym f);
    }

pub fitted_long : {out w later : List ℕ} {n m : ℕ} → Fitted out n w m later → length later ≡ length out
fitted_long {out} {w} {later} {n} {m} a =
    case (ltb (length out) n)
    (λ t.
    let h = ltb-true (length out) n t in
    ap length (a.stands ∙ sym (fitted_behind out n w (omega arith)).stands))
    (λ t.
    let h = ltb-false (length out) n t in
    ap length a.stands ∙ placed_long out n h (fitting out n w) (omega (arith, fitting_most out n w)))

-- where nothing has room at first, nothing has later
behind_then : {out w v later last : List ℕ} {n m k : ℕ} → length out ≤ n → Fitted out n w m later → Fitted later m v k last
    → Fitted out n (w ++ v) k last
behind_then {out} {w} {v} {later} {last} {n} {m} {k} h a b =
    let none = fitted_behind out n w h in
    let e : m ≡ n = a.behind ∙ sym none.behind in
    let f : later ≡ out = a.stands ∙ sym none.stands in
    let more = fitted_behind later m v (omega (arith, ap length f)) in
    let whole = fitted_behind out n (w ++ v) h in
    record {
      behind = b.behind ∙ sym more.behind ∙ e ∙ whole.behind;
      stands = b.stands ∙ sym more.stands ∙ f ∙ whole.stands;
    }

-- v behind w
pub fitted_then : {out w v later last : List ℕ} {n m k : ℕ} → Fitted out n w m later → Fitted later m v k last
    → Fitted out n (w ++ v) k last
fitted_then {out} {w} {v} {later} {last} {n} {m} {k} a b =
    case (ltb (length out) n)
    (λ t. let h = ltb-true (length out) n t in behind_then (omega arith) a b)
    (λ t.
    let f : List ℕ = fitting out n w in
    let x : List ℕ = take (length out - (n + length f)) v in
    let l : length later - m ≡ length out - (n + length f) = omega (arith, fitted_long a, a.behind) in
    let y : fitting later m v ≡ x = ap (λ (j : ℕ). take j v) l in
    let e : f ++ x ≡ fitting out n (w ++ v) = fitting_append out n w v in
    record {
      behind = omega (arith, b.behind, a.behind, ap length y, ap length e, length-append f x);
      stands = b.stands ∙ ap (placed later m) y ∙ ap₂ (λ (o : List ℕ) (j : ℕ). placed o j x) a.stands a.behind
          ∙ placed_twice out n (ltb-false (length out) n t) f x ∙ ap (placed out n) e;
    })

-- ---- the bytes of s from i on, up to a place
pub fitted_from : (s out : List ℕ) (i n : ℕ) → Fitted out n (take (i - i) (drop i s)) n out
fitted_from s out i n =
    let e : i - i ≡ 0 = omega arith in
    subst (λ (k : ℕ). Fitted out n (take k (drop i s)) n out) (sym e) (fitted_start out n)

pub fitted_next : {out now later : List ℕ} {n m k : ℕ} (s : List ℕ) (i place : ℕ) → i ≤ place → place < length s
    → Fitted out n (take (place - i) (drop i s)) m now → Fitted now m (get_or s place 0 ∷ []) k later
    → Fitted out n (take (place + 1 - i) (drop i s)) k later
fitted_next {out} {now} {later} {n} {m} {k} s i place h l a b =
    let j : ℕ = place - i in
    let e : place + 1 - i ≡ suc j = omega arith in
    let p : i + j ≡ place = omega arith in
    let t : take (place + 1 - i) (drop i s) ≡ take j (drop i s) ++ (get_or s place 0 ∷ []) =
    ap (λ (x : ℕ). take x (drop i s)) e ∙ take-suc (drop i s) j 0 (omega (arith, length-drop i s))
    ∙ ap (λ (x : ℕ). take j (drop i s) ++ (x ∷ [])) (get_or-drop i s j 0 ∙ ap (λ (x : ℕ). get_or s x 0) p) in
    subst (λ (w : List ℕ). Fitted out n w k later) (sym t) (fitted_then a b)

pub fitted_all : {out later : List ℕ} {n m : ℕ} (s : List ℕ) (i place : ℕ) → length s ≤ place
    → Fitted out n (take (place - i) (drop i s)) m later → Fitted out n (drop i s) m later
fitted_all {out} {later} {n} {m} s i place h a =
    subst (λ (w : List ℕ). Fitted out n w m later) (take_all (place - i) (drop i s) (omega (arith, length-drop i s))) a
