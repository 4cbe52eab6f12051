-- Laws of `Writes`: nothing is written yet, one byte, as much of a string as has room, the first bytes of a list, one part after another,
-- and what stands in the output at the end; a block that is copied. Assumes nothing.
use Prim.Native.Nat.{ℕ, suc, ◌+◌, ◌-◌, ◌≤◌, ◌<◌}
use mathlib.Core.Bool.{true, false, ◌&&◌, and-false}
use mathlib.Core.Path.{◌≡◌, refl, sym, ap, subst, subst₂, ◌∙◌}
use mathlib.Core.List.{[], ◌∷◌, ◌++◌, append-nil, append_assoc}
use native.Mathlib.Omega.{arith}
use native.Mathlib.Numerals.{add-one}
use lib.ListN.{length, take, drop, set, get_or, length-set, length-drop, take-append-drop}
use lib.Seq.{take-nil, take-suc, take-suc-set, append_snoc, drop-set-lt, drop-drop, get_or-drop, length-take-le, paste, length-paste}
use lib.Seq.{take-paste, drop-paste, take-append-add}
use lib.Dec.{leb}
use borrow.Author.Tests.{le-leb}
use Rattle.lists.specs.Lists.{Bytes, placed, fitting, Fitted}
use Rattle.lists.proofs.Picks.{by_true, by_false}
use Rattle.lists.proofs.Placed.{placed_front, placed_back, placed_long}
use Rattle.lists.proofs.Fitting.{fitting_most, fitting_append, fitting_one}
use Rattle.lists.proofs.Writing.{Finished}
use Rattle.emulation.specs.Blocks.{block, block_copied}
use Rattle.emulation.specs.Parts.{Writes}

pub writes_start : (out whole : Bytes) (n : ℕ) → n ≤ length out → Writes out n whole n whole out
writes_start out whole n h = record { onward = omega arith; within = h; long = refl; front = refl; back = refl }

-- one part after another
pub writes_then : {out whole rest later last rest₂ : Bytes} {n m k : ℕ} → Writes out n whole m rest later
    → Writes later m rest k rest₂ last → Writes out n whole k rest₂ last
writes_then {out} {whole} {rest} {later} {last} {rest₂} {n} {m} {k} a b =
    let e : m + (k - m) ≡ k = omega (arith, b.onward) in
    let g : drop k later ≡ drop k out =
    subst (λ (i : ℕ). drop i later ≡ drop i out) e
    (sym (drop-drop (k - m) m later) ∙ ap (λ (l : Bytes). drop (k - m) l) a.back ∙ drop-drop (k - m) m out) in
    record {
      onward = omega (arith, a.onward, b.onward);
      within = b.within;
      long = b.long ∙ a.long;
      front = subst (λ (r : ℕ). take k last ++ take (r - k) rest₂ ≡ take m later ++ take (r - m) rest) a.long b.front ∙ a.front;
      back = b.back ∙ g;
    }

-- one byte
pub writes_put : (out rest : Bytes) (n b : ℕ) → n < length out → Writes out n (b ∷ rest) (n + 1) rest (set out n b)
writes_put out rest n b h =
    let e : length out - n ≡ suc (length out - (n + 1)) = omega arith in
    record {
      onward = omega arith;
      within = omega (arith, length-set out n b);
      long = length-set out n b;
      front = rw (e, add-one, take-suc-set out n b h) (append_snoc (take n out) b (take (length out - suc n) rest));
      back = drop-set-lt (n + 1) out n b (omega arith);
    }

-- as much of w as has room; what has none counts as written
pub writes_fitted : {out w later : Bytes} {n m : ℕ} (rest : Bytes) → n ≤ length out → Fitted out n w m later
    → Writes out n (w ++ rest) m rest later
writes_fitted {out} {w} {later} {n} {m} rest h a =
    let f : Bytes = fitting out n w in
    let room = fitting_most out n w in
    let x : Bytes = take (length out - (n + length f)) rest in
    let done : Writes out n (w ++ rest) (n + length f) rest (placed out n f) =
    record {
      onward = omega arith;
      within = omega (arith, placed_long out n h f (omega arith));
      long = placed_long out n h f (omega arith);
      front = ap (λ (l : Bytes). l ++ x) (placed_front out n h f) ∙ append_assoc (take n out) f x
          ∙ ap (λ (l : Bytes). take n out ++ l) (fitting_append out n w rest);
      back = placed_back out n h f ∙ drop-drop (length f) n out;
    } in
    subst₂ (λ (k : ℕ) (l : Bytes). Writes out n (w ++ rest) k rest l) (sym a.behind) (sym a.stands) done

-- one byte, where there is room
pub put_onward : {out later : Bytes} {n b m : ℕ} → Fitted out n (b ∷ []) m later → n < length out → n < m
put_onward {out} {n = n} {b = b} a h = omega (arith, a.behind, ap length (fitting_one out n b h))

-- all that is left
pub writes_rest : {out later w : Bytes} {n m : ℕ} → n ≤ length out → Fitted out n w m later → Writes out n w m [] later
writes_rest {out} {later} {w} {n} {m} h a = subst (λ (l : Bytes). Writes out n l m [] later) (append-nil w) (writes_fitted [] h a)

-- the first k bytes of w
pub writes_paste : (out w rest : Bytes) (n k : ℕ) → n + k ≤ length out → k ≤ length w
    → Writes out n (take k w ++ rest) (n + k) rest (paste out n w k)
writes_paste out w rest n k h m =
    let r : ℕ = length out - (n + k) in
    let e : length (take k w) + r ≡ length out - n = omega (arith, length-take-le k w m) in
    record {
      onward = omega arith;
      within = omega (arith, length-paste out n w k h m);
      long = length-paste out n w k h m;
      front =
          ap (λ (l : Bytes). l ++ take r rest) (take-paste out n w k (omega arith) m) ∙ append_assoc (take n out) (take k w) (take r rest)
          ∙ ap (λ (l : Bytes). take n out ++ l) (sym (take-append-add (take k w) rest r) ∙ ap (λ (j : ℕ). take j (take k w ++ rest)) e);
      back = drop-paste out n w k (omega arith) m;
    }

-- nothing is left that has room
finished : {out whole rest later : Bytes} {m : ℕ} → Writes out 0 whole m rest later → take (length out - m) rest ≡ []
    → Finished out whole m later
finished {out} {whole} {rest} {later} {m} w e =
    let z : length out - 0 ≡ length out = omega arith in
    let f : take m later ≡ take (length out) whole =
    sym (append-nil (take m later)) ∙ ap (λ (l : Bytes). take m later ++ l) (sym e) ∙ w.front ∙ ap (λ (k : ℕ). take k whole) z in
    let n : m ≡ length (take (length out) whole) = sym (length-take-le m later w.within) ∙ ap length f in (
      n,
      sym (take-append-drop m later) ∙ ap (λ (l : Bytes). l ++ drop m later) f ∙ ap (λ (l : Bytes). take (length out) whole ++ l) w.back
          ∙ ap (λ (k : ℕ). take (length out) whole ++ drop k out) n,
    )

-- the list has come to its end
pub writes_end : {out whole later : Bytes} {m : ℕ} → Writes out 0 whole m [] later → Finished out whole m later
writes_end {out} {m = m} w = finished w (take-nil (length out - m))

-- the output has come to its end
pub writes_full : {out whole rest later : Bytes} {m : ℕ} → Writes out 0 whole m rest later → length later ≤ m → Finished out whole m later
writes_full {out} {m = m} w h = let e : length out - m ≡ 0 = omega (arith, w.long) in finished w (rw e)

-- ---- a loop that takes the elements of s from i on into t: one more
pub take_next : (s t : Bytes) (i j : ℕ) → j < length t → i + j < length s → take j t ≡ take j (drop i s)
    → take (j + 1) (set t j (get_or s (i + j) 0)) ≡ take (j + 1) (drop i s)
take_next s t i j h k e =
    let m : j < length (drop i s) = omega (arith, length-drop i s) in
    rw (add-one, take-suc-set t j (get_or s (i + j) 0) h, take-suc (drop i s) j 0 m, get_or-drop i s j 0)
    (ap (λ (l : Bytes). l ++ (get_or s (i + j) 0 ∷ [])) e)

-- ---- a block, where both have one
pub block_copied_lem : (s out : Bytes) (i n : ℕ) → i + block ≤ length s → n + block ≤ length out
    → block_copied s i out n ≡ paste out n (drop i s) block
unfolding block_copied
block_copied_lem s out i n h k =
    let w : Bytes = drop i s in
    let t : leb (i + block) (length s) && leb (n + block) (length out) ≡ true =
    rw (le-leb (i + block) (length s) h, le-leb (n + block) (length out) k) in
    let l : length (take block w) ≡ block = length-take-le block w (omega (arith, length-drop i s)) in
    sym (by_true {x = placed out n (take block w)} out t refl)
    ∙ ap (λ (j : ℕ). take n out ++ (take block w ++ drop j (drop n out))) l
    ∙ ap (λ (x : Bytes). take n out ++ (take block w ++ x)) (drop-drop block n out)
    ∙ sym (append_assoc (take n out) (take block w) (drop (n + block) out))

-- one of the two has none
pub block_unread : (s out : Bytes) (i n : ℕ) → leb (i + block) (length s) ≡ false → out ≡ block_copied s i out n
unfolding block_copied
block_unread s out i n e =
    let t : leb (i + block) (length s) && leb (n + block) (length out) ≡ false = rw e in
    by_false (placed out n (take block (drop i s))) t refl

pub block_unwritten : (s out : Bytes) (i n : ℕ) → leb (n + block) (length out) ≡ false → out ≡ block_copied s i out n
unfolding block_copied
block_unwritten s out i n e =
    let t : leb (i + block) (length s) && leb (n + block) (length out) ≡ false = rw e (and-false (leb (i + block) (length s))) in
    by_false (placed out n (take block (drop i s))) t refl
