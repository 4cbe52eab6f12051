-- Laws of `Fills` and `Lays`: what is to come may be written over whatever stands there, so that more than what is known to stand may be
-- copied. The end of the whole does not move from part to part (`end_stays`), and where nothing is to come any more that is the place
-- reached, so that all behind it is as it was. Assumes nothing.
use Prim.Native.Nat.{ℕ, ◌+◌, ◌-◌, ◌≤◌}
use mathlib.Core.Path.{◌≡◌, sym, ap, subst, ◌∙◌}
use mathlib.Core.List.{[], ◌∷◌, ◌++◌}
use native.Mathlib.Omega.{arith}
use lib.ListN.{length, take, drop, set, length-append, length-take, length-drop}
use lib.Seq.{take-nil, take-take, drop-drop, length-take-le, paste, length-paste, take-paste, drop-paste, take-append-add}
use Rattle.lists.specs.Lists.{Bytes}
use Rattle.lists.proofs.Writing.{Finished}
use Rattle.emulation.specs.Payload.{escape}
use Rattle.emulation.specs.Blocks.{block, hits}
use Rattle.emulation.specs.Parts.{critical, Writes, Gives}
use Rattle.escaping.specs.Parts.{First, Fills, Lays}
use Rattle.emulation.proofs.Theorems.{escape_longer}
use Rattle.emulation.proofs.Keeping.{passes, last_passes}
use Rattle.escaping.proofs.Clean.{escape_keeps, escape_first}
use Rattle.emulation.proofs.Outputs.{writes_start, writes_put, writes_paste, writes_end, writes_full}

end_stays : (out whole rest later : Bytes) (n m : ℕ) → n ≤ m → m ≤ length later → length later ≡ length out
    → take m later ++ take (length out - m) rest ≡ take n out ++ take (length out - n) whole
    → m + length (take (length out - m) rest) ≡ n + length (take (length out - n) whole)
end_stays out whole rest later n m h k l e =
    omega (
      arith,
      ap length e,
      length-append (take m later) (take (length out - m) rest),
      length-append (take n out) (take (length out - n) whole),
      length-take-le m later k,
      length-take-le n out (omega arith),
    )

pub fills_place : {out whole rest later : Bytes} {n m : ℕ} → Fills out n whole m rest later
    → m + length (take (length out - m) rest) ≡ n + length (take (length out - n) whole)
fills_place {out} {whole} {rest} {later} {n} {m} a = end_stays out whole rest later n m a.onward a.within a.long a.front

further : (later out : Bytes) (m e : ℕ) → drop m later ≡ drop m out → m ≤ e → drop e later ≡ drop e out
further later out m e h l =
    let k : m + (e - m) ≡ e = omega arith in
    subst (λ (i : ℕ). drop i later ≡ drop i out) k
    (sym (drop-drop (e - m) m later) ∙ ap (λ (r : Bytes). drop (e - m) r) h ∙ drop-drop (e - m) m out)

-- what is written leaves all behind it as it was
pub writes_fills : {out whole rest later : Bytes} {n m : ℕ} → Writes out n whole m rest later → Fills out n whole m rest later
writes_fills {out} {whole} {rest} {later} {n} {m} a =
    let p = end_stays out whole rest later n m a.onward a.within a.long a.front in
    record {
      onward = a.onward;
      within = a.within;
      long = a.long;
      front = a.front;
      back = further later out m (n + length (take (length out - n) whole)) a.back (omega (arith, p));
    }

-- one part after another
pub fills_then : {out whole rest later last rest₂ : Bytes} {n m k : ℕ} → Fills out n whole m rest later
    → Fills later m rest k rest₂ last → Fills out n whole k rest₂ last
fills_then {out} {whole} {rest} {later} {last} {rest₂} {n} {m} {k} a b =
    let g : drop (m + length (take (length out - m) rest)) last ≡ drop (m + length (take (length out - m) rest)) later =
    subst (λ (r : ℕ). drop (m + length (take (r - m) rest)) last ≡ drop (m + length (take (r - m) rest)) later) a.long b.back in
    record {
      onward = omega (arith, a.onward, b.onward);
      within = b.within;
      long = b.long ∙ a.long;
      front = subst (λ (r : ℕ). take k last ++ take (r - k) rest₂ ≡ take m later ++ take (r - m) rest) a.long b.front ∙ a.front;
      back = subst (λ (e : ℕ). drop e last ≡ drop e later) (fills_place a) g ∙ a.back;
    }

-- nothing is to come that has room
fills_done : {out whole rest later : Bytes} {n m : ℕ} → Fills out n whole m rest later → length (take (length out - m) rest) ≡ 0
    → Writes out n whole m rest later
fills_done {out} {whole} {rest} {later} {n} {m} a z =
    let e : n + length (take (length out - n) whole) ≡ m = omega (arith, fills_place a, z) in
    record {
      onward = a.onward;
      within = a.within;
      long = a.long;
      front = a.front;
      back = subst (λ (k : ℕ). drop k later ≡ drop k out) e a.back;
    }

-- k bytes of w are copied, of which the first f count
take_pasted : (out w : Bytes) (n k f : ℕ) → n ≤ length out → k ≤ length w → f ≤ k
    → take (n + f) (paste out n w k) ≡ take n out ++ take f w
take_pasted out w n k f h l m =
    sym (take-take (n + f) (n + k) (paste out n w k) (omega arith))
    ∙ ap (λ (r : Bytes). take (n + f) r) (take-paste out n w k h l)
    ∙ subst (λ (j : ℕ). take (j + f) (take n out ++ take k w) ≡ take n out ++ take f (take k w)) (length-take-le n out h)
    (take-append-add (take n out) (take k w) f)
    ∙ ap (λ (r : Bytes). take n out ++ r) (take-take f k w m)

fills_over : (out w rest : Bytes) (n k f : ℕ) → n + k ≤ length out → k ≤ length w → f ≤ k → k ≤ f + length rest
    → Fills out n (take f w ++ rest) (n + f) rest (paste out n w k)
fills_over out w rest n k f h l m o =
    let a = writes_paste out w rest n f (omega arith) (omega arith) in
    let same = take_pasted out w n k f (omega arith) l m ∙ sym (take_pasted out w n f f (omega arith) (omega arith) (omega arith)) in
    record {
      onward = omega arith;
      within = omega (arith, length-paste out n w k h l);
      long = length-paste out n w k h l;
      front = ap (λ (r : Bytes). r ++ take (length out - (n + f)) rest) same ∙ a.front;
      back =
          further (paste out n w k) out (n + k) (n + length (take (length out - n) (take f w ++ rest)))
          (drop-paste out n w k (omega arith) l)
          (omega (
            arith,
            length-take (length out - n) (take f w ++ rest),
            length-append (take f w) rest,
            length-take-le f w (omega arith),
          ));
    }

-- ---- the escaped form of a string
pub lays_start : (s out : Bytes) (i n : ℕ) → i ≤ length s → n ≤ length out → Lays s i out n i n out
lays_start s out i n h k = record { within = h; written = writes_fills (writes_start out (escape (drop i s)) n k) }

pub gives_lays : {s out later : Bytes} {i n j m : ℕ} → Gives escape s i out n j m later → Lays s i out n j m later
gives_lays a = record { within = a.within; written = writes_fills a.written }

pub lays_then : {s out later last : Bytes} {i n j m k l : ℕ} → Lays s i out n j m later → Lays s j later m k l last
    → Lays s i out n k l last
lays_then a b = record { within = b.within; written = fills_then a.written b.written }

-- the block at i is copied; at none of its first f places 00 00 and a byte of 0 to 3 stand
pub lays_plain : (s out : Bytes) (i n f : ℕ) → i + block + 2 ≤ length s → n + block + 2 ≤ length out → f ≤ block
    → hits critical f (drop i s) ≡ 0
    → Lays s i out n (i + f) (n + f) (paste out n (drop i s) block)
lays_plain s out i n f h k l e =
    let w : Bytes = drop i s in
    let rest : Bytes = escape (drop (i + f) s) in
    let long = length-drop i s in
    let p : escape w ≡ take f w ++ rest =
    passes critical escape escape_keeps f w (omega arith) e ∙ ap (λ (r : Bytes). take f w ++ escape r) (drop-drop f i s) in
    let few : block ≤ f + length rest = omega (arith, escape_longer (drop (i + f) s), length-drop (i + f) s) in
    record {
      within = omega arith;
      written = subst (λ (whole : Bytes). Fills out n whole (n + f) rest (paste out n w block)) (sym p)
          (fills_over out w rest n block f (omega arith) (omega arith) l few);
    }

-- at the next place they stand, and behind the 00 00 a 03 is put
pub lays_put : (s out : Bytes) (i n f : ℕ) → i + block + 2 ≤ length s → n + block + 2 ≤ length out → First critical s i block f
    → f + 2 ≤ block
    → Lays s i out n (i + f + 2) (n + f + 3) (set (paste out n (drop i s) block) (n + f + 2) 3)
lays_put s out i n f h k a l =
    let w : Bytes = drop i s in
    let rest : Bytes = escape (drop (i + f + 2) s) in
    let long = length-drop i s in
    let pasted : Bytes = paste out n w block in
    let p : escape w ≡ take (f + 2) w ++ (3 ∷ rest) = escape_first s i f a (omega arith) (omega arith) in
    let few : block ≤ f + 2 + length (3 ∷ rest) = omega (arith, escape_longer (drop (i + f + 2) s), length-drop (i + f + 2) s) in
    let room = length-paste out n w block (omega arith) (omega arith) in
    let m : n + (f + 2) ≡ n + f + 2 = omega arith in
    let o : n + f + 2 + 1 ≡ n + f + 3 = omega arith in
    let before : Fills out n (escape w) (n + f + 2) (3 ∷ rest) pasted =
    subst (λ (q : ℕ). Fills out n (escape w) q (3 ∷ rest) pasted) m
    (subst (λ (whole : Bytes). Fills out n whole (n + (f + 2)) (3 ∷ rest) pasted) (sym p)
    (fills_over out w (3 ∷ rest) n block (f + 2) (omega arith) (omega arith) l few)) in
    let three : Fills pasted (n + f + 2) (3 ∷ rest) (n + f + 3) rest (set pasted (n + f + 2) 3) =
    subst (λ (q : ℕ). Fills pasted (n + f + 2) (3 ∷ rest) q rest (set pasted (n + f + 2) 3)) o
    (writes_fills (writes_put pasted rest (n + f + 2) 3 (omega arith))) in
    record { within = omega arith; written = fills_then before three }

-- at most two bytes of the input are left, and they are copied
pub lays_rest : {s out later last : Bytes} {j m k : ℕ} → Lays s 0 out 0 j m later → length s - 2 ≤ j → Writes later m (drop j s) k [] last
    → Finished out (escape s) k last
lays_rest {s} {out} {later} {last} {j} {m} {k} a h w =
    writes_end
    (fills_done (fills_then (rw (last_passes critical escape escape_keeps s j h) at a.written) (writes_fills w))
    (ap length (take-nil (length out - k))))

-- no room is left
pub lays_full : {s out later : Bytes} {j m : ℕ} → Lays s 0 out 0 j m later → length later ≤ m → Finished out (escape s) m later
lays_full {s} {out} {later} {j} {m} a h =
    let e : length out - m ≡ 0 = omega (arith, a.written.long) in
    writes_full (fills_done a.written (rw e)) h
