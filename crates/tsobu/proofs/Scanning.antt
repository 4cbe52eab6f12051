-- The payload from a place on, from the first forbidden sequence of the string there: a start code is one, too, and it stands behind the
-- payload. Assumes nothing.
use Prim.Native.Nat.{ℕ, suc, ◌+◌, ◌≤◌, ◌<◌}
use mathlib.Core.Bool.{true, false, not, ◌&&◌, true≢false, and-false}
use mathlib.Core.Path.{◌≡◌, refl, sym, ap, ap₂, ◌∙◌}
use mathlib.Core.Logic.{◌⊎◌, inl, inr}
use mathlib.Core.List.{[], ◌∷◌, ◌++◌}
use native.Mathlib.Omega.{arith}
use borrow.Author.Tests.{not-false}
use lib.Dec.{eqb, leb}
use lib.ListN.{length, take, drop, get_or, length-drop, take-append-drop}
use lib.Seq.{drop-drop}
use Rattle.lists.specs.Lists.{Bytes}
use Rattle.lists.proofs.Tests.{case, clash}
use Rattle.lists.proofs.Threes.{by_three}
use Rattle.emulation.specs.Payload.{above3, forbidden, first_forbidden, legal, dropped}
use Rattle.emulation.specs.Blocks.{block, paired, zeros_then3, zeros_then}
use Rattle.emulation.specs.Parts.{marked, Lawful}
use Rattle.emulation.proofs.Hits.{one, none_keeps, is_free}
use Rattle.emulation.proofs.Steps.{first_yes, first_no, forbidden_at, forbidden_long, legal_yes, legal_no}
use Rattle.emulation.proofs.Zeros.{one_byte}
use Rattle.emulation.proofs.Judging.{dropped_one, marked_until, dropped_until, lawful_first, lawful_dropped}
use Rattle.tsobu.specs.StartCodes.{start_code3, at_start_code, Split, split}
use Rattle.tsobu.specs.Parts.{coded, ScannedAt}
use Rattle.tsobu.proofs.Splits.{split_byte, code_is}
use Rattle.tsobu.proofs.Places.{code_three, before, before_code, before_byte, before_end, before_taken, before_ends}

-- ---- blocks without a start code
-- without 00 00 no start code stands at a place
pub unpaired_uncoded : (l : Bytes) → paired l ≡ false → at_start_code l ≡ false
unfolding paired at_start_code
unpaired_uncoded [] e = refl
unpaired_uncoded (a ∷ []) e = refl
unpaired_uncoded (a ∷ b ∷ []) e = refl
unpaired_uncoded (a ∷ b ∷ c ∷ s) e = rw e

-- a start code is 00 00 and a byte of 1 to 1
pub is_code3 : (a b c : ℕ) → zeros_then3 1 1 a b c ≡ start_code3 a b c
is_code3 a b c = rw (one_byte 1 c)

code_of : (l : Bytes) → zeros_then 1 1 l ≡ at_start_code l
unfolding zeros_then at_start_code
code_of [] = refl
code_of (a ∷ []) = refl
code_of (a ∷ b ∷ []) = refl
code_of (a ∷ b ∷ c ∷ s) = is_code3 a b c

pub is_code : zeros_then 1 1 ≡ at_start_code
is_code = λ i l. code_of l i

-- such a block is passed over
pub uncoded_passes : (s : Bytes) (i : ℕ) → coded (drop i s) ≡ false
    → (i + block ≤ length s) × (i + block + before (drop (i + block) s) ≡ i + before (drop i s))
unfolding coded
uncoded_passes s i e =
    let h = is_free at_start_code s i (not-false _ e) in
    let w : i + block ≤ length s = omega (arith, h.0) in (
      w,
      none_keeps at_start_code s (λ j. j + before (drop j s) ≡ i + before (drop i s))
          (λ j l f p. omega (arith, p, before_byte s j l f)) block i w h.1 refl,
    )

-- ---- a start code is a forbidden sequence
code_forbidden : (l : Bytes) → at_start_code l ≡ true → forbidden l ≡ true
unfolding at_start_code forbidden
code_forbidden = by_three code_three (λ l. forbidden l ≡ true) (λ a b c s e. let z = code_is a b c e in rw (z.0, z.1, z.2))

-- so none stands before the first forbidden sequence
pub before_first : (t : Bytes) → before t ≡ first_forbidden t + before (drop (first_forbidden t) t)
unfolding first_forbidden
before_first [] = omega arith
before_first (a ∷ l) =
    case (forbidden (a ∷ l))
    (λ e. rw (first_yes a l e) (omega arith))
    (λ e.
    let c : at_start_code (a ∷ l) ≡ false = case (at_start_code (a ∷ l)) (λ t. clash (code_forbidden (a ∷ l) t) e) (λ t. t) in
    let b : before (a ∷ l) ≡ suc (before l) = ap (λ (r : Split). length r.before) (split_byte a l c) in
    rw (first_no a l e) (omega (arith, b, before_first l)))

-- ---- a payload p, and what stands behind it: nothing or a start code
abbrev Behind : Bytes → Type 0
Behind r = (r ≡ []) ⊎ (at_start_code r ≡ true)

begins : (r : Bytes) → Behind r → (r ≡ []) ⊎ ((s : Bytes) × (r ≡ 0 ∷ 0 ∷ 1 ∷ s))
unfolding at_start_code
begins r (inl e) = inl e
begins [] (inr e) = absurd (true≢false (sym e))
begins (a ∷ []) (inr e) = absurd (true≢false (sym e))
begins (a ∷ b ∷ []) (inr e) = absurd (true≢false (sym e))
begins (a ∷ b ∷ c ∷ s) (inr e) =
    let z = code_is a b c e in inr (s, ap₂ (λ (x y : ℕ). x ∷ y ∷ c ∷ s) z.0 z.1 ∙ ap (λ (x : ℕ). 0 ∷ 0 ∷ x ∷ s) z.2)

-- no 00 00 03 reaches from it into a start code, and what is forbidden in it is forbidden in the whole
module _ (a : ℕ) where
  marked_in : (p r : Bytes) → Behind r → marked (a ∷ p ++ r) ≡ marked (a ∷ p)
  unfolding marked
  marked_in [] r b = go (begins r b)
    where
      go : (r ≡ []) ⊎ ((s : Bytes) × (r ≡ 0 ∷ 0 ∷ 1 ∷ s)) → marked (a ∷ r) ≡ false
      go (inl e) = rw e
      go (inr (s, e)) = rw e (and-false (eqb a 0 && eqb 0 0))
  marked_in (x ∷ []) r b = go (begins r b)
    where
      go : (r ≡ []) ⊎ ((s : Bytes) × (r ≡ 0 ∷ 0 ∷ 1 ∷ s)) → marked (a ∷ x ∷ r) ≡ false
      go (inl e) = rw e
      go (inr (s, e)) = rw e (and-false (eqb a 0 && eqb x 0))
  marked_in (x ∷ y ∷ p) r b = refl

  above_none : (r : Bytes) → Behind r → above3 r ≡ false
  unfolding above3
  above_none r b = go (begins r b)
    where
      go : (r ≡ []) ⊎ ((s : Bytes) × (r ≡ 0 ∷ 0 ∷ 1 ∷ s)) → above3 r ≡ false
      go (inl e) = rw e
      go (inr (s, e)) = rw e

  -- with three bytes of it, the same is forbidden
  forbidden_in : (x y : ℕ) (p r : Bytes) → Behind r → forbidden (a ∷ x ∷ y ∷ p ++ r) ≡ forbidden (a ∷ x ∷ y ∷ p)
  unfolding forbidden above3
  forbidden_in x y [] r b = rw (above_none r b)
  forbidden_in x y (z ∷ p) r b = refl

  -- in fewer nothing is
  lawful_in : (p r : Bytes) → Behind r → forbidden (a ∷ p ++ r) ≡ false → forbidden (a ∷ p) ≡ false
  lawful_in [] r b e = unfold forbidden in refl
  lawful_in (x ∷ []) r b e = unfold forbidden in refl
  lawful_in (x ∷ y ∷ p) r b e = sym (forbidden_in x y p r b) ∙ e

first_behind : (r : Bytes) → Behind r → first_forbidden r ≡ 0
unfolding first_forbidden
first_behind r (inl e) = rw e
first_behind [] (inr e) = refl
first_behind (a ∷ r) (inr e) = first_yes a r (code_forbidden (a ∷ r) e)

-- ---- the search for the first forbidden sequence, from a place i on, has come to a place j, and nothing was dropped
-- a forbidden sequence stands there
first_zero : (l : Bytes) → forbidden l ≡ true → first_forbidden l ≡ 0
unfolding first_forbidden
first_zero [] e = refl
first_zero (a ∷ l) e = first_yes a l e

pub search_found : (s : Bytes) (i j : ℕ) → Lawful s i j 0 → forbidden (drop j s) ≡ true
    → (j ≡ i + first_forbidden (drop i s)) × (◌≡◌ {A = ℕ} 0 (dropped (take (first_forbidden (drop i s)) (drop i s))))
search_found s i j l e =
    let z = first_zero (drop j s) e in
    (lawful_first s i j 0 l z, lawful_dropped s i j 0 l z)

pub forbidden_low : (s : Bytes) (i : ℕ) → i + 2 < length s → get_or s i 0 ≡ 0 → get_or s (i + 1) 0 ≡ 0 → leb (get_or s (i + 2) 0) 2 ≡ true
    → forbidden (drop i s) ≡ true
forbidden_low s i h p q e = forbidden_at s i h ∙ rw (p, q, e)

-- what is found from there on is what is found from i on
pub search_on : (s : Bytes) (i j place count : ℕ) → Lawful s i j 0 → place ≡ j + first_forbidden (drop j s)
    → count ≡ dropped (take (first_forbidden (drop j s)) (drop j s))
    → (place ≡ i + first_forbidden (drop i s)) × (count ≡ dropped (take (first_forbidden (drop i s)) (drop i s)))
search_on s i j place count l e f =
    let same : drop (first_forbidden (drop i s)) (drop i s) ≡ drop (first_forbidden (drop j s)) (drop j s) =
    drop-drop (first_forbidden (drop i s)) i s ∙ ap (λ (n : ℕ). drop n s) l.first ∙ sym (drop-drop (first_forbidden (drop j s)) j s) in
    (e ∙ sym l.first, omega (arith, dropped_until (drop i s), dropped_until (drop j s), ap dropped same, l.drops.less))

short_fine : (l : Bytes) → length l ≤ 2 → (legal l ≡ true) × (dropped l ≡ 0)
unfolding legal dropped forbidden
short_fine [] h = (refl, refl)
short_fine (a ∷ []) h = (refl, refl)
short_fine (a ∷ b ∷ []) h = (refl, refl)
short_fine (a ∷ b ∷ c ∷ l) h = absurd (omega arith)

legal_behind : (a : ℕ) (p : Bytes) → legal p ≡ false → legal (a ∷ p) ≡ false
unfolding legal
legal_behind a p e = rw e (and-false (not (forbidden (a ∷ p))))

-- a payload that ends at most two bytes behind the first forbidden sequence is legal, and its bytes dropped are those before that
near : (p r : Bytes) → Behind r → length p ≤ first_forbidden (p ++ r) + 2
    → (legal p ≡ true) × (dropped p ≡ dropped (take (first_forbidden (p ++ r)) (p ++ r)))
unfolding legal dropped
near [] r b h = (refl, rw (first_behind r b))
near (a ∷ p) r b h =
    case (forbidden (a ∷ p ++ r))
    (λ e.
    let z : first_forbidden (a ∷ p ++ r) ≡ 0 = first_yes a (p ++ r) e in
    let s = short_fine (a ∷ p) (omega arith) in
    (s.0, rw z s.1))
    (λ e.
    let f : ℕ = first_forbidden (p ++ r) in
    let n : first_forbidden (a ∷ p ++ r) ≡ suc f = first_no a (p ++ r) e in
    let k = near p r b (omega arith) in
    let m : marked (a ∷ p) ≡ marked (a ∷ take f (p ++ r)) = sym (marked_in a p r b) ∙ sym (marked_until a (p ++ r)) in
    (legal_no a p (lawful_in a p r b e) ∙ k.0, rw n (omega (arith, dropped_one a p, dropped_one a (take f (p ++ r)), ap one m, k.1))))

-- one that goes on for three bytes from there is not
far : (p r : Bytes) → Behind r → first_forbidden (p ++ r) + 3 ≤ length p → legal p ≡ false
far [] r b h = absurd (omega arith)
far (a ∷ p) r b h =
    case (forbidden (a ∷ p ++ r))
    (λ e. go p e (omega (arith, first_yes a (p ++ r) e)))
    (λ e. legal_behind a p (far p r b (omega (arith, first_no a (p ++ r) e))))
  where
    go : (q : Bytes) → forbidden (a ∷ q ++ r) ≡ true → 2 ≤ length q → legal (a ∷ q) ≡ false
    go [] e k = absurd (omega arith)
    go (x ∷ []) e k = absurd (omega arith)
    go (x ∷ y ∷ q) e k = legal_yes a (x ∷ y ∷ q) (sym (forbidden_in a x y q r b) ∙ e)

-- ---- the payload at the head of a string
module _ (t : Bytes) where
  head : (split t).before ++ drop (before t) t ≡ t
  head = ap (λ (p : Bytes). p ++ drop (before t) t) (sym (before_taken t)) ∙ take-append-drop (before t) t

  pub head_legal : before t ≤ first_forbidden t + 2
      → (legal (split t).before ≡ true) × (dropped (split t).before ≡ dropped (take (first_forbidden t) t))
  head_legal h =
      let k = near (split t).before (drop (before t) t) (before_ends t) (rw head (omega arith)) in
      (k.0, rw head at k.1)

  pub head_illegal : first_forbidden t + 3 ≤ before t → legal (split t).before ≡ false
  head_illegal h = far (split t).before (drop (before t) t) (before_ends t) (rw head (omega arith))

  -- at the first forbidden sequence three bytes are there
  pub first_long : first_forbidden t < length t → first_forbidden t + 3 ≤ length t
  first_long h = omega (arith, forbidden_long (drop (first_forbidden t) t) (first_at t h), length-drop (first_forbidden t) t)
    where
      first_at : (l : Bytes) → first_forbidden l < length l → forbidden (drop (first_forbidden l) l) ≡ true
      first_at [] h = absurd (omega arith)
      first_at (a ∷ l) h =
          case (forbidden (a ∷ l))
          (λ e. rw (first_yes a l e) e)
          (λ e. rw (first_no a l e) (first_at l (omega (arith, first_no a l e))))

-- ---- the same from a place of a string on; the first forbidden sequence stands at `place`, and before it so many bytes are dropped
pub record First (s : Bytes) (start place count : ℕ) : Type 0 where
  pub at : place ≡ start + first_forbidden (drop start s)
  pub drops : count ≡ dropped (take (first_forbidden (drop start s)) (drop start s))

module _ {s : Bytes} {start place count : ℕ} (first : First s start place count) where
  there : drop (first_forbidden (drop start s)) (drop start s) ≡ drop place s
  there = drop-drop (first_forbidden (drop start s)) start s ∙ ap (λ (n : ℕ). drop n s) (sym first.at)

  scan_before : start + before (drop start s) ≡ place + before (drop place s)
  scan_before = omega (arith, first.at, before_first (drop start s), ap before there)

  pub scan_long : place < length s → place + 3 ≤ length s
  scan_long h =
      let e = first.at in
      omega (arith, first_long (drop start s) (omega (arith, length-drop start s)), length-drop start s)

  -- the payload ends there, or up to two bytes further on
  pub scan_legal : (n end : ℕ) → n ≤ 2 → before (drop place s) ≡ n → end ≡ place + n
      → ScannedAt s start (record { end = end; legal = true; dropped = count })
  scan_legal n end h e f =
      let k = head_legal (drop start s) (omega (arith, first.at, scan_before)) in
      record { ends = omega (arith, scan_before); lawful = sym k.0; drops = λ t. first.drops ∙ sym k.1 }

  -- it goes on for three bytes and more
  pub scan_illegal : (end : ℕ) → 3 ≤ before (drop place s) → end ≡ place + before (drop place s)
      → ScannedAt s start (record { end = end; legal = false; dropped = 0 })
  scan_illegal end h e =
      record {
        ends = omega (arith, scan_before);
        lawful = sym (head_illegal (drop start s) (omega (arith, first.at, scan_before)));
        drops = λ t. absurd (true≢false (sym t));
      }

  -- where the next start code stands
  pub none_left : length s ≤ place → before (drop place s) ≡ 0
  none_left h = before_end s place h

  -- a start code stands at `end`, and at no place before it
  pub scan_code : (end : ℕ) → end < place + 3 → end + before (drop end s) ≡ place + before (drop place s)
      → at_start_code (drop end s) ≡ true
      → ScannedAt s start (record { end = end; legal = true; dropped = count })
  scan_code end l h e =
      let b = before_code (drop end s) e in
      scan_legal (before (drop place s)) end (omega arith) refl (omega arith)
