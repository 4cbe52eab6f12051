-- At how many of the first places of a string a test holds (`hits`): one place more, at the end or at the front; a loop that counts them
-- (`Counted`); what each place keeps at which it does not hold; blocks in which it holds nowhere (`free_of`). Assumes nothing.
use Rattle.std.specs.Prelude.{Some, None}
use Prim.Native.Nat.{ℕ, zero, suc, ◌+◌, ◌-◌, ◌≤◌, ◌<◌}
use mathlib.Core.Bool.{Bool, true, false}
use mathlib.Core.Path.{◌≡◌, refl, ap, subst₂, ◌∙◌}
use mathlib.Core.List.{[], ◌∷◌}
use native.Mathlib.Omega.{arith}
use native.Mathlib.Numerals.{add-one}
use lib.Dec.{leb, eqb}
pub use mir.Val.{bool_byte as one}
use lib.ListN.{length, drop, get_or, length-drop}
use lib.Seq.{drop-drop}
use borrow.Author.Tests.{eqb-true, leb-true, le-leb}
use Rattle.lists.specs.Lists.{Bytes, pick}
use Rattle.lists.proofs.Tests.{case, and_both}
use Rattle.lists.proofs.Parts.{next}
use Rattle.emulation.specs.Blocks.{hits, block, counted, free_of}
use Rattle.emulation.specs.Parts.{Decides}

pub one_most : (t : Bool) → one t ≤ 1
one_most true = omega arith
one_most false = omega arith

-- the first place
pub hits_first : (test : Bytes → Bool) (n a : ℕ) (s : Bytes) → hits test (suc n) (a ∷ s) ≡ one (test (a ∷ s)) + hits test n s
unfolding hits
hits_first test n a s = case (test (a ∷ s)) (λ e. rw (e, hits) (omega arith)) (λ e. rw (e, hits) (omega arith))

-- a loop has counted the first j places of the block at i
pub record Counted (test : Bytes → Bool) (s : Bytes) (i j count : ℕ) : Type 0 where
  pub within : j ≤ block
  pub few : count ≤ j
  pub is : count ≡ hits test j (drop i s)

-- a function whose contract is that it makes a test of strings at a place makes it at the places of a block
pub decides : (what : Bytes → Bool) → what [] ≡ false → (s : Bytes) (i : ℕ)
    → Decides (λ p k holds. holds ≡ what (drop k p.now)) what s i
decides what none s i = (none, λ p j holds e h k. rw e at k)

module _ (test : Bytes → Bool) where
  -- one place more, at the end
  hits_more : test [] ≡ false → (n : ℕ) (l : Bytes) → hits test (suc n) l ≡ hits test n l + one (test (drop n l))
  unfolding hits
  hits_more none zero [] = rw none
  hits_more none zero (a ∷ l) = hits_first test zero a l ∙ (omega arith)
  hits_more none (suc n) [] = rw none
  hits_more none (suc n) (a ∷ l) = omega (arith, hits_first test (suc n) a l, hits_first test n a l, hits_more none n l)

  pub hits_at : test [] ≡ false → (s : Bytes) (i j : ℕ) (t : Bool) → test (drop (i + j) s) ≡ t
      → hits test (j + 1) (drop i s) ≡ hits test j (drop i s) + one t
  hits_at none s i j t e =
      let d : test (drop j (drop i s)) ≡ t = rw drop-drop e in
      rw add-one (hits_more none j (drop i s) ∙ ap (λ (x : Bool). hits test j (drop i s) + one x) d)

  -- a loop begins, passes a place, and has come to the end of the block
  pub counted_start : (s : Bytes) (i : ℕ) → Counted test s i 0 0
  unfolding hits
  counted_start s i = record { within = omega arith; few = omega arith; is = refl }

  pub counted_next : test [] ≡ false → {s : Bytes} {i j count : ℕ} (t : Bool) → Counted test s i j count → j < block
      → test (drop (i + j) s) ≡ t
      → Counted test s i (j + 1) (count + one t)
  counted_next none {s} {i} {j} t c h e =
      record {
        within = omega arith;
        few = omega (arith, c.few, one_most t);
        is = omega (arith, c.is, hits_at none s i j t e);
      }

  pub counted_all : {s : Bytes} {i j count : ℕ} → Counted test s i j count → block ≤ j → count ≡ hits test block (drop i s)
  counted_all {j = j} c h = let e : j ≡ block = omega (arith, c.within) in rw e at c.is

  -- where it holds nowhere, it does not hold at the first place, and nowhere after it
  pub none_first : (n a : ℕ) (s : Bytes) → hits test (suc n) (a ∷ s) ≡ 0 → (test (a ∷ s) ≡ false) × (hits test n s ≡ 0)
  none_first n a s e =
      case (test (a ∷ s))
      (λ t. absurd (omega (arith, hits_first test n a s, ap one t)))
      (λ t. (t, omega (arith, hits_first test n a s, ap one t)))

  -- then a test that holds only where it does holds nowhere too
  pub none_either : (other : Bytes → Bool) → ((l : Bytes) → test l ≡ false → other l ≡ false)
      → (n : ℕ) (s : Bytes) → hits test n s ≡ 0 → hits other n s ≡ 0
  unfolding hits
  none_either other only zero s e = refl
  none_either other only (suc n) [] e = refl
  none_either other only (suc n) (a ∷ s) e =
      let m = none_first n a s e in
      omega (arith, hits_first other n a s, ap one (only (a ∷ s) m.0), none_either other only n s m.1)

  -- a block, whether two bytes come after it or not
  pub counted_short : (s : Bytes) (i : ℕ) → leb (block + 2) (length s - i) ≡ false → counted test (drop i s) ≡ None
  unfolding counted pick
  counted_short s i e = rw (length-drop, e)

  pub counted_whole : (s : Bytes) (i : ℕ) → leb (block + 2) (length s - i) ≡ true
      → counted test (drop i s) ≡ Some (hits test block (drop i s))
  unfolding counted pick
  counted_whole s i e = rw (length-drop, e)

  -- a block in which it holds nowhere
  pub free_short : (s : Bytes) (i : ℕ) → leb (block + 2) (length s - i) ≡ false → free_of test (drop i s) ≡ false
  unfolding free_of
  free_short s i e = rw (length-drop, e)

  pub free_whole : (s : Bytes) (i : ℕ) → leb (block + 2) (length s - i) ≡ true
      → free_of test (drop i s) ≡ eqb (hits test block (drop i s)) 0
  unfolding free_of
  free_whole s i e = rw (length-drop, e)

  pub is_free : (s : Bytes) (i : ℕ) → free_of test (drop i s) ≡ true → (i + block + 2 ≤ length s) × (hits test block (drop i s) ≡ 0)
  unfolding free_of
  is_free s i e =
      let h = and_both (leb (block + 2) (length (drop i s))) (eqb (hits test block (drop i s)) 0) e in
      let k = leb-true (block + 2) (length (drop i s)) h.0 in
      (omega (arith, length-drop i s), eqb-true (hits test block (drop i s)) 0 h.1)

  pub free_either : (other : Bytes → Bool) → ((l : Bytes) → test l ≡ false → other l ≡ false) → (s : Bytes) (i : ℕ)
      → free_of test (drop i s) ≡ true → free_of other (drop i s) ≡ true
  unfolding free_of
  free_either other only s i e =
      let h = is_free s i e in
      rw (none_either other only block (drop i s) h.1, length-drop, le-leb (block + 2) (length s - i) (omega (arith, h.0)))

  -- what each place keeps at which it does not hold, all these places keep, with the count of another test that grows meanwhile
  pub none_counts : (other : Bytes → Bool) (s : Bytes) (P : ℕ → ℕ → Type 0)
      → ((j d : ℕ) → j < length s → test (drop j s) ≡ false → P j d → P (j + 1) (d + one (other (drop j s))))
      → (n j d : ℕ) → j + n ≤ length s → hits test n (drop j s) ≡ 0 → P j d → P (j + n) (d + hits other n (drop j s))
  unfolding hits
  none_counts other s P step zero j d h e p =
      let z : j ≡ j + 0 = omega arith in
      let y : d ≡ d + 0 = omega arith in
      subst₂ P z y p
  none_counts other s P step (suc n) j d h e p =
      let z : j + 1 + n ≡ j + suc n = omega arith in
      let c : drop j s ≡ get_or s j 0 ∷ drop (j + 1) s = next s j (omega arith) in
      let k = none_first n (get_or s j 0) (drop (j + 1) s) (rw c at e) in
      let m : hits other (suc n) (drop j s) ≡ one (other (drop j s)) + hits other n (drop (j + 1) s) =
      rw c (hits_first other n (get_or s j 0) (drop (j + 1) s)) in
      let y : d + one (other (drop j s)) + hits other n (drop (j + 1) s) ≡ d + hits other (suc n) (drop j s) = omega arith in
      subst₂ P z y
      (none_counts other s P step n (j + 1) (d + one (other (drop j s))) (omega arith) k.1 (step j d (omega arith) (rw c k.0) p))

  pub none_keeps : (s : Bytes) (P : ℕ → Type 0) → ((j : ℕ) → j < length s → test (drop j s) ≡ false → P j → P (j + 1))
      → (n i : ℕ) → i + n ≤ length s → hits test n (drop i s) ≡ 0 → P i → P (i + n)
  none_keeps s P step n i h e p = none_counts test s (λ j d. P j) (λ j d l f q. step j l f q) n i 0 h e p
