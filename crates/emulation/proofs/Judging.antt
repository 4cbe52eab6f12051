-- A pass that judges a payload: between the places that it has gone over no forbidden sequence begins, and it knows how many bytes
-- unescaping drops there (`Lawful`). Assumes nothing.
use Prim.Native.Nat.{ℕ, suc, ◌+◌, ◌-◌, ◌≤◌, ◌<◌}
use mathlib.Core.Bool.{true, false, ◌&&◌, ◌||◌, true≢false, and-false}
use mathlib.Core.Path.{◌≡◌, refl, sym, ap, ap₂, subst, ◌∙◌}
use mathlib.Core.List.{[], ◌∷◌}
use native.Mathlib.Omega.{arith}
use borrow.Author.Tests.{eqb-true, ne_eqb}
use lib.Dec.{leb, ltb, eqb}
use lib.ListN.{length, take, drop, get_or, length-drop, drop_of_length-le}
use lib.Seq.{drop-drop, take_all}
use Rattle.lists.specs.Lists.{Bytes}
use Rattle.lists.proofs.Tests.{case, clash, and_both}
use Rattle.lists.proofs.Parts.{next}
use Rattle.lists.proofs.Threes.{by_three}
use Rattle.emulation.specs.Payload.{marked3, unescape, dropped, forbidden, above3, first_forbidden, legal}
use Rattle.emulation.specs.Blocks.{paired, hits, block}
use Rattle.emulation.specs.Parts.{marked, critical, Lawful}
use Rattle.emulation.proofs.Steps.{marked_is, marked_at, marked_fits, forbidden_at, above3_at, unescape_plain, dropped_marked}
use Rattle.emulation.proofs.Steps.{dropped_plain, dropped_at_marked, dropped_at_plain, first_yes, first_no, first_next}
use Rattle.emulation.proofs.Steps.{illegal_before, legal_after, marked_three}
use Rattle.emulation.proofs.Critical.{uncritical_unmarked, uncritical_lawful, critical_marked, critical_at, paired_at}
use Rattle.emulation.proofs.Critical.{unpaired_uncritical}
use Rattle.emulation.proofs.Hits.{one, one_most, none_keeps, none_counts}
use Rattle.emulation.proofs.Passes.{counts_start, counts_then, counts_none, counts_some}

pub lawful_start : (s : Bytes) (i : ℕ) → i ≤ length s → Lawful s i i 0
lawful_start s i h = record { drops = counts_start _ s i h; first = refl }

-- the two passes, one after the other
pub lawful_then : (s : Bytes) (i j k d e : ℕ) → Lawful s i j d → Lawful s j k e → Lawful s i k (d + e)
lawful_then s i j k d e a b = record { drops = counts_then a.drops b.drops; first = a.first ∙ b.first }

-- a place at which 00 00 and a byte of 0 to 3 do not stand
pub lawful_plain : (s : Bytes) (i j d : ℕ) → Lawful s i j d → j < length s → critical (drop j s) ≡ false → Lawful s i (j + 1) d
lawful_plain s i j d l h e =
    record {
      drops = counts_none l.drops 1 (omega arith) (dropped_at_plain s j h (uncritical_unmarked (drop j s) e));
      first = omega (arith, l.first, first_next s j h (uncritical_lawful (drop j s) e));
    }

-- a block without 00 00
pub lawful_unpaired : (s : Bytes) (i j d : ℕ) → Lawful s i j d → j + block ≤ length s → hits paired block (drop j s) ≡ 0
    → Lawful s i (j + block) d
lawful_unpaired s i j d l h e =
    none_keeps paired s (λ k. Lawful s i k d) (λ k m f p. lawful_plain s i k d p m (unpaired_uncritical (drop k s) f)) block j h e l

-- ---- one place, whatever stands there
-- no 00 00 03 stands at the second or the third byte of one
second_unmarked : (s : Bytes) → marked (0 ∷ 3 ∷ s) ≡ false
unfolding marked
second_unmarked [] = refl
second_unmarked (a ∷ s) = refl

third_unmarked : (s : Bytes) → marked (3 ∷ s) ≡ false
unfolding marked
third_unmarked [] = refl
third_unmarked (a ∷ []) = refl
third_unmarked (a ∷ b ∷ s) = refl

dropped_zeros : (s : Bytes) → dropped (0 ∷ 0 ∷ 3 ∷ s) ≡ suc (dropped (0 ∷ 3 ∷ s))
unfolding marked
dropped_zeros s =
    dropped_marked (0 ∷ 0 ∷ 3 ∷ s) refl
    ∙ ap suc (sym (dropped_plain 0 (3 ∷ s) (second_unmarked s) ∙ dropped_plain 3 s (third_unmarked s)))

dropped_here : (a : ℕ) (l : Bytes) → marked (a ∷ l) ≡ true → dropped (a ∷ l) ≡ suc (dropped l)
unfolding marked
dropped_here a [] e = absurd (true≢false (sym e))
dropped_here a (b ∷ []) e = absurd (true≢false (sym e))
dropped_here a (b ∷ c ∷ s) e =
    let h = marked_is a b c e in
    rw (h.0, h.1, h.2) (dropped_zeros s)

-- the removal steps are the places of 00 00 03
pub dropped_one : (a : ℕ) (l : Bytes) → dropped (a ∷ l) ≡ one (marked (a ∷ l)) + dropped l
dropped_one a l =
    case (marked (a ∷ l))
    (λ t. omega (arith, dropped_here a l t, ap one t))
    (λ t. omega (arith, dropped_plain a l t, ap one t))

pub lawful_one : (s : Bytes) (i j d : ℕ) → Lawful s i j d → j < length s → forbidden (drop j s) ≡ false
    → Lawful s i (j + 1) (d + one (marked (drop j s)))
lawful_one s i j d l h f =
    let e : dropped (drop j s)
    ≡ one (marked (drop j s)) + dropped (drop (j + 1) s) = rw (next s j h) (dropped_one (get_or s j 0) (drop (j + 1) s)) in
    record {
      drops = counts_some l.drops 1 (one (marked (drop j s))) (one_most (marked (drop j s))) (omega arith) e;
      first = omega (arith, l.first, first_next s j h f);
    }

-- a block at no place of which a forbidden sequence begins
pub lawful_block : (s : Bytes) (i j d : ℕ) → Lawful s i j d → j + block ≤ length s → hits forbidden block (drop j s) ≡ 0
    → Lawful s i (j + block) (d + hits marked block (drop j s))
lawful_block s i j d l h e =
    none_counts forbidden marked s (λ k m. Lawful s i k m) (λ k m n f p. lawful_one s i k m p n f) block j d h e l

-- a forbidden sequence, where four bytes are there
pub forbidden_four : (s : Bytes) (i : ℕ) → i + 3 < length s
    → forbidden (drop i s)
    ≡ eqb (get_or s i 0) 0 && eqb (get_or s (i + 1) 0) 0 && (leb (get_or s (i + 2) 0) 2 ||
    (eqb (get_or s (i + 2) 0) 3 && ltb 3 (get_or s (i + 3) 0)))
forbidden_four s i h = forbidden_at s i (omega arith) ∙ rw (above3_at s (i + 3) h)

-- the same behind 00 00
pub forbidden_behind : (s : Bytes) (i : ℕ) → i + 2 < length s → paired (drop i s) ≡ true
    → forbidden (drop i s) ≡ leb (get_or s (i + 2) 0) 2 || (eqb (get_or s (i + 2) 0) 3 && above3 (drop (i + 3) s))
forbidden_behind s i h p =
    let k = and_both (eqb (get_or s i 0) 0) (eqb (get_or s (i + 1) 0) 0) (sym (paired_at s i (omega arith)) ∙ p) in
    forbidden_at s i h ∙ rw (k.0, k.1)

-- ---- places that a byte rules out
unpaired_first : (s : Bytes) (j : ℕ) → j < length s → (get_or s j 0 ≡ 0 → ⊥) → paired (drop j s) ≡ false
unfolding paired
unpaired_first s j h z = rw (next s j h) (go (get_or s j 0) (drop (j + 1) s) z)
  where
    go : (a : ℕ) (l : Bytes) → (a ≡ 0 → ⊥) → paired (a ∷ l) ≡ false
    go a [] n = refl
    go a (b ∷ l) n = rw (ne_eqb a 0 n)

unpaired_second : (s : Bytes) (j : ℕ) → j + 1 < length s → (get_or s (j + 1) 0 ≡ 0 → ⊥) → paired (drop j s) ≡ false
unpaired_second s j h z = paired_at s j h ∙ rw (ne_eqb (get_or s (j + 1) 0) 0 z) (and-false (eqb (get_or s j 0) 0))

-- the first byte is not 00
pub lawful_past_one : (s : Bytes) (i j d : ℕ) → Lawful s i j d → j < length s → (get_or s j 0 ≡ 0 → ⊥) → Lawful s i (j + 1) d
lawful_past_one s i j d l h z = lawful_plain s i j d l h (unpaired_uncritical (drop j s) (unpaired_first s j h z))

-- the second byte is not 00
pub lawful_past_two : (s : Bytes) (i j d : ℕ) → Lawful s i j d → j + 1 < length s → (get_or s (j + 1) 0 ≡ 0 → ⊥) → Lawful s i (j + 2) d
lawful_past_two s i j d l h z =
    let e : j + 1 + 1 ≡ j + 2 = omega arith in
    subst (λ (k : ℕ). Lawful s i k d) e
    (lawful_past_one s i (j + 1) d (lawful_plain s i j d l (omega arith) (unpaired_uncritical (drop j s) (unpaired_second s j h z))) h z)

-- the third byte is above 3, or stands there without 00 00 before it
pub lawful_past_three : (s : Bytes) (i j d : ℕ) → Lawful s i j d → j + 2 < length s → forbidden (drop j s) ≡ false
    → (get_or s (j + 2) 0 ≡ 3 → ⊥) → paired (drop j s) ≡ true
    → Lawful s i (j + 3) d
lawful_past_three s i j d l h f z p =
    let g = forbidden_at s j h in
    let k = and_both (eqb (get_or s j 0) 0) (eqb (get_or s (j + 1) 0) 0) (sym (paired_at s j (omega arith)) ∙ p) in
    let c : (get_or s (j + 2) 0 ≡ 0 → ⊥) = λ e. clash (g ∙ rw (k.0, k.1, e)) f in
    let u : critical (drop j s) ≡ false =
    case (critical (drop j s))
    (λ t. absurd (z (marked_is (get_or s j 0) (get_or s (j + 1) 0) (get_or s (j + 2) 0)
    (sym (marked_at s j h) ∙ critical_marked (drop j s) t f)).2))
    (λ t. t) in
    let e : j + 1 + 2 ≡ j + 3 = omega arith in
    let n : j + 1 + 1 ≡ j + 2 = omega arith in
    subst (λ (k : ℕ). Lawful s i k d) e
    (lawful_past_two s i (j + 1) d (lawful_plain s i j d l (omega arith) u) (omega arith)
    (subst (λ (k : ℕ). get_or s k 0 ≡ 0 → ⊥) (sym n) c))

-- neither of the two last bytes of 00 00 03 begins a forbidden sequence
after_mark : (t : Bytes) → first_forbidden (0 ∷ 3 ∷ t) ≡ suc (suc (first_forbidden t))
unfolding forbidden
after_mark [] = first_no 0 (3 ∷ []) refl ∙ ap suc (first_no 3 [] refl)
after_mark (x ∷ []) = first_no 0 (3 ∷ x ∷ []) refl ∙ ap suc (first_no 3 (x ∷ []) refl)
after_mark (x ∷ y ∷ t) = first_no 0 (3 ∷ x ∷ y ∷ t) refl ∙ ap suc (first_no 3 (x ∷ y ∷ t) refl)

first_marked : (l : Bytes) → marked l ≡ true → forbidden l ≡ false → first_forbidden l ≡ suc (suc (suc (first_forbidden (drop 3 l))))
unfolding marked
first_marked =
    by_three marked_three (λ l. forbidden l ≡ false → first_forbidden l ≡ suc (suc (suc (first_forbidden (drop 3 l)))))
    (λ a b c t m f.
    let h = marked_is a b c m in
    first_no a (b ∷ c ∷ t) f ∙ ap suc (ap₂ (λ (x y : ℕ). first_forbidden (x ∷ y ∷ t)) h.1 h.2 ∙ after_mark t))

-- a 00 00 03 that begins no forbidden sequence
pub lawful_marked : (s : Bytes) (i j d : ℕ) → Lawful s i j d → critical (drop j s) ≡ true → forbidden (drop j s) ≡ false
    → Lawful s i (j + 3) (d + 1)
lawful_marked s i j d l e f =
    let m = critical_marked (drop j s) e f in
    let k : first_forbidden (drop j s) ≡ suc (suc (suc (first_forbidden (drop (j + 3) s)))) =
    first_marked (drop j s) m f ∙ rw (drop-drop 3 j s) in
    record {
      drops =
          counts_some l.drops 3 1 (omega arith) (marked_fits s j l.drops.within m) (omega (arith, dropped_at_marked s j m));
      first = omega (arith, l.first);
    }

-- the same where the third byte was looked at
pub lawful_past_mark : (s : Bytes) (i j d : ℕ) → Lawful s i j d → j + 2 < length s → forbidden (drop j s) ≡ false → get_or s (j + 2) 0 ≡ 3
    → paired (drop j s) ≡ true
    → Lawful s i (j + 3) (d + 1)
lawful_past_mark s i j d l h f z p =
    let k = and_both (eqb (get_or s j 0) 0) (eqb (get_or s (j + 1) 0) 0) (sym (paired_at s j (omega arith)) ∙ p) in
    lawful_marked s i j d l (critical_at s j h ∙ rw (k.0, k.1, z)) f

-- ---- the end of a pass
-- at most two bytes are left
short_drops : (l : Bytes) → length l < 3 → dropped l ≡ 0
unfolding dropped
short_drops [] h = refl
short_drops (a ∷ []) h = refl
short_drops (a ∷ b ∷ []) h = refl
short_drops (a ∷ b ∷ c ∷ s) h = absurd (omega arith)

short_first : (l : Bytes) → length l < 3 → first_forbidden l ≡ length l
unfolding first_forbidden forbidden
short_first [] h = refl
short_first (a ∷ []) h = refl
short_first (a ∷ b ∷ []) h = refl
short_first (a ∷ b ∷ c ∷ s) h = absurd (omega arith)

-- the pass goes on to the end
pub lawful_rest : (s : Bytes) (i j d : ℕ) → Lawful s i j d → length s - 2 ≤ j → Lawful s i (length s) d
unfolding dropped first_forbidden
lawful_rest s i j d l h =
    let n : length (drop j s) ≡ length s - j = length-drop j s in
    let k : length (drop j s) < 3 = omega arith in
    let z : drop (length s) s ≡ [] = drop_of_length-le s {i = length s} (omega arith) in
    let d = l.drops in
    record {
      drops = record {
        onward = omega (arith, d.onward, d.within);
        within = omega arith;
        less = rw z (omega (arith, d.less, short_drops (drop j s) k));
      };
      first = rw z (omega (arith, l.first, d.within, short_first (drop j s) k));
    }

pub first_past : (s : Bytes) → first_forbidden (drop (length s) s) ≡ 0
unfolding first_forbidden
first_past s = rw (drop_of_length-le s {i = length s} (omega arith))

-- ---- what is dropped before the first forbidden sequence
-- a forbidden sequence begins with 00 00
first_zero : (a : ℕ) (l : Bytes) → forbidden (a ∷ l) ≡ true → a ≡ 0
unfolding forbidden
first_zero a [] e = absurd (true≢false (sym e))
first_zero a (b ∷ []) e = absurd (true≢false (sym e))
first_zero a (b ∷ c ∷ s) e =
    eqb-true a 0 (and_both (eqb a 0) (eqb b 0) (and_both (eqb a 0 && eqb b 0) _ e).0).0

second_zero : (a b : ℕ) (l : Bytes) → forbidden (a ∷ b ∷ l) ≡ true → b ≡ 0
unfolding forbidden
second_zero a b [] e = absurd (true≢false (sym e))
second_zero a b (c ∷ s) e =
    eqb-true b 0 (and_both (eqb a 0) (eqb b 0) (and_both (eqb a 0 && eqb b 0) _ e).0).1

-- no 00 00 03 reaches into one
pub marked_until : (a : ℕ) (l : Bytes) → marked (a ∷ take (first_forbidden l) l) ≡ marked (a ∷ l)
unfolding marked first_forbidden
marked_until a [] = refl
marked_until a (b ∷ []) = case (forbidden (b ∷ [])) (λ t. rw (first_yes b [] t)) (λ t. rw (first_no b [] t))
marked_until a (b ∷ c ∷ l) =
    case (forbidden (b ∷ c ∷ l))
    (λ t. rw (first_yes b (c ∷ l) t, second_zero b c l t) (sym (and-false (eqb a 0 && eqb b 0))))
    (λ t. rw (first_no b (c ∷ l) t) (go t))
  where
    go : forbidden (b ∷ c ∷ l) ≡ false → marked (a ∷ b ∷ take (first_forbidden (c ∷ l)) (c ∷ l)) ≡ marked3 a b c
    go t =
        case (forbidden (c ∷ l))
        (λ u. rw (first_yes c l u, first_zero c l u) (sym (and-false (eqb a 0 && eqb b 0))))
        (λ u. rw (first_no c l u))

pub dropped_until : (t : Bytes) → dropped t ≡ dropped (take (first_forbidden t) t) + dropped (drop (first_forbidden t) t)
unfolding dropped first_forbidden
dropped_until [] = refl
dropped_until (a ∷ l) =
    case (forbidden (a ∷ l))
    (λ e. rw (first_yes a l e) (omega arith))
    (λ e.
    let f : ℕ = first_forbidden l in
    rw (first_no a l e)
    (omega (arith, dropped_one a l, dropped_one a (take f l), ap one (marked_until a l), dropped_until l)))

-- ---- the whole pass
pub lawful_first : (s : Bytes) (i j d : ℕ) → Lawful s i j d → first_forbidden (drop j s) ≡ 0 → j ≡ i + first_forbidden (drop i s)
lawful_first s i j d l e = omega (arith, l.first)

pub lawful_dropped : (s : Bytes) (i j d : ℕ) → Lawful s i j d → first_forbidden (drop j s) ≡ 0
    → d ≡ dropped (take (first_forbidden (drop i s)) (drop i s))
lawful_dropped s i j d l e =
    let f : ℕ = first_forbidden (drop i s) in
    let k : drop f (drop i s) ≡ drop j s = drop-drop f i s ∙ ap (λ (n : ℕ). drop n s) (sym (lawful_first s i j d l e)) in
    omega (arith, l.drops.less, dropped_until (drop i s), ap dropped k)

-- behind the end
pub lawful_behind : (s : Bytes) (i : ℕ) → length s ≤ i
    → (i ≡ i + first_forbidden (drop i s)) × (◌≡◌ {A = ℕ} 0 (dropped (take (first_forbidden (drop i s)) (drop i s))))
unfolding first_forbidden dropped
lawful_behind s i h =
    let e : drop i s ≡ [] = drop_of_length-le s {i = i} h in
    (rw e (omega arith), rw e)

-- what the pass says of a whole payload
pub whole_illegal : (p : Bytes) (j : ℕ) → j ≡ 0 + first_forbidden (drop 0 p) → j < length p → (legal p ≡ false) × (j ≡ first_forbidden p)
whole_illegal p j e h = (illegal_before p (omega arith), omega arith)

pub whole_legal : (p : Bytes) (j d : ℕ) → j ≡ 0 + first_forbidden (drop 0 p) → d ≡ dropped (take (first_forbidden (drop 0 p)) (drop 0 p))
    → length p ≤ j
    → (legal p ≡ true) × (d ≡ dropped p)
whole_legal p j d e f h =
    let k : length p ≤ first_forbidden p = omega arith in
    (legal_after p k, f ∙ ap dropped (take_all (first_forbidden p) p k))

-- where nothing is dropped, the payload is given as it is
pub undropped : (p : Bytes) → dropped p ≡ 0 → unescape p ≡ p
unfolding unescape
undropped [] e = refl
undropped (a ∷ []) e = refl
undropped (a ∷ b ∷ []) e = refl
undropped (a ∷ b ∷ c ∷ s) e =
    case (marked (a ∷ b ∷ c ∷ s))
    (λ m. absurd (omega (arith, dropped_marked (a ∷ b ∷ c ∷ s) m)))
    (λ m. unescape_plain a (b ∷ c ∷ s) m ∙ ap (λ (l : Bytes). a ∷ l) (undropped (b ∷ c ∷ s) (omega (arith, dropped_plain a (b ∷ c ∷ s) m))))
