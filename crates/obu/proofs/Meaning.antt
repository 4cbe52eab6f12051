-- What `order_refusal` means. `order_means`: its verdict means what `OrderMeans` says; `order_only`: no other verdict does. Assumes
-- nothing.
use Prim.Native.Nat.{ℕ, zero, suc, ◌+◌, ◌≤◌, ◌<◌, zero-le, suc-le-suc}
use mathlib.Core.Bool.{Bool, true, false, true≢false}
use mathlib.Core.Path.{◌≡◌, refl, sym, ap, ap₂, subst, ◌∙◌}
use mathlib.Core.Logic.{◌⊎◌, inl, inr}
use mathlib.Core.List.{List, [], ◌∷◌, ◌++◌, append_assoc}
use native.Mathlib.Omega.{arith}
use borrow.Author.Tests.{ltb-true, ltb-false}
use lib.Dec.{ltb}
use lib.ListN.{length, take}
use Rattle.lists.specs.Lists.{all, any}
use Rattle.lists.proofs.Tests.{case, all_both}
use Rattle.refusal.specs.Verdict.{Verdict, passed, refused, NoValue}
use Rattle.obu.specs.Order.{Kind, temporal_delimiter, frame_header, shown_again, tile_group, frame, is, head_kind, tile_kind, last_kind}
use Rattle.obu.specs.Order.{WholeFrame, one_frame, one_shown_again, header_and_tiles, OrderLegal}
use Rattle.obu.specs.Order.{after_frame, in_tiles, at_frame, before_frame, order_refusal, BrokenAt, OrderMeans}
use Rattle.refusal.proofs.Verdicts.{never}
use Rattle.obu.proofs.Types.{same_kind, one_of_two}
use Rattle.obu.proofs.Steps.{tiles_on, tiles_stop, one_frame_lem, one_header, no_frame, head_on, head_stop, delimited, not_delimited}

-- ---- of any rule that gives a verdict from an index on: what its verdict says of the lists that it passes
abbrev Rule : Type 0
Rule = ℕ → List Kind → Verdict NoValue

-- some list passes
abbrev Open : Rule → Type 0
Open f = (i : ℕ) → (rest : List Kind) × (f i rest ≡ passed tt)

-- refused at the n-th kind from here: whatever follows it, the verdict is the same; and each shorter beginning can go on
record Broken (f : Rule) (i : ℕ) (l : List Kind) (place n : ℕ) : Type 0 where
  at : place ≡ i + n
  within : n ≤ length l
  breaks : n < length l → (rest : List Kind) → f i (take (suc n) l ++ rest) ≡ refused 7 place
  least : (j : ℕ) → j < n → (rest : List Kind) × (f i (take (suc j) l ++ rest) ≡ passed tt)

Says : Rule → ℕ → List Kind → Verdict NoValue → Type 0
Says f i l (passed _) = Unit {0}
Says f i l (refused number place) = (number ≡ 7) × ((n : ℕ) × Broken f i l place n)

module _ (f : Rule) (i : ℕ) where
  -- the list ends too soon; it passes; it breaks at its head, whatever follows
  says_end : f i [] ≡ refused 7 i → Says f i [] (f i [])
  unfolding Says
  says_end e =
      subst (Says f i []) (sym e)
      (refl, (0, record { at = omega arith; within = zero-le; breaks = λ h. absurd (omega arith); least = λ j h. absurd (omega arith) }))

  says_pass : (l : List Kind) → f i l ≡ passed tt → Says f i l (f i l)
  unfolding Says
  says_pass l e = subst (Says f i l) (sym e) tt

  says_head : (k : Kind) (s : List Kind) → ((t : List Kind) → f i (k ∷ t) ≡ refused 7 i) → Says f i (k ∷ s) (f i (k ∷ s))
  unfolding Says
  says_head k s e =
      subst (Says f i (k ∷ s)) (sym (e s))
      (refl, (0, record { at = omega arith; within = zero-le; breaks = λ h t. e t; least = λ j h. absurd (omega arith) }))

-- one kind on, where f goes on as g does
module _ (f g : Rule) (i : ℕ) (k : Kind) (s : List Kind) (e : (t : List Kind) → f i (k ∷ t) ≡ g (suc i) t) (o : Open g) where
  least_later : (place n : ℕ) → Broken g (suc i) s place n → (j : ℕ) → j < suc n
      → (rest : List Kind) × (f i (take (suc j) (k ∷ s) ++ rest) ≡ passed tt)
  least_later place n b zero lt = ((o (suc i)).0, e (o (suc i)).0 ∙ (o (suc i)).1)
  least_later place n b (suc j) lt = let r = b.least j (omega arith) in (r.0, e (take (suc j) s ++ r.0) ∙ r.1)

  broken_later : (place n : ℕ) → Broken g (suc i) s place n → Broken f i (k ∷ s) place (suc n)
  broken_later place n b =
      record {
        at = omega (arith, b.at);
        within = suc-le-suc b.within;
        breaks = λ lt t. e (take (suc n) s ++ t) ∙ b.breaks (omega arith) t;
        least = least_later place n b;
      }

  says_by : (v : Verdict NoValue) → Says g (suc i) s v → Says f i (k ∷ s) v
  unfolding Says
  says_by (passed a) h = tt
  says_by (refused number place) h = (h.0, (suc h.1.0, broken_later place h.1.0 h.1.1))

  says_later : Says g (suc i) s (g (suc i) s) → Says f i (k ∷ s) (f i (k ∷ s))
  says_later h = subst (Says f i (k ∷ s)) (sym (e s)) (says_by (g (suc i) s) h)

-- f and g are alike on lists with this head
module _ (f g : Rule) (i : ℕ) (k : Kind) (s : List Kind) (e : (t : List Kind) → f i (k ∷ t) ≡ g i (k ∷ t)) where
  broken_alike : (place n : ℕ) → Broken g i (k ∷ s) place n → Broken f i (k ∷ s) place n
  broken_alike place n b =
      record {
        at = b.at;
        within = b.within;
        breaks = λ lt t. e (take n s ++ t) ∙ b.breaks lt t;
        least = λ j lt. let r = b.least j lt in (r.0, e (take j s ++ r.0) ∙ r.1);
      }

  says_alike_by : (v : Verdict NoValue) → Says g i (k ∷ s) v → Says f i (k ∷ s) v
  unfolding Says
  says_alike_by (passed a) h = tt
  says_alike_by (refused number place) h = (h.0, (h.1.0, broken_alike place h.1.0 h.1.1))

  says_alike : Says g i (k ∷ s) (g i (k ∷ s)) → Says f i (k ∷ s) (f i (k ∷ s))
  says_alike h = subst (Says f i (k ∷ s)) (sym (e s)) (says_alike_by (g i (k ∷ s)) h)

-- ---- the parts of the sentence
open_after : Open after_frame
unfolding after_frame
open_after i = ([], refl)

open_tiles : (ended : Bool) → Open (λ i. in_tiles i ended)
unfolding in_tiles any
open_tiles ended i = (tile_group ∷ [], refl)

open_before : Open before_frame
unfolding before_frame at_frame after_frame any
open_before i = (frame ∷ [], refl)

says_after : (i : ℕ) (l : List Kind) → Says after_frame i l (after_frame i l)
unfolding after_frame
says_after i [] = says_pass after_frame i [] refl
says_after i (k ∷ s) = says_head after_frame i k s (λ t. refl)

says_tiles : (i : ℕ) (ended : Bool) (l : List Kind) → Says (λ j. in_tiles j ended) i l (in_tiles i ended l)
says_tiles i true [] = says_pass (λ j. in_tiles j true) i [] (unfold in_tiles in refl)
says_tiles i false [] = says_end (λ j. in_tiles j false) i (unfold in_tiles in refl)
says_tiles i ended (k ∷ s) =
    let more = says_tiles (suc i) (is k tile_group) s in
    case (tile_kind k)
    (λ e. says_later (λ j. in_tiles j ended) (λ j. in_tiles j (is k tile_group)) i k s (λ t. tiles_on i k t ended e)
    (open_tiles (is k tile_group)) more)
    (λ e. says_head (λ j. in_tiles j ended) i k s (λ t. tiles_stop i k t ended e))

says_frame : (i : ℕ) (l : List Kind) → Says at_frame i l (at_frame i l)
says_frame i [] = says_end at_frame i (unfold at_frame in refl)
says_frame i (k ∷ s) =
    case (last_kind k)
    (λ e. says_later at_frame after_frame i k s (λ t. one_frame_lem i k t e) open_after (says_after (suc i) s))
    (λ e. case (is k frame_header)
    (λ h. says_later at_frame (λ j. in_tiles j false) i k s (λ t. one_header i k t e h) (open_tiles false) (says_tiles (suc i) false s))
    (λ h. says_head at_frame i k s (λ t. no_frame i k t e h)))

says_before : (i : ℕ) (l : List Kind) → Says before_frame i l (before_frame i l)
says_before i [] = says_end before_frame i (unfold before_frame at_frame in refl)
says_before i (k ∷ s) =
    let more = says_before (suc i) s in
    case (head_kind k)
    (λ e. says_later before_frame before_frame i k s (λ t. head_on i k t e) open_before more)
    (λ e. says_alike before_frame at_frame i k s (λ t. head_stop i k t e) (says_frame i (k ∷ s)))

abbrev order : Rule
order i l = order_refusal l

says_order : (l : List Kind) → Says order 0 l (order_refusal l)
says_order [] = says_end order 0 (unfold order_refusal before_frame at_frame in refl)
says_order (k ∷ s) =
    case (is k temporal_delimiter)
    (λ e. says_later order before_frame 0 k s (λ t. delimited k t e) open_before (says_before 1 s))
    (λ e. says_alike order before_frame 0 k s (λ t. not_delimited k t e) (says_before 0 (k ∷ s)))

-- ---- a list that passes is legal
cons : {a b : Kind} {s t : List Kind} → a ≡ b → s ≡ t → a ∷ s ≡ b ∷ t
cons e f = ap₂ (λ (a : Kind) (l : List Kind). a ∷ l) e f

after_legal : (i : ℕ) (l : List Kind) → after_frame i l ≡ passed tt → l ≡ []
unfolding after_frame
after_legal i [] e = refl
after_legal i (k ∷ s) e = never e

-- any of 4, 7, 15, ending in a 4; or nothing more, where a 4 came before
abbrev Tiles : Bool → List Kind → Type 0
Tiles ended l = ((ended ≡ true) × (l ≡ [])) ⊎ ((tiles : List Kind) × (all tile_kind tiles ≡ true) × (l ≡ tiles ++ (tile_group ∷ [])))

one_tile : (ended : Bool) (k : Kind) (s : List Kind) → tile_kind k ≡ true → Tiles (is k tile_group) s → Tiles ended (k ∷ s)
unfolding all
one_tile ended k s e (inl h) = inr ([], refl, cons (same_kind k tile_group h.0) h.1)
one_tile ended k s e (inr h) = inr (k ∷ h.0, rw e h.1, cons refl h.2)

tiles_legal : (i : ℕ) (ended : Bool) (l : List Kind) → in_tiles i ended l ≡ passed tt → Tiles ended l
tiles_legal i true [] e = inl (refl, refl)
tiles_legal i false [] e = unfold in_tiles in never e
tiles_legal i ended (k ∷ s) e =
    let more = tiles_legal (suc i) (is k tile_group) s in
    case (tile_kind k)
    (λ h. one_tile ended k s h (more (sym (tiles_on i k s ended h) ∙ e)))
    (λ h. never (sym (tiles_stop i k s ended h) ∙ e))

with_tiles : (k : Kind) (s : List Kind) → is k frame_header ≡ true → Tiles false s → WholeFrame (k ∷ s)
with_tiles k s e (inl h) = absurd (true≢false (sym h.0))
with_tiles k s e (inr h) = header_and_tiles h.0 h.1 (cons (same_kind k frame_header e) h.2)

the_last : (k : Kind) (s : List Kind) → s ≡ [] → (k ≡ frame) ⊎ (k ≡ shown_again) → WholeFrame (k ∷ s)
the_last k s e (inl h) = one_frame (cons h e)
the_last k s e (inr h) = one_shown_again (cons h e)

frame_legal : (i : ℕ) (l : List Kind) → at_frame i l ≡ passed tt → WholeFrame l
frame_legal i [] e = unfold at_frame in never e
frame_legal i (k ∷ s) e =
    case (last_kind k)
    (λ h. the_last k s (after_legal (suc i) s (sym (one_frame_lem i k s h) ∙ e)) (one_of_two k frame shown_again h))
    (λ h. case (is k frame_header)
    (λ j. with_tiles k s j (tiles_legal (suc i) false s (sym (one_header i k s h j) ∙ e)))
    (λ j. never (sym (no_frame i k s h j) ∙ e)))

-- what may stand before the frame, and the frame
abbrev Headed : List Kind → Type 0
Headed l = (head last : List Kind) × (all head_kind head ≡ true) × WholeFrame last × (l ≡ head ++ last)

one_head : (k : Kind) (s : List Kind) → head_kind k ≡ true → Headed s → Headed (k ∷ s)
unfolding all
one_head k s e h = (k ∷ h.0, h.1, rw e h.2, h.3, cons refl h.4)

no_head : (l : List Kind) → WholeFrame l → Headed l
unfolding all
no_head l h = ([], l, refl, h, refl)

before_legal : (i : ℕ) (l : List Kind) → before_frame i l ≡ passed tt → Headed l
before_legal i [] e = no_head [] (frame_legal i [] (unfold before_frame in e))
before_legal i (k ∷ s) e =
    let more = before_legal (suc i) s in
    case (head_kind k)
    (λ h. one_head k s h (more (sym (head_on i k s h) ∙ e)))
    (λ h. no_head (k ∷ s) (frame_legal i (k ∷ s) (sym (head_stop i k s h) ∙ e)))

with_first : (first l : List Kind) → (first ≡ []) ⊎ (first ≡ temporal_delimiter ∷ []) → Headed l → OrderLegal (first ++ l)
with_first first l f h =
    record {
      first = first;
      head = h.0;
      last = h.1;
      first_part = f;
      head_part = h.2;
      last_part = h.3;
      whole = ap (λ (s : List Kind). first ++ s) h.4 ∙ sym (append_assoc first h.0 h.1);
    }

pub order_legal : (l : List Kind) → order_refusal l ≡ passed tt → OrderLegal l
order_legal [] e = with_first [] [] (inl refl) (before_legal 0 [] (unfold order_refusal in e))
order_legal (k ∷ s) e =
    case (is k temporal_delimiter)
    (λ h. with_first (k ∷ []) s (inr (cons (same_kind k temporal_delimiter h) refl)) (before_legal 1 s (sym (delimited k s h) ∙ e)))
    (λ h. with_first [] (k ∷ s) (inl refl) (before_legal 0 (k ∷ s) (sym (not_delimited k s h) ∙ e)))

-- ---- a legal list passes
tiles_fine : (i : ℕ) (ended : Bool) (tiles : List Kind) → all tile_kind tiles ≡ true
    → in_tiles i ended (tiles ++ (tile_group ∷ [])) ≡ passed tt
tiles_fine i ended [] e = unfold in_tiles any in refl
tiles_fine i ended (k ∷ s) e =
    let h = all_both tile_kind k s e in
    tiles_on i k (s ++ (tile_group ∷ [])) ended h.0 ∙ tiles_fine (suc i) (is k tile_group) s h.1

frame_fine : (i : ℕ) (l : List Kind) → WholeFrame l → before_frame i l ≡ passed tt
unfolding before_frame at_frame after_frame any
frame_fine i l (one_frame e) = rw e
frame_fine i l (one_shown_again e) = rw e
frame_fine i l (header_and_tiles tiles h e) = rw e (tiles_fine (suc i) false tiles h)

head_fine : (i : ℕ) (head last : List Kind) → all head_kind head ≡ true → WholeFrame last → before_frame i (head ++ last) ≡ passed tt
head_fine i [] l e w = frame_fine i l w
head_fine i (k ∷ s) l e w =
    let h = all_both head_kind k s e in
    head_on i k (s ++ l) h.0 ∙ head_fine (suc i) s l h.1 w

-- no delimiter passes but as the first
not_here : (s : List Kind) → before_frame 0 (temporal_delimiter ∷ s) ≡ refused 7 0
unfolding before_frame at_frame any
not_here s = refl

passes_too : (l : List Kind) → before_frame 0 l ≡ passed tt → order_refusal l ≡ passed tt
passes_too [] e = unfold order_refusal in e
passes_too (k ∷ s) e =
    case (is k temporal_delimiter)
    (λ h. never (sym (ap (λ (a : Kind). before_frame 0 (a ∷ s)) (same_kind k temporal_delimiter h) ∙ not_here s) ∙ e))
    (λ h. not_delimited k s h ∙ e)

first_fine : (first l : List Kind) → (first ≡ []) ⊎ (first ≡ temporal_delimiter ∷ []) → ((i : ℕ) → before_frame i l ≡ passed tt)
    → order_refusal (first ++ l) ≡ passed tt
first_fine first l (inl e) h = rw e (passes_too l (h 0))
first_fine first l (inr e) h = rw e (delimited temporal_delimiter l refl ∙ h 1)

pub legal_order : (l : List Kind) → OrderLegal l → order_refusal l ≡ passed tt
legal_order l h =
    ap order_refusal (h.whole ∙ append_assoc h.first h.head h.last)
    ∙ first_fine h.first (h.head ++ h.last) h.first_part (λ i. head_fine i h.head h.last h.head_part h.last_part)

-- ---- the meaning
not_legal : (l : List Kind) (number place : ℕ) → order_refusal l ≡ refused number place → ¬ OrderLegal l
not_legal l number place e h = never (sym e ∙ legal_order l h)

broken_at : (l : List Kind) (place n : ℕ) → order_refusal l ≡ refused 7 place → Broken order 0 l place n → BrokenAt l place
broken_at l place n e b =
    let same : place ≡ n = omega (arith, b.at) in
    subst (BrokenAt l) (sym same)
    (record {
      not_legal = not_legal l 7 place e;
      within = b.within;
      breaks = λ lt rest. not_legal (take (suc n) l ++ rest) 7 place (b.breaks lt rest);
      least = λ j lt. let r = b.least j lt in (r.0, order_legal (take (suc j) l ++ r.0) r.1);
    })

means : (l : List Kind) (v : Verdict NoValue) → order_refusal l ≡ v → Says order 0 l v → OrderMeans l v
unfolding Says
means l (passed a) e h = order_legal l e
means l (refused number place) e h =
    (h.0, broken_at l place h.1.0 (e ∙ ap (λ (n : ℕ). refused n place) h.0) h.1.1)

-- the verdict means what document 01 says of it
pub order_means : (l : List Kind) → OrderMeans l (order_refusal l)
order_means l = means l (order_refusal l) refl (says_order l)

-- and a verdict that means this is the one that is given
less_not : (l : List Kind) (i j : ℕ) → i < j → BrokenAt l i → BrokenAt l j → ⊥
less_not l i j lt h k = let b = k.least i lt in h.breaks (omega (arith, k.within)) b.0 b.1

same_place : (l : List Kind) (i j : ℕ) → BrokenAt l i → BrokenAt l j → i ≡ j
same_place l i j h k =
    case (ltb i j) (λ e. absurd (less_not l i j (ltb-true i j e) h k))
    (λ e. case (ltb j i) (λ f. absurd (less_not l j i (ltb-true j i f) k h))
    (λ f. omega (arith, ltb-false i j e, ltb-false j i f)))

only_one : (l : List Kind) (v w : Verdict NoValue) → OrderMeans l v → OrderMeans l w → v ≡ w
only_one l (passed a) (passed b) h k = refl
only_one l (passed a) (refused number place) h k = absurd (k.1.not_legal h)
only_one l (refused number place) (passed b) h k = absurd (h.1.not_legal k)
only_one l (refused m i) (refused n j) h k = ap₂ (λ (number place : ℕ). refused number place) (h.0 ∙ sym k.0)
    (same_place l i j h.1 k.1)

pub order_only : (l : List Kind) (v : Verdict NoValue) → OrderMeans l v → v ≡ order_refusal l
order_only l v h = only_one l v (order_refusal l) h (order_means l)
