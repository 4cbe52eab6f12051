-- The order rule by positions. `is_order_table`: one test over a table gives the rule at each of its entries. `Reached` and its laws: how
-- the position of the OBUs so far decides. Assumes nothing.
use Prim.Native.Nat.{ℕ, suc, ◌+◌, ◌≤◌, ◌<◌}
use mathlib.Core.Bool.{Bool, true, false, true≢false}
use mathlib.Core.Path.{◌≡◌, refl, sym, ap, subst, ◌∙◌}
use mathlib.Core.Logic.{◌⊎◌, inl, inr}
use mathlib.Core.List.{List, [], ◌∷◌, ◌++◌, map, append_assoc, append-nil}
use native.Mathlib.Omega.{arith}
use native.Mathlib.Numerals.{add-one}
use borrow.Author.Tests.{eqb-true, eqb-false}
use lib.Dec.{eqb}
use lib.ListN.{length, take, drop, get_or, get_or-map, length-map, take-append-drop}
use lib.Seq.{take_all, take-suc}
use Rattle.lists.specs.Lists.{any, all}
use Rattle.lists.proofs.Tests.{case}
use Rattle.lists.proofs.Tables.{each, all_below, below}
use Rattle.refusal.specs.Verdict.{Verdict, passed, refused, NoValue, passes}
use Rattle.refusal.proofs.Verdicts.{passes_passed}
use Rattle.std.specs.Prelude.{Option, Some, None}
use Rattle.obu.specs.declared.ordering.Position.TheVariants as at
use Rattle.obu.specs.declared.ordering.Position as code_position
use Rattle.obu.specs.contracts.ordering.Position as position_type
use denote.Enum.Declared.{tag_of}
use Rattle.obu.specs.Order.{Kind, temporal_delimiter, frame_header, tile_group, frame, is, head_kind, tile_kind, last_kind, kind_of_number}
use Rattle.obu.specs.Order.{OrderLegal, after_frame, in_tiles, at_frame, before_frame, order_refusal}
use Rattle.obu.specs.Table.{Position, start, front, tiles, ended, whole, broken, MayFollow, Reach, LeadsTo, IsOrderTable}
use Rattle.obu.specs.Table.{position_meant, column_of}
use Rattle.obu.proofs.Steps.{tiles_on, tiles_stop, one_frame_lem, one_header, no_frame, head_on, head_stop, delimited, not_delimited}
use Rattle.obu.proofs.Meaning.{order_legal, legal_order, order_only}

-- ---- the position after a kind, by the sentence's tests of a kind
abbrev pub tile_position : Bool → Position
tile_position true = ended
tile_position false = tiles

unfoldable pub after_front : Kind → Position
after_front k =
    elim (head_kind k) [
      | true ↦ front
      | false ↦ elim (last_kind k) [ true ↦ whole | false ↦ elim (is k frame_header) [ true ↦ tiles | false ↦ broken ] ]
    ]

unfoldable pub after_tiles : Kind → Position
after_tiles k = elim (tile_kind k) [ true ↦ tile_position (is k tile_group) | false ↦ broken ]

unfoldable pub after_start : Kind → Position
after_start k = elim (is k temporal_delimiter) [ true ↦ front | false ↦ after_front k ]

unfoldable pub after : Position → Kind → Position
after start k = after_start k
after front k = after_front k
after tiles k = after_tiles k
after ended k = after_tiles k
after whole k = broken
after broken k = broken

-- the position after kinds, and whether a unit may end there
unfoldable pub run : Position → List Kind → Position
run p [] = p
run p (k ∷ s) = run (after p k) s

abbrev pub may_end : Position → Bool
may_end start = false
may_end front = false
may_end tiles = false
may_end ended = true
may_end whole = true
may_end broken = false

-- ---- the rule passes a list exactly where the unit may end at the position after it
broken_stays : (s : List Kind) → may_end (run broken s) ≡ false
unfolding run after
broken_stays [] = refl
broken_stays (k ∷ s) = broken_stays s

after_runs : (i : ℕ) (s : List Kind) → passes (after_frame i s) ≡ may_end (run whole s)
unfolding after_frame run after
after_runs i [] = refl
after_runs i (k ∷ s) = sym (broken_stays s)

-- where a verdict is that of a position, after one kind more
by : {v w : Verdict NoValue} (p q : Position) (s : List Kind) → v ≡ w → passes w ≡ may_end (run p s) → q ≡ p
    → passes v ≡ may_end (run q s)
by p q s e f g = ap passes e ∙ f ∙ ap (λ (x : Position). may_end (run x s)) (sym g)

after_tile : (t : Bool) (k : Kind) → after (tile_position t) k ≡ after_tiles k
unfolding after
after_tile true k = refl
after_tile false k = refl

tiles_step : (i : ℕ) (t : Bool) (k : Kind) (s : List Kind)
    → passes (in_tiles (suc i) (is k tile_group) s) ≡ may_end (run (tile_position (is k tile_group)) s)
    → passes (in_tiles i t (k ∷ s)) ≡ may_end (run (tile_position t) (k ∷ s))
unfolding run after_tiles
tiles_step i t k s more =
    case (tile_kind k)
    (λ e. by (tile_position (is k tile_group)) _ s (tiles_on i k s t e) more (after_tile t k ∙ rw (e, after_tiles)))
    (λ e. by broken _ s (tiles_stop i k s t e) (sym (broken_stays s)) (after_tile t k ∙ rw (e, after_tiles)))

tiles_run : (i : ℕ) (t : Bool) (s : List Kind) → passes (in_tiles i t s) ≡ may_end (run (tile_position t) s)
tiles_run i true [] = unfold in_tiles run in refl
tiles_run i false [] = unfold in_tiles run in refl
tiles_run i t (k ∷ s) = tiles_step i t k s (tiles_run (suc i) (is k tile_group) s)

front_step : (i : ℕ) (k : Kind) (s : List Kind) → passes (before_frame (suc i) s) ≡ may_end (run front s)
    → passes (before_frame i (k ∷ s)) ≡ may_end (run front (k ∷ s))
unfolding run after after_front
front_step i k s more =
    case (head_kind k)
    (λ e. by front (after_front k) s (head_on i k s e) more (rw (e, after_front)))
    (λ e. case (last_kind k)
    (λ f. by whole (after_front k) s (head_stop i k s e ∙ one_frame_lem i k s f) (after_runs (suc i) s) (rw (e, after_front) (rw f)))
    (λ f. case (is k frame_header)
    (λ g. by tiles (after_front k) s (head_stop i k s e ∙ one_header i k s f g) (tiles_run (suc i) false s)
    (rw (e, after_front) (rw (f, g))))
    (λ g. by broken (after_front k) s (head_stop i k s e ∙ no_frame i k s f g) (sym (broken_stays s)) (rw (e, after_front) (rw (f, g))))))

front_runs : (i : ℕ) (s : List Kind) → passes (before_frame i s) ≡ may_end (run front s)
front_runs i [] = unfold before_frame at_frame run in refl
front_runs i (k ∷ s) = front_step i k s (front_runs (suc i) s)

start_runs : (s : List Kind) → passes (order_refusal s) ≡ may_end (run start s)
unfolding order_refusal before_frame at_frame run after after_start
start_runs [] = refl
start_runs (k ∷ s) =
    case (is k temporal_delimiter)
    (λ e. by front (after_start k) s (delimited k s e) (front_runs 1 s) (rw (e, after_start)))
    (λ e. by (after_front k) (after_start k) s (not_delimited k s e) (front_runs 0 (k ∷ s)) (rw (e, after_start)))

-- ---- what may follow at a position is what ends in order from there
legal_passes : (l : List Kind) → OrderLegal l → passes (order_refusal l) ≡ true
legal_passes l h = ap passes (legal_order l h)

passes_legal : (l : List Kind) → passes (order_refusal l) ≡ true → OrderLegal l
passes_legal l e = order_legal l (passes_passed (order_refusal l) e)

-- a list that reaches each position but the broken one leads there
behind : (p : Position) (rest : List Kind) → MayFollow p rest → may_end (run p rest) ≡ true
unfolding MayFollow order_refusal before_frame at_frame in_tiles any
behind start rest h = sym (start_runs rest) ∙ legal_passes rest h
behind front rest h = sym (front_runs 1 rest) ∙ legal_passes (temporal_delimiter ∷ rest) h
behind tiles rest h = sym (tiles_run 1 false rest) ∙ legal_passes (frame_header ∷ rest) h
behind ended rest h = sym (tiles_run 2 true rest) ∙ legal_passes (frame_header ∷ tile_group ∷ rest) h
behind whole rest h = sym (after_runs 1 rest) ∙ legal_passes (frame ∷ rest) h
behind broken rest h = absurd h

follows : (p : Position) (rest : List Kind) → may_end (run p rest) ≡ true → MayFollow p rest
unfolding MayFollow order_refusal before_frame at_frame in_tiles any
follows start rest e = passes_legal rest (start_runs rest ∙ e)
follows front rest e = passes_legal (temporal_delimiter ∷ rest) (front_runs 1 rest ∙ e)
follows tiles rest e = passes_legal (frame_header ∷ rest) (tiles_run 1 false rest ∙ e)
follows ended rest e = passes_legal (frame_header ∷ tile_group ∷ rest) (tiles_run 2 true rest ∙ e)
follows whole rest e = passes_legal (frame ∷ rest) (after_runs 1 rest ∙ e)
follows broken rest e = absurd (true≢false (sym e ∙ broken_stays rest))

after_leads : (p : Position) (k : Kind) → LeadsTo p k (after p k)
unfolding LeadsTo run
after_leads p k rest = (λ h. follows (after p k) rest (behind p (k ∷ rest) h), λ h. follows p (k ∷ rest) (behind (after p k) rest h))

-- ---- the table, by one test over its 17 rows of 5
abbrev pub positions : List code_position.Position
positions = at.Start ∷ at.Front ∷ at.Tiles ∷ at.Ended ∷ at.Whole ∷ []

position_at : (p : code_position.Position) → (column_of p < 5) × (get_or positions (column_of p) at.Start ≡ p)
position_at at.Start = (omega arith, refl)
position_at at.Front = (omega arith, refl)
position_at at.Tiles = (omega arith, refl)
position_at at.Ended = (omega arith, refl)
position_at at.Whole = (omega arith, refl)

-- the test of two positions, by their numbers
abbrev pub number_of_position : Position → ℕ
number_of_position start = 0
number_of_position front = 1
number_of_position tiles = 2
number_of_position ended = 3
number_of_position whole = 4
number_of_position broken = 5

unfoldable position_of : ℕ → Position
position_of n =
    get_or (start ∷ front ∷ tiles ∷ ended ∷ whole ∷ []) n broken

numbered : (p : Position) → position_of (number_of_position p) ≡ p
unfolding position_of
numbered start = refl
numbered front = refl
numbered tiles = refl
numbered ended = refl
numbered whole = refl
numbered broken = refl

abbrev Table : Type 0
Table = List (List (Option code_position.Position))

abbrev pub entry : Table → ℕ → code_position.Position → Position
entry table k p = position_meant (get_or (get_or table k []) (column_of p) None)

unfoldable pub right : Table → ℕ → code_position.Position → Bool
right table k p =
    eqb (number_of_position (entry table k p)) (number_of_position (after (position_meant (Some p)) (kind_of_number k)))

unfoldable pub all_right : Table → Bool
all_right table = all_below (λ k. all (right table k) positions) 17

pub is_order_table : (table : Table) → all_right table ≡ true → IsOrderTable table
unfolding IsOrderTable all_right right
is_order_table table e k p few =
    let row : all (right table k) positions ≡ true = below (λ x. all (right table x) positions) 17 e k few in
    let here : right table k p ≡ true =
    subst (λ (x : code_position.Position). right table k x ≡ true) (position_at p).1
    (each (right table k) at.Start positions row (column_of p) (position_at p).0) in
    let to : Position = after (position_meant (Some p)) (kind_of_number k) in
    let same : entry table k p ≡ to = sym (numbered (entry table k p)) ∙ ap position_of (eqb-true _ _ here) ∙ numbered to in
    subst (LeadsTo (position_meant (Some p)) (kind_of_number k)) (sym same) (after_leads (position_meant (Some p)) (kind_of_number k))

-- ---- positions
-- at each some list may follow
open_at : (p : code_position.Position) → (rest : List Kind) × MayFollow (position_meant (Some p)) rest
unfolding run after after_start after_front after_tiles any
open_at at.Start = (frame ∷ [], follows start (frame ∷ []) refl)
open_at at.Front = (frame ∷ [], follows front (frame ∷ []) refl)
open_at at.Tiles = (tile_group ∷ [], follows tiles (tile_group ∷ []) refl)
open_at at.Ended = ([], follows ended [] refl)
open_at at.Whole = ([], follows whole [] refl)

-- before the tiles have ended nothing but more may follow; from there on the end may
too_few : (p : Position) → may_end p ≡ false → MayFollow p [] → ⊥
unfolding run
too_few p e f = true≢false (sym (behind p [] f) ∙ e)

enough : (p : Position) → may_end p ≡ true → MayFollow p []
unfolding run
enough p e = follows p [] e

-- ---- the position reached before a place
pub record Reached {A : Type 0} (meant : A → Kind) (kinds : List A) (position : code_position.Position) (i : ℕ) : Type 0 where
  pub place : i ≤ length kinds
  pub reach : Reach (take i (map meant kinds)) (position_meant (Some position))
  -- each shorter beginning can go on
  pub least : (j : ℕ) → j < i → (rest : List Kind) × OrderLegal (take (suc j) (map meant kinds) ++ rest)

pub at_start : {A : Type 0} (meant : A → Kind) (kinds : List A) → Reached meant kinds at.Start 0
unfolding MayFollow
at_start meant kinds = record { place = omega arith; reach = λ rest. (λ h. h, λ h. h); least = λ j h. absurd (omega arith) }

module _ {A : Type 0} {meant : A → Kind} {kinds : List A} {position : code_position.Position} {i : ℕ}
    (r : Reached meant kinds position i) where
  -- the next kind leads to a position, or breaks the order
  module _ (h : i < length kinds) (d : A) (to : Option code_position.Position)
      (g : LeadsTo (position_meant (Some position)) (meant (get_or kinds i d)) (position_meant to)) where
    one_more : (rest : List Kind) → take (suc i) (map meant kinds) ++ rest ≡ take i (map meant kinds) ++ (meant
        (get_or kinds i d) ∷ rest)
    one_more rest =
        ap (λ (l : List Kind). l ++ rest)
        (take-suc (map meant kinds) i (meant d) (omega (arith, length-map kinds meant))
        ∙ ap (λ (x : Kind). take i (map meant kinds) ++ (x ∷ [])) (get_or-map meant kinds i d))
        ∙ append_assoc (take i (map meant kinds)) (meant (get_or kinds i d) ∷ []) rest

    leads : Reach (take (suc i) (map meant kinds)) (position_meant to)
    unfolding LeadsTo
    leads rest =
        let before = r.reach (meant (get_or kinds i d) ∷ rest) in (
          λ l. (g rest).0 (before.0 (subst OrderLegal (one_more rest) l)),
          λ m. subst OrderLegal (sym (one_more rest)) (before.1 ((g rest).1 m)),
        )

    pub goes_on : (p : code_position.Position) → to ≡ Some p → Reached meant kinds p (i + 1)
    goes_on p f =
        let there : Reach (take (suc i) (map meant kinds)) (position_meant (Some p)) =
        subst (λ (x : Option code_position.Position). Reach (take (suc i) (map meant kinds)) (position_meant x)) f leads in
        record {
          place = omega arith;
          reach = subst (λ (n : ℕ). Reach (take n (map meant kinds)) (position_meant (Some p))) (sym (add-one i)) there;
          least = λ n l. case (eqb n i)
              (λ e. let o = open_at p in
              (o.0, subst (λ (x : ℕ). OrderLegal (take (suc x) (map meant kinds) ++ o.0)) (sym (eqb-true n i e)) ((there o.0).1 o.1)))
              (λ e. r.least n (let d = eqb-false n i e in omega arith));
        }

    pub breaks : to ≡ None → refused 7 i ≡ order_refusal (map meant kinds)
    breaks f =
        let none : (rest : List Kind) → ¬ OrderLegal (take (suc i) (map meant kinds) ++ rest) =
        λ rest l. unfold MayFollow in subst (λ (x : Option code_position.Position). MayFollow (position_meant x) rest) f
        ((leads rest).0 l) in
        order_only (map meant kinds) (refused 7 i) (
          refl,
          record {
            not_legal = λ l. none (drop (suc i) (map meant kinds)) (subst OrderLegal (sym (take-append-drop (suc i) (map meant kinds))) l);
            within = omega (arith, length-map kinds meant);
            breaks = λ l rest. none rest;
            least = r.least;
          },
        )

  -- the end
  module _ (h : length kinds ≤ i) where
    all_taken : take i (map meant kinds) ++ [] ≡ map meant kinds
    all_taken = append-nil (take i (map meant kinds)) ∙ take_all i (map meant kinds) (omega (arith, length-map kinds meant))

    pub too_soon : may_end (position_meant (Some position)) ≡ false → refused 7 (length kinds) ≡ order_refusal (map meant kinds)
    too_soon j =
        order_only (map meant kinds) (refused 7 (length kinds)) (
          refl,
          record {
            not_legal = λ l. too_few (position_meant (Some position)) j ((r.reach []).0 (subst OrderLegal (sym all_taken) l));
            within = omega (arith, length-map kinds meant);
            breaks = λ l. absurd (omega (arith, length-map kinds meant));
            least = λ n l. r.least n (omega arith);
          },
        )

    pub in_order : may_end (position_meant (Some position)) ≡ true → passed tt ≡ order_refusal (map meant kinds)
    in_order j =
        order_only (map meant kinds) (passed tt) (subst OrderLegal all_taken ((r.reach []).1 (enough (position_meant (Some position)) j)))

-- ---- the code's tests
-- by the kind that a number has
pub led : (p to : Position) {a b : Kind} → a ≡ b → LeadsTo p a to → LeadsTo p b to
led p to e l = subst (λ (k : Kind). LeadsTo p k to) e l

pub ends : (p : code_position.Position) → (p ≡ at.Ended) ⊎ (p ≡ at.Whole) → may_end (position_meant (Some p)) ≡ true
ends p (inl e) = rw e refl
ends p (inr e) = rw e refl

pub goes_on_from : (p : code_position.Position) → (p ≡ at.Start) ⊎ (p ≡ at.Front) ⊎ (p ≡ at.Tiles)
    → may_end (position_meant (Some p)) ≡ false
goes_on_from p (inl e) = rw e refl
goes_on_from p (inr (inl e)) = rw e refl
goes_on_from p (inr (inr e)) = rw e refl

-- the column is the number of the variant
column : (p : code_position.Position) → column_of p ≡ tag_of position_type.the_type p
column at.Start = refl
column at.Front = refl
column at.Tiles = refl
column at.Ended = refl
column at.Whole = refl

pub at_entry : (table : Table) → IsOrderTable table → (k : ℕ) (p : code_position.Position) → k < 17
    → LeadsTo (position_meant (Some p)) (kind_of_number k)
    (position_meant (get_or (get_or table k []) (tag_of position_type.the_type p) None))
unfolding IsOrderTable
at_entry table h k p few =
    subst (λ (n : ℕ). LeadsTo (position_meant (Some p)) (kind_of_number k) (position_meant (get_or (get_or table k []) n None))) (column p)
    (h k p few)
