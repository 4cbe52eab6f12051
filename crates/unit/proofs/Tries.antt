-- The tries of writing: 1 and 2, those of each OBU in turn and of the order, and 8. Assumes nothing.
use Prim.Native.Nat.{ℕ, ◌+◌, ◌≤◌, ◌<◌}
use mathlib.Core.Bool.{Bool, false, not, ◌||◌, or-true}
use mathlib.Core.Path.{◌≡◌, refl, sym, ap, ap₂, subst₂, ◌∙◌}
use mathlib.Core.List.{List, [], ◌∷◌, ◌++◌, map, append-nil, map-append}
use native.Mathlib.Omega.{arith}
use native.Mathlib.Numerals.{add-one}
use borrow.Author.Tests.{lt-ltb, le-ltb, eq-eqb, ne_eqb}
use lib.Dec.{ltb, eqb}
use lib.ListN.{length, take, get_or, set, length-set}
use lib.Seq.{take-suc-set, append_snoc}
use Rattle.std.specs.Prelude.{Result, Ok, Err}
use Rattle.lists.specs.Lists.{Bytes, over}
use Rattle.lists.proofs.Tests.{apart}
use Rattle.refusal.specs.declared.Refused.{Refused}
use Rattle.refusal.specs.Number.{number_of, says}
use Rattle.refusal.specs.Verdict.{Verdict, passed, refused, ◌>>◌, NoValue, in_turn, leaves}
use Rattle.refusal.proofs.Verdicts.{refuse, pass_on, refines_passed, refines_refused, stops, follows}
use Rattle.obu.specs.declared.header.Header.{Header}
use Rattle.obu.specs.Header.{judged, obu_refusal}
use Rattle.obu.specs.Order.{Kind, kind_of, kind_of_number, kind_number, order_refusal}
use Rattle.obu.specs.Table.{kind_meant}
use Rattle.obu.specs.declared.ordering.Kind as code_kind
use Rattle.obu.proofs.Headers.{judged_header, header_kind}
use Rattle.unit.specs.Unit.{most_obus, most_obu_bytes, sum, obus_of, write_refusal, carried, write_unit}
use Rattle.unit.specs.Demand3.{Demand3Lent}
use Rattle.unit.proofs.Theorem.{written, demand3_lent}
use Rattle.unit.proofs.Rests.{left, next_obu, lent_obu, At, left_next, left_end, lent_obu_lem, at_next, next_long}

-- ---- 1 and 2
module _ (lens : List ℕ) (bytes : Bytes) where
  pub no_obu : length lens ≡ 0 → refused 1 0 ≡ write_refusal lens bytes
  unfolding write_refusal
  no_obu h = refuse 1 _ (ap (λ (t : Bool). t || ltb most_obus (length lens)) (eq-eqb (length lens) 0 h))

  pub too_many : most_obus < length lens → refused 1 0 ≡ write_refusal lens bytes
  unfolding write_refusal
  too_many h = refuse 1 _ (ap (λ (t : Bool). eqb (length lens) 0 || t) (lt-ltb most_obus (length lens) h) ∙ or-true (eqb (length lens) 0))

  count_right : 1 ≤ length lens → length lens ≤ most_obus → (eqb (length lens) 0 || ltb most_obus (length lens)) ≡ false
  count_right h k = ap₂ (λ (x y : Bool). x || y) (ne_eqb (length lens) 0 (λ z. absurd (omega arith))) (le-ltb most_obus (length lens) k)

  pub too_long : 1 ≤ length lens → length lens ≤ most_obus → most_obu_bytes < length bytes → refused 2 0 ≡ write_refusal lens bytes
  unfolding write_refusal
  too_long h k m =
      pass_on 1 (count_right h k)
      (refuse 2 _ (ap (λ (t : Bool). t || not (eqb (sum lens) (length bytes))) (lt-ltb most_obu_bytes (length bytes) m)))

  pub wrong_sum : 1 ≤ length lens → length lens ≤ most_obus → eqb (sum lens) (length bytes) ≡ false → refused 2 0 ≡ write_refusal lens bytes
  unfolding write_refusal
  wrong_sum h k e =
      pass_on 1 (count_right h k)
      (refuse 2 _ (ap (λ (t : Bool). ltb most_obu_bytes (length bytes) || not t) e ∙ or-true (ltb most_obu_bytes (length bytes))))

  -- neither is given
  abbrev pub Sized : Type 0
  Sized = (1 ≤ length lens) × (length lens ≤ most_obus) × (length bytes ≤ most_obu_bytes) × (sum lens ≡ length bytes)

  sized_tries : {v : Verdict NoValue} → Sized
      → v ≡ (in_turn obu_refusal 0 (obus_of lens bytes) >> order_refusal (map kind_of (obus_of lens bytes)))
      → v ≡ write_refusal lens bytes
  unfolding write_refusal
  sized_tries s e =
      pass_on 1 (count_right s.0 s.1)
      (pass_on 2 (ap₂ (λ (x y : Bool). x || not y) (le-ltb most_obu_bytes (length bytes) s.2) (eq-eqb (sum lens) (length bytes) s.3)) e)

-- ---- each OBU in turn, and the order
-- i OBUs passed, and `noted` begins with their kinds
pub record Judging (lens : List ℕ) (bytes : Bytes) (i at : ℕ) (noted : List code_kind.Kind) : Type 0 where
  pub place : At lens bytes i at
  pub long : length noted ≡ most_obus
  pub turns : in_turn obu_refusal i (left lens bytes i at) ≡ in_turn obu_refusal 0 (obus_of lens bytes)
  pub kinds : map kind_meant (take i noted) ++ map kind_of (left lens bytes i at) ≡ map kind_of (obus_of lens bytes)

-- the refusal of an OBU, from the verdict on it as the next one that is lent
module _ (lens : List ℕ) (bytes : Bytes) (i at : ℕ) (a : At lens bytes i at) (k : i < length lens) where
  judged_next : judged (lent_obu lens bytes i at) (get_or lens i 0) ≡ judged (next_obu lens bytes i at) (length (next_obu lens bytes i at))
  judged_next = ap₂ judged (lent_obu_lem lens bytes i at) (sym (next_long lens bytes i at a k))

  obu_passed : (h : Header) → judged (lent_obu lens bytes i at) (get_or lens i 0) ≡ passed h → obu_refusal (next_obu lens bytes i at) ≡
      passed tt
  unfolding ◌>>◌
  obu_passed h e = let j = sym judged_next ∙ e in rw j

  obu_refused : (number place : ℕ) → judged (lent_obu lens bytes i at) (get_or lens i 0) ≡ refused number place
      → obu_refusal (next_obu lens bytes i at) ≡ refused number place
  unfolding ◌>>◌
  obu_refused number place e = let j = sym judged_next ∙ e in rw j

module _ (lens : List ℕ) (bytes : Bytes) where
  pub judging_start : (noted : List code_kind.Kind) → sum lens ≡ length bytes → length noted ≡ most_obus → Judging lens bytes 0 0 noted
  judging_start noted e l = record { place = omega arith; long = l; turns = refl; kinds = refl }

  module _ (i at : ℕ) (noted : List code_kind.Kind) (j : Judging lens bytes i at noted) where
    -- the next OBU passed
    pub judging_next : i < length lens → length lens ≤ most_obus → (h : Header) → judged (lent_obu lens bytes i at) (get_or lens i 0) ≡
        passed h
        → (t : code_kind.Kind) → kind_meant t ≡ kind_of_number (kind_number h)
        → Judging lens bytes (i + 1) (at + get_or lens i 0) (set noted i t)
    judging_next k m h e t f =
        let obu : Bytes = next_obu lens bytes i at in
        let rest : List Bytes = left lens bytes (i + 1) (at + get_or lens i 0) in
        let before : List Kind = map kind_meant (take i noted) in
        let n = left_next lens bytes i at k in
        let lent : Bytes = lent_obu lens bytes i at in
        let kind : kind_of obu ≡ kind_meant t =
        ap kind_of (sym (lent_obu_lem lens bytes i at))
        ∙ sym (header_kind lent h t f (judged_header lent (get_or lens i 0) h e)) in
        let taken : take (i + 1) (set noted i t) ≡ take i noted ++ (t ∷ []) =
        ap (λ (x : ℕ). take x (set noted i t)) (add-one i) ∙ take-suc-set noted i t (omega (arith, j.long)) in
        record {
          place = at_next lens bytes i at j.place k;
          long = length-set noted i t ∙ j.long;
          turns =
              ap (λ (x : ℕ). in_turn obu_refusal x rest) (add-one i)
              ∙ sym (refines_passed obu_refusal i obu rest (obu_passed lens bytes i at j.place k h e))
              ∙ ap (in_turn obu_refusal i) (sym n) ∙ j.turns;
          kinds =
              ap (λ (l : List code_kind.Kind). map kind_meant l ++ map kind_of rest) taken
              ∙ ap (λ (l : List Kind). l ++ map kind_of rest) (map-append kind_meant (take i noted) (t ∷ []))
              ∙ append_snoc before (kind_meant t) (map kind_of rest) ∙ ap (λ (x : Kind). before ++ x ∷ map kind_of rest) (sym kind)
              ∙ ap (λ (l : List Bytes). before ++ map kind_of l) (sym n) ∙ j.kinds;
        }

    -- the next OBU refused
    pub judging_refused : Sized lens bytes → i < length lens → (number place : ℕ)
        → judged (lent_obu lens bytes i at) (get_or lens i 0) ≡ refused number place
        → refused number i ≡ write_refusal lens bytes
    judging_refused s k number place e =
        let refusal = obu_refused lens bytes i at j.place k number place e in
        sized_tries lens bytes s
        (stops _
        (sym j.turns ∙ ap (in_turn obu_refusal i) (left_next lens bytes i at k)
        ∙ refines_refused obu_refusal i (next_obu lens bytes i at) _ number place refusal))

    -- all passed
    pub judging_end : {v : Verdict NoValue} → Sized lens bytes → length lens ≤ i
        → v ≡ order_refusal (map kind_meant (take (length lens) noted)) → v ≡ write_refusal lens bytes
    unfolding in_turn
    judging_end s k e =
        let all : length lens ≡ i = omega (arith, j.place.0) in
        let n = left_end lens bytes i at k in
        let before : List Kind = map kind_meant (take i noted) in
        let kinds : before ≡ map kind_of (obus_of lens bytes) = sym (append-nil before)
        ∙ ap (λ (l : List Bytes). before ++ map kind_of l) (sym n) ∙ j.kinds in
        sized_tries lens bytes s (follows (sym j.turns ∙ ap (in_turn obu_refusal i) n) (e
        ∙ ap (λ (n : ℕ). order_refusal (map kind_meant (take n noted))) all ∙ ap order_refusal kinds))

-- ---- 8, and the whole answer
module _ (lens : List ℕ) (bytes out : Bytes) where
  -- what `write` promises of its answer and of the output after it
  abbrev Answers : Verdict ℕ → Bytes → Type 0
  Answers answer after =
      (answer ≡ write_unit lens bytes (length out))
      × ((after ≡ leaves answer (carried (obus_of lens bytes)) out) × Demand3Lent lens bytes out answer after)

  -- demand 3 follows from the definitions of the answer and of the output
  answers : (answer : Verdict ℕ) (after : Bytes) → answer ≡ write_unit lens bytes (length out)
      → after ≡ leaves answer (carried (obus_of lens bytes)) out
      → Answers answer after
  answers answer after e f =
      let g : after ≡ written lens bytes out = f ∙ ap (λ (v : Verdict ℕ). leaves v (carried (obus_of lens bytes)) out) e in
      (e, (f, subst₂ (Demand3Lent lens bytes out) (sym e) (sym g) (demand3_lent lens bytes out)))

  pub refused_answer : {answer : Verdict ℕ} (number place : ℕ) → answer ≡ refused number place
      → refused number place ≡ write_refusal lens bytes
      → Answers answer out
  unfolding write_unit leaves
  refused_answer {answer} number place e f = rw e (answers (refused number place) out (stops _ (sym f)) refl)

  pub no_room : {answer : Verdict ℕ} → answer ≡ refused 8 0 → passed tt ≡ write_refusal lens bytes
      → length out < length (carried (obus_of lens bytes))
      → Answers answer out
  unfolding write_unit leaves
  no_room {answer} e f h = rw e (answers (refused 8 0) out (follows (sym f) (refuse 8 _ (lt-ltb _ _ h))) refl)

  pub all_written : (n : ℕ) (after : Bytes) → n ≡ length (carried (obus_of lens bytes)) → passed tt ≡ write_refusal lens bytes
      → n ≤ length out
      → after ≡ over (carried (obus_of lens bytes)) out → Answers (passed n) after
  unfolding write_unit leaves
  all_written n after e f h k =
      answers (passed n) after
      (follows (sym f) (pass_on 8 (le-ltb (length out) (length (carried (obus_of lens bytes))) (omega arith)) (ap passed e))) k

-- ---- the verdict on an OBU, a refusal being placed at the OBU's index
abbrev pub placed_at : ℕ → Result Header Refused → Result Header Refused
placed_at i (Ok h) = Ok h
placed_at i (Err r) = Err (record { why = r.why; place = i })

pub placed_ok : (i : ℕ) (q : Result Header Refused) (h : Header) → placed_at i q ≡ Ok h → says q ≡ passed h
placed_ok i (Ok g) h e = ap says e
placed_ok i (Err r) h e = apart (cc)

pub placed_err : (i : ℕ) (q : Result Header Refused) (r : Refused) → placed_at i q ≡ Err r
    → (s : Refused) × (says q ≡ refused (number_of s.why) s.place) × (r ≡ record { why = s.why; place = i })
placed_err i (Ok h) r e = apart (cc)
placed_err i (Err s) r e = (s, refl, cc)
