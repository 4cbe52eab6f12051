-- What one tsOBU gives to the result, and its mark; the result is what each gives, in turn. Assumes nothing.
use Rattle.std.specs.Prelude.{Result, Ok, Err}
use Prim.Native.Nat.{ℕ, ◌+◌, ◌-◌, ◌≤◌, ◌<◌}
use mathlib.Core.Bool.{Bool, true, false}
use mathlib.Core.Path.{◌≡◌, refl, sym, ap, subst, ◌∙◌}
use mathlib.Core.List.{List, [], ◌∷◌, ◌++◌, map, flatten}
use native.Mathlib.Omega.{arith}
use borrow.Author.Tests.{lt-ltb, le-ltb, ltb-false}
use borrow.Rule.Slice.PartMut.{mid_of, put_mid}
use lib.ListN.{length, take, set, length-set}
use lib.Seq.{length-take-le, take_all}
use Rattle.lists.specs.Lists.{Bytes, pick, those, over}
use Rattle.lists.proofs.Elements.{those_first, those_others}
use Rattle.lists.proofs.Parts.{tail_prefix}
use Rattle.lists.proofs.Picks.{by_true, by_false}
use Rattle.lists.proofs.Tests.{case, clash}
use Rattle.refusal.specs.Verdict.{Verdict, passed, refused, NoValue, given, passes}
use Rattle.refusal.proofs.Verdicts.{follows, stops, not_given, passed_after, given_passed, All}
use Rattle.refusal.specs.Number.{number_of, says}
use Rattle.refusal.specs.declared.Refused.{Refused}
use Rattle.emulation.specs.Payload.{unescape, escape}
use Rattle.emulation.proofs.Steps.{given_or_dropped}
use Rattle.std.specs.Prelude.{Some}
use Rattle.obu.specs.Header.{obu_refusal}
use Rattle.obu.specs.Order.{Kind, kind_of, kind_of_number, kind_number}
use Rattle.obu.specs.Table.{kind_meant}
use Rattle.obu.specs.declared.ordering.Kind as code_kind
use Rattle.obu.proofs.Headers.{header_kind}
use Rattle.unit.specs.Unit.{most_obu_bytes, sum, carried}
use Rattle.tsobu.specs.StartCodes.{payloads}
use Rattle.tsobu.specs.TsObu.{tsobu_refusal}
use Rattle.tsobu.specs.TsObu.{tsobu_figures}
use Rattle.tsobu.specs.declared.judging.Figures.{Figures}
use Rattle.unit.proofs.Writings.{code_over}
use Rattle.unit.proofs.Theorem.{tsobu_legal}
use Rattle.unit.proofs.Accepted.{tsobu_obu}
use Rattle.tsobu.proofs.TsObus.{Passes, tsobu_refused, tsobu_passed}
use Rattle.refusal.proofs.Verdicts.{all_append, passes_passed}
use Rattle.salvage.specs.Salvage.{salvage_refusal, keeps, salvaged, closes, mark_by, mark}
use Rattle.salvage.specs.declared.One.{One}
use Rattle.salvage.specs.Parts.{form, forms, kept_of, kinds_of, bytes_of, dropped_one, kept_one, OneOf}
use Rattle.salvage.proofs.Closing.{rewritten}

-- ---- one tsOBU
module _ (p : Bytes) where
  -- from the verdict on it
  mark_is : (v : Verdict NoValue) → salvage_refusal p ≡ v → mark_by (closes p) v ≡ mark p
  mark_is v e = ap (mark_by (closes p)) (sym e)

  form_is : (v : Verdict NoValue) → salvage_refusal p ≡ v → pick (passes v) (0 ∷ 0 ∷ 1 ∷ escape (unescape p)) [] ≡ form p
  unfolding form
  form_is v e = ap (λ (x : Verdict NoValue). pick (passes x) (0 ∷ 0 ∷ 1 ∷ escape (unescape p)) []) (sym e)

  -- dropped with its number
  module _ (number place : ℕ) (e : salvage_refusal p ≡ refused number place) where
    pub dropped_mark : number ≡ mark p
    dropped_mark = mark_is (refused number place) e

    pub dropped_form : [] ≡ form p
    unfolding pick
    dropped_form = form_is (refused number place) e

  -- by a try of its own
  pub refused_here : (number place : ℕ) → tsobu_refusal p ≡ refused number place → salvage_refusal p ≡ refused number place
  unfolding salvage_refusal
  refused_here number place e = sym (stops _ e)

  pub too_large : tsobu_refusal p ≡ passed tt → most_obu_bytes < length (unescape p) → salvage_refusal p ≡ refused 2 0
  unfolding salvage_refusal given pick
  too_large e h = sym (follows e (rw (lt-ltb most_obu_bytes (length (unescape p)) h)))

  pub passes_all : tsobu_refusal p ≡ passed tt → length (unescape p) ≤ most_obu_bytes → salvage_refusal p ≡ passed tt
  unfolding salvage_refusal
  passes_all e h = sym (follows e (sym (not_given 2 _ (le-ltb most_obu_bytes (length (unescape p)) h))))

  -- kept
  pub own_passed : salvage_refusal p ≡ passed tt → tsobu_refusal p ≡ passed tt
  unfolding salvage_refusal
  own_passed e = (passed_after _ _ tt e).0

  pub size_passed : salvage_refusal p ≡ passed tt → length (unescape p) ≤ most_obu_bytes
  unfolding salvage_refusal
  size_passed e = ltb-false most_obu_bytes (length (unescape p)) (given_passed 2 _ (passed_after _ _ tt e).1)

  module _ (e : salvage_refusal p ≡ passed tt) where
    kept_form : 0 ∷ 0 ∷ 1 ∷ pick (closes p) (take (length p - 1) p) p ≡ form p
    unfolding pick
    kept_form = ap (λ (w : Bytes). 0 ∷ 0 ∷ 1 ∷ w) (sym (rewritten p (tsobu_legal p (own_passed e)))) ∙ form_is (passed tt) e

    pub closed_mark : closes p ≡ true → 1 ≡ mark p
    unfolding pick
    closed_mark c = sym (ap (λ (t : Bool). pick t 1 0) c) ∙ mark_is (passed tt) e

    pub plain_mark : closes p ≡ false → 0 ≡ mark p
    unfolding pick
    plain_mark c = sym (ap (λ (t : Bool). pick t 1 0) c) ∙ mark_is (passed tt) e

    pub closed_form : closes p ≡ true → 0 ∷ 0 ∷ 1 ∷ take (length p - 1) p ≡ form p
    unfolding pick
    closed_form c = ap (λ (t : Bool). 0 ∷ 0 ∷ 1 ∷ pick t (take (length p - 1) p) p) (sym c) ∙ kept_form

    pub plain_form : closes p ≡ false → 0 ∷ 0 ∷ 1 ∷ p ≡ form p
    unfolding pick
    plain_form c = ap (λ (t : Bool). 0 ∷ 0 ∷ 1 ∷ pick t (take (length p - 1) p) p) (sym c) ∙ kept_form

-- ---- the OBU of one tsOBU, if it is kept
kept_none : (p : Bytes) → keeps p ≡ false → kept_of (p ∷ []) ≡ []
unfolding those
kept_none p e = ap (map unescape) (those_others keeps p [] e)

kept_one_lem : (p : Bytes) → keeps p ≡ true → kept_of (p ∷ []) ≡ unescape p ∷ []
unfolding those
kept_one_lem p e = ap (map unescape) (those_first keeps p [] e)

-- ---- what a tsOBU gives
pub given_dropped : (p : Bytes) (number place : ℕ) → salvage_refusal p ≡ refused number place
    → OneOf p (dropped_one number)
unfolding sum
given_dropped p number place e =
    let none = kept_none p (ap passes e) in
    record {
      mark = dropped_mark p number place e;
      bytes = ap length (dropped_form p number place e);
      short = omega arith;
      front = λ h. absurd (h refl);
      kept = sym (ap length none);
      kind = sym (ap kinds_of none);
      size = sym (ap bytes_of none);
      within = omega arith;
    }

closes_some : (p : Bytes) → closes p ≡ true → 3 ≤ length p
unfolding closes
closes_some [] e = clash e refl
closes_some (a ∷ []) e = clash e refl
closes_some (a ∷ b ∷ []) e = clash e refl
closes_some (a ∷ b ∷ c ∷ s) e = omega arith

module _ (p : Bytes) (e : salvage_refusal p ≡ passed tt) (kind : code_kind.Kind) (size : ℕ) (k : kind_meant kind ≡ kind_of (unescape p))
    (z : size ≡ length (unescape p)) where
  kind_is : kind_meant kind ∷ [] ≡ kinds_of (kept_of (p ∷ []))
  kind_is = ap (λ (n : Kind). n ∷ []) k ∙ sym (ap kinds_of (kept_one_lem p (ap passes e)))

  size_is : size ≡ bytes_of (kept_of (p ∷ []))
  unfolding sum
  size_is = omega (arith, z, ap bytes_of (kept_one_lem p (ap passes e)))

  size_within : size ≤ length p
  size_within = omega (arith, z, given_or_dropped p)

  given_closed : closes p ≡ true → OneOf p (record { mark = 1; bytes = length p + 2; kept = Some (record { kind = kind; size = size }) })
  given_closed c =
      let f = closed_form p e c in
      let some = closes_some p c in
      let n : length p - 1 ≡ length p + 2 - 3 = omega arith in
      record {
        mark = closed_mark p e c;
        bytes = omega (arith, ap length f, length-take-le (length p - 1) p (omega arith));
        short = omega arith;
        front = λ h. (omega arith, sym f ∙ ap (λ (k : ℕ). 0 ∷ 0 ∷ 1 ∷ take k p) n);
        kept = sym (ap length (kept_one_lem p (ap passes e)));
        kind = kind_is;
        size = size_is;
        within = size_within;
      }

  given_plain : closes p ≡ false → OneOf p (record { mark = 0; bytes = length p + 3; kept = Some (record { kind = kind; size = size }) })
  given_plain c =
      let f = plain_form p e c in
      let n : length p ≤ length p + 3 - 3 = omega arith in
      record {
        mark = plain_mark p e c;
        bytes = omega (arith, ap length f);
        short = omega arith;
        front = λ h. (omega arith, sym f ∙ ap (λ (w : Bytes). 0 ∷ 0 ∷ 1 ∷ w) (sym (take_all (length p + 3 - 3) p n)));
        kept = sym (ap length (kept_one_lem p (ap passes e)));
        kind = kind_is;
        size = size_is;
        within = size_within;
      }

  pub given_kept : OneOf p (kept_one p kind size)
  unfolding kept_one
  given_kept =
      case (closes p)
      (λ c. subst (OneOf p) (by_true _ c refl) (given_closed c))
      (λ c. subst (OneOf p) (by_false _ c refl) (given_plain c))

-- ---- the result is what each gives, in turn
pub form_yes : (p : Bytes) → keeps p ≡ true → 0 ∷ 0 ∷ 1 ∷ escape (unescape p) ≡ form p
unfolding form pick
form_yes p e = rw e

pub form_no : (p : Bytes) → keeps p ≡ false → [] ≡ form p
unfolding form pick
form_no p e = rw e

carried_forms : (ps : List Bytes) → carried (map unescape (those keeps ps)) ≡ forms ps
unfolding carried those flatten
carried_forms [] = refl
carried_forms (p ∷ ps) =
    let more = carried_forms ps in
    case (keeps p)
    (λ e.
    ap (λ (l : List Bytes). carried (map unescape l)) (those_first keeps p ps e)
    ∙ ap (λ (s : Bytes). 0 ∷ 0 ∷ 1 ∷ escape (unescape p) ++ s) more
    ∙ ap (λ (w : Bytes). w ++ forms ps) (form_yes p e))
    (λ e.
    ap (λ (l : List Bytes). carried (map unescape l)) (those_others keeps p ps e)
    ∙ more
    ∙ ap (λ (w : Bytes). w ++ forms ps) (form_no p e))

pub salvaged_is : (s : Bytes) → salvaged s ≡ forms (payloads s)
salvaged_is s = carried_forms (payloads s)

-- ---- the OBUs that are kept, tsOBU by tsOBU
pub kept_next : (p : Bytes) (ps : List Bytes) → kept_of (p ∷ ps) ≡ kept_of (p ∷ []) ++ kept_of ps
kept_next p ps =
    case (keeps p)
    (λ e. ap (map unescape) (those_first keeps p ps e) ∙ ap (λ (l : List Bytes). l ++ kept_of ps) (sym (kept_one_lem p e)))
    (λ e. ap (map unescape) (those_others keeps p ps e) ∙ ap (λ (l : List Bytes). l ++ kept_of ps) (sym (kept_none p e)))

pub kept_few : (p : Bytes) → length (kept_of (p ∷ [])) ≤ 1
kept_few p =
    case (keeps p)
    (λ e. omega (arith, ap length (kept_one_lem p e)))
    (λ e. omega (arith, ap length (kept_none p e)))

pub kept_within : (p : Bytes) → bytes_of (kept_of (p ∷ [])) ≤ length p
unfolding sum
kept_within p =
    case (keeps p)
    (λ e. omega (arith, given_or_dropped p, ap bytes_of (kept_one_lem p e)))
    (λ e. omega (arith, ap bytes_of (kept_none p e)))

-- each passes by itself
pub keeps_passed : (p : Bytes) → keeps p ≡ true → salvage_refusal p ≡ passed tt
keeps_passed p = passes_passed (salvage_refusal p)

one_fine : (p : Bytes) → All (λ b. obu_refusal b ≡ passed tt) (kept_of (p ∷ []))
one_fine p =
    case (keeps p)
    (λ e.
    subst (All (λ b. obu_refusal b ≡ passed tt)) (sym (kept_one_lem p e)) (tsobu_obu p (own_passed p (keeps_passed p e)), tt))
    (λ e. subst (All (λ b. obu_refusal b ≡ passed tt)) (sym (kept_none p e)) tt)

pub kept_fine : (ps : List Bytes) → All (λ b. obu_refusal b ≡ passed tt) (kept_of ps)
unfolding those
kept_fine [] = tt
kept_fine (p ∷ ps) =
    subst (All (λ b. obu_refusal b ≡ passed tt)) (sym (kept_next p ps))
    (all_append (λ b. obu_refusal b ≡ passed tt) (kept_of (p ∷ [])) (kept_of ps) (one_fine p) (kept_fine ps))

-- ---- one tsOBU, by the answer on its payload
module _ (p : Bytes) (q : Result Figures Refused) (e : says q ≡ tsobu_figures p) where
  pub judged_refused : (r : Refused) → q ≡ Err r → OneOf p (dropped_one (number_of r.why))
  judged_refused r k = given_dropped p (number_of r.why) r.place (refused_here p (number_of r.why) r.place (tsobu_refused p q r e k))

  module _ (f : Figures) (k : q ≡ Ok f) where
    judged_as : Passes p f
    judged_as = tsobu_passed p q f e k

    pub judged_room : f.dropped ≤ length p
    judged_room = omega (arith, given_or_dropped p, judged_as.dropped_is)

    pub judged_size : length p - f.dropped ≡ length (unescape p)
    judged_size = omega (arith, given_or_dropped p, judged_as.dropped_is)

    pub judged_kind : (n : code_kind.Kind) → kind_meant n ≡ kind_of_number (kind_number f.header)
        → kind_meant n ≡ kind_of (unescape p)
    judged_kind n g = header_kind (unescape p) f.header n g judged_as.header

    pub judged_large : most_obu_bytes < length p - f.dropped → OneOf p (dropped_one 2)
    judged_large h = given_dropped p 2 0 (too_large p judged_as.tries (omega (arith, judged_size)))

    pub judged_passes : length p - f.dropped ≤ most_obu_bytes → salvage_refusal p ≡ passed tt
    judged_passes h = passes_all p judged_as.tries (omega (arith, judged_size))

-- ---- what is written of one tsOBU
empty : (w : Bytes) → length w ≡ 0 → w ≡ []
empty [] e = refl
empty (a ∷ w) e = absurd (omega arith)

pub none_written : (p out : Bytes) (one : One) → OneOf p one → one.bytes ≡ 0 → (0 ≡ length (form p)) × (out ≡ over (form p) out)
none_written p out one o e =
    let f : form p ≡ [] = empty (form p) (sym o.bytes ∙ e) in
    (sym e ∙ o.bytes, ap (λ (w : Bytes). over w out) (sym f))

pub room : (p out : Bytes) (one : One) → OneOf p one → (one.bytes ≡ 0 → ⊥) → length (form p) ≤ length out
    → (3 ≤ one.bytes) × (3 ≤ length out) × (one.bytes - 3 ≤ length p) × (one.bytes ≤ length out)
room p out one o n h = ((o.front n).0, omega (arith, (o.front n).0, o.bytes), omega (arith, o.short), omega (arith, o.bytes))

pub code_written : (p out after : Bytes) (one : One) → OneOf p one → (one.bytes ≡ 0 → ⊥) → length (form p) ≤ length out
    → after ≡ over (take (length (mid_of 3 (length (set (set (set out 0 0) 1 0) 2 1) - 3) (set (set (set out 0 0) 1 0) 2 1)))
    (take (one.bytes - 3) p)) (mid_of 3 (length (set (set (set out 0 0) 1 0) 2 1) - 3) (set (set (set out 0 0) 1 0) 2 1))
    → put_mid 3 (length (set (set (set out 0 0) 1 0) 2 1) - 3) (set (set (set out 0 0) 1 0) 2 1) after ≡ over (form p) out
code_written p out after one o n h e =
    let coded : Bytes = set (set (set out 0 0) 1 0) 2 1 in
    let w : Bytes = take (one.bytes - 3) p in
    let long : length coded ≡ length out = length-set (set (set out 0 0) 1 0) 2 1 ∙ length-set (set out 0 0) 1 0 ∙ length-set out 0 0 in
    let r = room p out one o n h in
    let three : 3 ≤ length out = r.1 in
    tail_prefix 3 coded w after (omega (arith, r.0, r.3, length-take-le (one.bytes - 3) p r.2)) e ∙ code_over out w three
    ∙ ap (λ (v : Bytes). over v out) (sym (o.front n).1)
