-- The theorems of salvaging: an accepted unit loses nothing, what is kept is what passes, a closing 03 is removed exactly where the payload
-- has one, the result is never longer, it is accepted exactly where the list kept is, and salvaged again it stays as it is. Assumes
-- nothing.
use Prim.Native.Nat.{ℕ, ◌+◌, ◌≤◌}
use mathlib.Core.Bool.{Bool, true, false, ◌&&◌}
use mathlib.Core.Path.{◌≡◌, refl, sym, ap, subst, ◌∙◌}
use mathlib.Core.Logic.{◌⊎◌, inl, inr}
use mathlib.Core.List.{List, [], ◌∷◌, ◌++◌, map, flatten}
use native.Mathlib.Omega.{arith}
use borrow.Author.Tests.{eqb-true, eq-eqb}
use lib.Dec.{leb, eqb}
use lib.ListN.{length, length-append}
use Rattle.lists.specs.Lists.{Bytes, pick, those, all}
use Rattle.lists.proofs.Elements.{those_first, those_others}
use Rattle.lists.proofs.Tests.{case, clash, and_both, and_by_true}
use Rattle.refusal.specs.Verdict.{Verdict, passed, refused, NoValue}
use Rattle.refusal.proofs.Verdicts.{All}
use Rattle.refusal.proofs.Refusing.{Refuses, refuses_given, refuses_then}
use Rattle.emulation.specs.Payload.{unescape, escape}
use Rattle.emulation.proofs.Theorems.{legal_unescape, unescape_escape}
use Rattle.obu.proofs.Numbers.{refuses_try, obu_refuses}
use Rattle.unit.specs.Unit.{most_obu_bytes, sum, read_unit, carried}
use Rattle.tsobu.specs.StartCodes.{Split, split, payloads}
use Rattle.tsobu.specs.TsObu.{tsobu_refusal}
use Rattle.tsobu.proofs.Splits.{joined, split_whole, at_code}
use Rattle.unit.proofs.Carried.{split_carried}
use Rattle.unit.proofs.Acceptance.{reads}
use Rattle.unit.proofs.Theorem.{accepts_carried, obus_carried, tsobu_fine, tsobu_legal, unescape_all}
use Rattle.unit.proofs.Accepted.{accepted_list, carried_accepted, tsobu_obu}
use Rattle.refusal.specs.Verdict.{passes}
use Rattle.salvage.specs.Salvage.{salvage_refusal, keeps, kept, salvaged, closes, mark_by, mark}
use Rattle.salvage.specs.Parts.{form, forms, kept_of}
use Rattle.salvage.specs.Theorems.{AcceptedWhole, KeptOf, none, keep, drop, KeptInOrder, EndsIn000003, ClosingRemoved, NeverLonger}
use Rattle.salvage.specs.Theorems.{AcceptedByLaw, KeptAgain}
use Rattle.salvage.proofs.Closing.{escape_open, closes_with}
use Rattle.salvage.proofs.Forms.{own_passed, size_passed, passes_all, salvaged_is, form_yes, form_no, keeps_passed}
use Rattle.salvage.proofs.Forms.{dropped_mark, closed_mark, plain_mark}

-- ---- where each tsOBU passes, all are kept
abbrev Passing : Bytes → Type 0
Passing p = salvage_refusal p ≡ passed tt

-- none of them has more bytes than all
all_pass : (ps : List Bytes) → All (λ p. tsobu_refusal p ≡ passed tt) ps → sum (map length (map unescape ps)) ≤ most_obu_bytes → All Passing
    ps
unfolding sum
all_pass [] h k = tt
all_pass (p ∷ ps) h k = (passes_all p h.0 (omega arith), all_pass ps h.1 (omega arith))

all_kept : (ps : List Bytes) → All Passing ps → those keeps ps ≡ ps
unfolding those
all_kept [] h = refl
all_kept (p ∷ ps) h = those_first keeps p ps (ap passes h.0) ∙ ap (λ (l : List Bytes). p ∷ l) (all_kept ps h.1)

-- each mark is 0 or 1
kept_mark : (closing : Bool) → leb (mark_by closing (passed tt)) 1 ≡ true
unfolding pick
kept_mark true = refl
kept_mark false = refl

marks_kept : (ps : List Bytes) → All Passing ps → all (λ n. leb n 1) (map mark ps) ≡ true
unfolding all
marks_kept [] h = refl
marks_kept (p ∷ ps) h =
    sym (and_by_true (ap (λ (v : Verdict NoValue). leb (mark_by (closes p) v) 1) h.0 ∙ kept_mark (closes p)) (sym (marks_kept ps h.1)))

pub accepted_whole : AcceptedWhole
accepted_whole s l a =
    let r = reads s l a in
    let p = all_pass (payloads s) r.0.tsobus r.0.fits in
    let k : kept s ≡ l = ap (map unescape) (all_kept (payloads s) p) ∙ r.1 in
    record {
      none_before = ap length (at_code s r.0.headed);
      all_obus = k;
      all_marks = marks_kept (payloads s) p;
      written = ap carried k;
      accepts = ap (λ (m : List Bytes). read_unit (carried m)) k ∙ accepts_carried l (accepted_list s l a);
    }

-- ---- what is kept
sieved : (ps : List Bytes) → KeptOf ps (those keeps ps)
unfolding those
sieved [] = none
sieved (p ∷ ps) = by_verdict (salvage_refusal p) refl (sieved ps)
  where
    by_verdict : (v : Verdict NoValue) → salvage_refusal p ≡ v → KeptOf ps (those keeps ps) → KeptOf (p ∷ ps) (those keeps (p ∷ ps))
    by_verdict (passed tt) e k = subst (KeptOf (p ∷ ps)) (sym (those_first keeps p ps (ap passes e))) (keep e k)
    by_verdict (refused number place) e k = subst (KeptOf (p ∷ ps)) (sym (those_others keeps p ps (ap passes e))) (drop number place e k)

pub kept_in_order : KeptInOrder
kept_in_order s = (sieved (payloads s), obus_carried (kept s))

-- ---- the marks
-- a tsOBU is dropped with no number below 2
numbers : (p : Bytes) → Refuses (λ n. 2 ≤ n) (salvage_refusal p)
unfolding salvage_refusal tsobu_refusal
numbers p =
    let own = obu_refuses (λ n. 2 ≤ n) (omega arith) (omega arith) (omega arith) (omega arith) (unescape p)
    (refuses_given _ 3 _ (omega arith)) in
    refuses_then _ _ _ (refuses_try _ 3 _ _ (omega arith) (refuses_try _ 10 _ _ (omega arith) own))
    (λ _ _. refuses_given _ 2 _ (omega arith))

module _ (p : Bytes) where
  number_is : (number place : ℕ) → salvage_refusal p ≡ refused number place → 2 ≤ number
  number_is number place e = subst (Refuses (λ n. 2 ≤ n)) e (numbers p)

  -- a mark below 2 says that it passes
  kept_passes : mark p ≤ 1 → salvage_refusal p ≡ passed tt
  kept_passes h = by_verdict (salvage_refusal p) refl
    where
      by_verdict : (v : Verdict NoValue) → salvage_refusal p ≡ v → salvage_refusal p ≡ passed tt
      by_verdict (passed tt) e = e
      by_verdict (refused number place) e = absurd (omega (arith, dropped_mark p number place e, number_is number place e))

  one_closes : mark p ≡ 1 → closes p ≡ true
  one_closes m =
      case (closes p) (λ c. c)
      (λ c. absurd (omega (arith, plain_mark p (kept_passes (omega arith)) c)))

  zero_open : mark p ≡ 0 → closes p ≡ false
  zero_open m =
      case (closes p)
      (λ c. absurd (omega (arith, closed_mark p (kept_passes (omega arith)) c)))
      (λ c. c)

  two_forms : mark p ≤ 1 → (p ≡ escape (unescape p)) ⊎ (p ≡ escape (unescape p) ++ (3 ∷ []))
  two_forms h = legal_unescape p (unescape p) (tsobu_legal p (own_passed p (kept_passes h))) refl

  closed_form : closes p ≡ true → (p ≡ escape (unescape p)) ⊎ (p ≡ escape (unescape p) ++ (3 ∷ [])) → p ≡ escape (unescape p) ++ (3 ∷ [])
  closed_form c (inl e) = clash (sym (ap closes e) ∙ c) (escape_open (unescape p))
  closed_form c (inr e) = e

  open_form : closes p ≡ false → (p ≡ escape (unescape p)) ⊎ (p ≡ escape (unescape p) ++ (3 ∷ [])) → p ≡ escape (unescape p)
  open_form c (inl e) = e
  open_form c (inr e) = clash (closes_with p e) c

-- a payload closes exactly where it ends in 00 00 03
ends_by : (p : Bytes) → closes p ≡ true → EndsIn000003 p
unfolding closes
ends_by [] e = clash e refl
ends_by (a ∷ []) e = clash e refl
ends_by (a ∷ b ∷ []) e = clash e refl
ends_by (a ∷ b ∷ c ∷ []) e =
    let h = and_both (eqb a 0 && eqb b 0) (eqb c 3) e in
    let k = and_both (eqb a 0) (eqb b 0) h.0 in
    ([], rw (eqb-true a 0 k.0, eqb-true b 0 k.1, eqb-true c 3 h.1))
ends_by (a ∷ b ∷ c ∷ d ∷ s) e = let r = ends_by (b ∷ c ∷ d ∷ s) e in (a ∷ r.0, ap (λ (l : Bytes). a ∷ l) r.1)

by_end : (q : Bytes) → closes (q ++ (0 ∷ 0 ∷ 3 ∷ [])) ≡ true
unfolding closes
by_end [] = refl
by_end (a ∷ []) = refl
by_end (a ∷ b ∷ []) = refl
by_end (a ∷ b ∷ c ∷ []) = refl
by_end (a ∷ b ∷ c ∷ d ∷ q) = by_end (b ∷ c ∷ d ∷ q)

pub closing_removed : ClosingRemoved
closing_removed p =
    record {
      removed = (
        (λ m. (kept_passes p (omega arith), ends_by p (one_closes p m))),
        (λ h. sym (closed_mark p h.0 (ap closes h.1.1 ∙ by_end h.1.0))),
      );
      with_closing = λ m. closed_form p (one_closes p m) (two_forms p (omega arith));
      without = λ m. open_form p (zero_open p m) (two_forms p (omega arith));
      dropped = λ number place e. (sym (dropped_mark p number place e), number_is p number place e);
    }

-- ---- the length of the result
form_short : (p : Bytes) → length (form p) ≤ 3 + length p
form_short p =
    case (keeps p)
    (λ e. by_form (legal_unescape p (unescape p) (tsobu_legal p (own_passed p (keeps_passed p e))) refl) (form_yes p e))
    (λ e. omega (arith, ap length (form_no p e)))
  where
    by_form : (p ≡ escape (unescape p)) ⊎ (p ≡ escape (unescape p) ++ (3 ∷ [])) → 0 ∷ 0 ∷ 1 ∷ escape (unescape p) ≡ form p
        → length (form p) ≤ 3 + length p
    by_form (inl e) f = omega (arith, ap length e, ap length f)
    by_form (inr e) f = omega (arith, ap length e, length-append (escape (unescape p)) (3 ∷ []), ap length f)

forms_short : (ps : List Bytes) → length (forms ps) ≤ length (joined ps)
unfolding joined flatten
forms_short [] = omega arith
forms_short (p ∷ ps) = omega (arith, form_short p, forms_short ps, length-append (form p) (forms ps), length-append p (joined ps))

pub never_longer : NeverLonger
never_longer s =
    let whole = length-append (split s).before (joined (payloads s)) in
    omega (arith, ap length (salvaged_is s), forms_short (payloads s), ap length (split_whole s), whole)

-- ---- acceptance
verdict_passes : (v : Verdict (List Bytes)) → passes v ≡ true → (l : List Bytes) × (v ≡ passed l)
verdict_passes (passed l) e = (l, refl)
verdict_passes (refused number place) e = clash e refl

pub accepted_by_law : AcceptedByLaw
accepted_by_law s = (
  (λ e. let r = verdict_passes (read_unit (salvaged s)) e in carried_accepted (kept s) r.0 r.1),
  (λ a. ap passes (accepts_carried (kept s) a)),
)

-- ---- salvaging the result
kept_passing : (ps : List Bytes) → All Passing (map escape (kept_of ps))
unfolding those
kept_passing [] = tt
kept_passing (p ∷ ps) =
    case (keeps p)
    (λ e.
    let t = keeps_passed p e in
    let again : salvage_refusal (escape (unescape p)) ≡ passed tt = passing_again p t in
    subst (λ (l : List Bytes). All Passing (map escape (map unescape l))) (sym (those_first keeps p ps e)) (again, kept_passing ps))
    (λ e. subst (λ (l : List Bytes). All Passing (map escape (map unescape l))) (sym (those_others keeps p ps e)) (kept_passing ps))
  where
    passing_again : (p : Bytes) → salvage_refusal p ≡ passed tt → salvage_refusal (escape (unescape p)) ≡ passed tt
    passing_again p t =
        passes_all (escape (unescape p)) (tsobu_fine (unescape p) (tsobu_obu p (own_passed p t)))
        (subst (λ (u : Bytes). length u ≤ most_obu_bytes) (sym (unescape_escape (unescape p))) (size_passed p t))

marks_none : (l : List Bytes) → All Passing (map escape l) → all (λ n. eqb n 0) (map mark (map escape l)) ≡ true
unfolding all
marks_none [] h = refl
marks_none (b ∷ l) h =
    sym (and_by_true (eq-eqb (mark (escape b)) 0 (sym (plain_mark (escape b) h.0 (escape_open b)))) (sym (marks_none l h.1)))

pub kept_again : KeptAgain
kept_again s =
    let l = kept s in
    let parts : payloads (salvaged s) ≡ map escape l = ap (λ (r : Split). r.payloads) (split_carried l) in
    let passing = kept_passing (payloads s) in
    let same : kept (salvaged s) ≡ l =
    ap (λ (ps : List Bytes). map unescape (those keeps ps)) parts ∙ ap (map unescape) (all_kept (map escape l) passing) ∙ unescape_all l in
    record {
      none_before = ap (λ (r : Split). length r.before) (split_carried l);
      same_obus = same;
      same_bytes = ap carried same;
      no_mark = ap (λ (ps : List Bytes). all (λ n. eqb n 0) (map mark ps)) parts ∙ marks_none l passing;
    }
