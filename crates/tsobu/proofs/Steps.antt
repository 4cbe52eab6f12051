-- One step of a walk: what it answers at a place, and what its answer says of the place. The start is valid, and every step keeps that.
-- Assumes nothing.
use Prim.Native.Nat.{ℕ, ◌+◌, ◌-◌, ◌≤◌, ◌<◌}
use mathlib.Core.Bool.{Bool, true, false, not}
use mathlib.Core.Path.{◌≡◌, refl, sym, ap, ap₂, subst, ◌∙◌}
use mathlib.Core.Logic.{◌⊎◌, inl, inr}
use native.Mathlib.Omega.{arith}
use borrow.Author.Tests.{lt-ltb, le-leb, eq-eqb, ne_eqb, ltb-true, ltb-false, leb-true, leb-false, eqb-true, eqb-false, not-false}
use lib.Dec.{leb, ltb, eqb}
use lib.ListN.{length, take, drop}
use Rattle.lists.specs.Lists.{Bytes}
use Rattle.lists.proofs.Tests.{case, clash, apart, and_both, and_second, and_by_true}
use Rattle.refusal.specs.Verdict.{Verdict, passed, refused, given, at_place}
use Rattle.refusal.proofs.Verdicts.{refuse, pass_on, refuse_at, pass_at, never, passed_same, passed_after, given_passed, at_passed}
use Rattle.refusal.proofs.Turns.{same_number, same_place}
use Rattle.emulation.specs.Payload.{legal}
use Rattle.tsobu.specs.StartCodes.{at_start_code}
use Rattle.tsobu.specs.Walk.{WalkPlace, payload_from, obu_index, Found, payload, end, part_at, payload_step, at_end, stepping}
use Rattle.tsobu.specs.Walk.{place_after_step}
use Rattle.tsobu.specs.Walk.{place_after}
use Rattle.tsobu.specs.declared.walking.Part.{Part}
use Rattle.tsobu.proofs.Places.{next_code, payload_at, code_fits, next_place}

-- a payload is not the end
pub not_end : {p : Part} → ◌≡◌ {A = Verdict Found} (passed (payload p)) (passed end) → ⊥
not_end h = apart (cc)

module _ (unit : Bytes) (at : ℕ) where
  -- ---- the end
  pub end_is : at_end unit at ≡ true → (0 < at) × (length unit ≤ at)
  end_is e = let h = and_both (ltb 0 at) (leb (length unit) at) e in (ltb-true 0 at h.0, leb-true (length unit) at h.1)

  pub is_end : 0 < at → length unit ≤ at → at_end unit at ≡ true
  is_end h k = sym (and_by_true (lt-ltb 0 at h) (sym (le-leb (length unit) at k)))

  -- a place that is not at the end lies within the unit
  pub not_end_within : at_end unit at ≡ false → at ≤ length unit
  not_end_within e =
      case (ltb 0 at)
      (λ h. let k = leb-false (length unit) at (and_second (ltb 0 at) (leb (length unit) at) h e) in omega arith)
      (λ h. let k = ltb-false 0 at h in omega arith)

  pub code_before_end : at_start_code (drop at unit) ≡ true → at_end unit at ≡ false
  code_before_end c =
      case (at_end unit at)
      (λ e. absurd (omega (arith, (end_is e).1, code_fits unit at c)))
      (λ e. e)

  -- ---- the step at a start code
  pub step_empty : length (payload_from unit at) ≡ 0 → refused 3 (obu_index unit at) ≡ payload_step unit at
  unfolding payload_step
  step_empty e = refuse_at (obu_index unit at) 3 _ (eq-eqb (length (payload_from unit at)) 0 e)

  some : 1 ≤ length (payload_from unit at) → eqb (length (payload_from unit at)) 0 ≡ false
  some h = ne_eqb (length (payload_from unit at)) 0 (λ z. absurd (omega arith))

  pub step_illegal : 1 ≤ length (payload_from unit at) → legal (payload_from unit at) ≡ false
      → refused 10 (obu_index unit at) ≡ payload_step unit at
  unfolding payload_step
  step_illegal h e = pass_at (obu_index unit at) 3 (some h) (refuse_at (obu_index unit at) 10 _ (ap not e))

  pub step_legal : 1 ≤ length (payload_from unit at) → legal (payload_from unit at) ≡ true
      → passed (payload (part_at unit at)) ≡ payload_step unit at
  unfolding payload_step
  step_legal h e = pass_at (obu_index unit at) 3 (some h) (pass_at (obu_index unit at) 10 (ap not e) refl)

  -- the part, from its fields
  pub part_is : (p : Part) → p.start ≡ at + 3 → p.bytes ≡ length (payload_from unit at) → p.next ≡ next_code unit at
      → passed (payload p) ≡ passed (payload (part_at unit at))
  part_is p s b n = λ i. passed (payload (record { start = s i; bytes = b i; next = n i }))

  -- ---- the step at a place
  pub step_end : at_end unit at ≡ true → passed end ≡ stepping unit at
  unfolding stepping
  step_end e = rw (e, stepping)

  pub step_code : {v : Verdict Found} → at_start_code (drop at unit) ≡ true → v ≡ payload_step unit at → v ≡ stepping unit at
  unfolding stepping
  step_code c k = rw (code_before_end c, stepping) (pass_on 9 (ap not c) k)

  pub step_other : at_end unit at ≡ false → at_start_code (drop at unit) ≡ false → refused 9 0 ≡ stepping unit at
  unfolding stepping
  step_other h e = rw (h, stepping) (refuse 9 (payload_step unit at) (ap not e))

-- ---- what a step that handed out a payload says
pub record Gives (unit : Bytes) (at : ℕ) (p : Part) : Type 0 where
  pub before_end : at < length unit
  pub code : at_start_code (drop at unit) ≡ true
  pub start : p.start ≡ at + 3
  pub long : p.bytes ≡ length (payload_from unit at)
  pub next : p.next ≡ next_code unit at
  pub some : 1 ≤ length (payload_from unit at)
  pub fine : legal (payload_from unit at) ≡ true

-- ---- what a step that refused says: 9 at a place without a start code, or at a start code 3 or 10, with the OBU index as its place
abbrev pub WalkNumber : ℕ → Type 0
WalkNumber number = (number ≡ 3) ⊎ (number ≡ 10)

pub data Refuses (unit : Bytes) (at number place : ℕ) : Type 0 where
  no_code : at_start_code (drop at unit) ≡ false → at_end unit at ≡ false → number ≡ 9 → place ≡ 0 → Refuses unit at number place
  at_code : at_start_code (drop at unit) ≡ true → WalkNumber number → place ≡ obu_index unit at → Refuses unit at number place

at_given : (place number : ℕ) (t : Bool) → at_place place (given number t) ≡ passed tt → t ≡ false
at_given place number t e = given_passed number t (at_passed place (given number t) e)

module _ (unit : Bytes) (at : ℕ) where
  gives_code : (p : Part) → at_start_code (drop at unit) ≡ true → payload_step unit at ≡ passed (payload p) → Gives unit at p
  unfolding payload_step
  gives_code p c e =
      let k3 = passed_after _ _ (payload p) e in
      let k10 = passed_after _ _ (payload p) k3.1 in
      let same = passed_same _ (payload p) k10.1 in
      let parts : part_at unit at ≡ p = cc in
      let z = eqb-false (length (payload_from unit at)) 0 (at_given _ 3 _ k3.0) in
      record {
        before_end = omega (arith, code_fits unit at c);
        code = c;
        start = sym (ap (λ (q : Part). q.start) parts);
        long = sym (ap (λ (q : Part). q.bytes) parts);
        next = sym (ap (λ (q : Part). q.next) parts);
        some = omega arith;
        fine = not-false (legal (payload_from unit at)) (at_given _ 10 _ k10.0);
      }

  pub gives : (p : Part) → stepping unit at ≡ passed (payload p) → Gives unit at p
  gives p e =
      case (at_start_code (drop at unit))
      (λ c. gives_code p c (step_code unit at c refl ∙ e))
      (λ c.
      case (at_end unit at)
      (λ t. absurd (not_end (sym e ∙ sym (step_end unit at t))))
      (λ t. never (step_other unit at t c ∙ e)))

  -- the part that it hands out is the payload at its place
  pub gives_part : (p : Part) → Gives unit at p → take p.bytes (drop p.start unit) ≡ payload_at unit at
  gives_part p h =
      let e : p.bytes ≡ next_code unit at - (at + 3) = h.long ∙ omega arith in
      ap₂ (λ (n i : ℕ). take n (drop i unit)) e h.start

  -- ---- what a step that says the end says
  code_not_end : payload_step unit at ≡ passed end → ⊥
  unfolding payload_step
  code_not_end e = not_end (passed_after _ _ end (passed_after _ _ end e).1).1

  pub ended_place : stepping unit at ≡ passed end → at_end unit at ≡ true
  ended_place e =
      case (at_end unit at)
      (λ t. t)
      (λ t.
      case (at_start_code (drop at unit))
      (λ c. absurd (code_not_end (step_code unit at c refl ∙ e)))
      (λ c. never (step_other unit at t c ∙ e)))

  code_refused : (number place : ℕ) → payload_step unit at ≡ refused number place → WalkNumber number × (place ≡ obu_index unit at)
  code_refused number place e =
      case (eqb (length (payload_from unit at)) 0)
      (λ z.
      let k = sym e ∙ sym (step_empty unit at (eqb-true (length (payload_from unit at)) 0 z)) in
      (inl (same_number k), same_place k))
      (λ z.
      let n = eqb-false (length (payload_from unit at)) 0 z in
      case (legal (payload_from unit at))
      (λ f. never (sym e ∙ sym (step_legal unit at (omega arith) f)))
      (λ f. let k = sym e ∙ sym (step_illegal unit at (omega arith) f) in (inr (same_number k), same_place k)))

  pub refused_step : (number place : ℕ) → stepping unit at ≡ refused number place → Refuses unit at number place
  refused_step number place e =
      case (at_start_code (drop at unit))
      (λ c. let k = code_refused number place (step_code unit at c refl ∙ e) in at_code c k.0 k.1)
      (λ c.
      case (at_end unit at)
      (λ t. never (sym (step_end unit at t ∙ e)))
      (λ t. let k = sym e ∙ sym (step_other unit at t c) in no_code c t (same_number k) (same_place k)))

  -- "It checks 9 at the start": of the valid places only 0 is refused with 9
  pub nine_at_start : (place : ℕ) → WalkPlace unit at → stepping unit at ≡ refused 9 place → at ≡ 0
  nine_at_start place v e = by (refused_step 9 place e) v
    where
      by : Refuses unit at 9 place → WalkPlace unit at → at ≡ 0
      by (no_code c t n k) (inl z) = z
      by (no_code c t n k) (inr (inl z)) =
          case (ltb 0 at)
          (λ h. clash (is_end unit at (ltb-true 0 at h) (omega arith)) t)
          (λ h. let l = ltb-false 0 at h in omega arith)
      by (no_code c t n k) (inr (inr d)) = clash d c
      by (at_code c (inl n) k) w = absurd (omega arith)
      by (at_code c (inr n) k) w = absurd (omega arith)

-- ---- validity: every walk starts at a valid place, and every step keeps that
pub start_valid : (unit : Bytes) → WalkPlace unit 0
start_valid unit = inl refl

goes_valid : (unit : Bytes) (at : ℕ) (found : Verdict Found) → stepping unit at ≡ found → WalkPlace unit at
    → WalkPlace unit (place_after_step at found)
goes_valid unit at (passed (payload p)) e v =
    let h = gives unit at p e in
    subst (WalkPlace unit) (sym h.next) (inr (next_place unit at h.code))
goes_valid unit at (passed end) e v = v
goes_valid unit at (refused number place) e v = v

pub step_valid : (unit : Bytes) (at : ℕ) → WalkPlace unit at → WalkPlace unit (place_after unit at)
step_valid unit at v = goes_valid unit at (stepping unit at) refl v
