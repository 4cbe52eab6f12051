-- The walk beside reading: of a unit that reading accepts it hands out all payloads and comes to the end; where reading refuses with 3 or
-- 10 at an OBU, it hands out the payloads before that one and refuses with the same number and place. Assumes nothing.
use Prim.Native.Nat.{ℕ, ◌≤◌, ◌<◌}
use mathlib.Core.Bool.{Bool, true, false, not}
use mathlib.Core.Path.{◌≡◌, refl, sym, ap, ap₂, subst, ◌∙◌}
use mathlib.Core.Logic.{◌⊎◌, inl, inr}
use mathlib.Core.List.{List, ◌∷◌}
use native.Mathlib.Omega.{arith}
use borrow.Author.Tests.{eqb-false, eqb-true, ne_eqb, not-false}
use lib.Dec.{eqb}
use lib.ListN.{length, take, drop, length-append}
use lib.Seq.{take-append_seam}
use Rattle.lists.specs.Lists.{Bytes}
use Rattle.lists.proofs.Tests.{case}
use Rattle.refusal.specs.Verdict.{Verdict, passed, refused, ◌>>◌, given, in_turn}
use Rattle.refusal.proofs.Verdicts.{refuse, pass_on, passed_after, given_passed, not_given, All, all_so}
use Rattle.refusal.proofs.Refusing.{refuses_given, refuses_then}
use Rattle.refusal.proofs.Turns.{same_number, Without, not_so, refused_later, refused_here, bind_refused, turns_refused}
use Rattle.emulation.specs.Payload.{legal, unescape}
use Rattle.emulation.proofs.Theorems.{unescape_some}
use Rattle.obu.specs.Header.{obu_refusal}
use Rattle.obu.specs.Order.{Kind, order_refusal}
use Rattle.obu.proofs.Numbers.{refuses_try, obu_refuses, order_refuses}
use Rattle.tsobu.specs.StartCodes.{at_start_code, payloads}
use Rattle.tsobu.specs.TsObu.{tsobu_refusal}
use Rattle.unit.specs.Unit.{read_unit, AcceptsAs}
use Rattle.unit.specs.Answer.{checking, reading}
use denote.Ref.{Bor}
use Rattle.tsobu.specs.Walk.{end, fresh, ReaderSays, ReaderWalks}
use Rattle.tsobu.proofs.ByReader.{reader_says}
use Rattle.tsobu.specs.Walk.{payload_from, obu_index, stepping, HandsOut, WalkSays, Walks}
use Rattle.unit.proofs.Acceptance.{reads}
use Rattle.tsobu.proofs.Places.{payload_at, payload_is, payloads_from, code_fits}
use Rattle.tsobu.proofs.Steps.{step_empty, step_illegal, step_code, WalkNumber}
use Rattle.tsobu.proofs.Walks.{Fine, place_more, walk_front, walk_from, refused_place}

-- ---- a unit that reading accepts
fine : (p : Bytes) → tsobu_refusal p ≡ passed tt → Fine p
unfolding tsobu_refusal
fine p e =
    let k3 = passed_after _ _ tt e in
    let k10 = passed_after _ _ tt k3.1 in
    let some = eqb-false (length p) 0 (given_passed 3 _ k3.0) in
    (omega arith, not-false (legal p) (given_passed 10 _ k10.0))

all_fine : (ps : List Bytes) → All (λ p. tsobu_refusal p ≡ passed tt) ps → All Fine ps
all_fine ps = all_so ps fine

pub accepted_walks : (unit : Bytes) (l : List Bytes) → AcceptsAs unit l → Walks unit 0 (payloads unit)
accepted_walks unit l a =
    let r = (reads unit l a).0 in
    walk_from unit 0 (inr r.headed) (omega (arith, code_fits unit 0 r.headed)) (all_fine (payloads unit) r.tsobus)

-- ---- the numbers 3 and 10
module _ (number : ℕ) (w : WalkNumber number) where
  -- another number is neither
  differs : (other : ℕ) → eqb other 3 ≡ false → eqb other 10 ≡ false → other ≡ number → ⊥
  differs other e3 e10 k = by w
    where
      by : WalkNumber number → ⊥
      by (inl z) = eqb-false other 3 e3 (k ∙ z)
      by (inr z) = eqb-false other 10 e10 (k ∙ z)

  -- a try that gives another number, and what follows
  one : (other : ℕ) (t : Bool) → eqb other 3 ≡ false → eqb other 10 ≡ false → Without number (given other t)
  one other t e3 e10 = refuses_given _ other t (differs other e3 e10)

  try : {A : Type 0} (other : ℕ) (t : Bool) (v : Verdict A) → eqb other 3 ≡ false → eqb other 10 ≡ false → Without number v
      → Without number (given other t >> v)
  try other t v e3 e10 h = refuses_try _ other t v (differs other e3 e10) h

  -- an OBU that is not empty is refused with neither
  obu_said : (obu : Bytes) → 1 ≤ length obu → Without number (obu_refusal obu)
  obu_said obu h =
      let some : given 3 (eqb (length obu) 0) ≡ passed tt = not_given 3 _ (ne_eqb (length obu) 0 (λ z. omega arith)) in
      obu_refuses (λ n. n ≡ number → ⊥) (differs 4 refl refl) (differs 5 refl refl) (differs 6 refl refl) (differs 42 refl refl) obu
      (subst (Without number) (sym some) tt)

  -- nor is the order
  order_said : (kinds : List Kind) → Without number (order_refusal kinds)
  order_said = order_refuses (λ n. n ≡ number → ⊥) (differs 7 refl refl)

  -- ---- a payload that reading refuses with one of them is refused so by the step at its start code
  payload_refused : (p : Bytes) (place : ℕ) → tsobu_refusal p ≡ refused number place
      → ((number ≡ 3) × (length p ≡ 0)) ⊎ ((number ≡ 10) × (1 ≤ length p) × (legal p ≡ false))
  unfolding tsobu_refusal
  payload_refused p place e =
      case (eqb (length p) 0)
      (λ z. inl (same_number (sym e ∙ sym (refuse 3 _ z)), eqb-true (length p) 0 z))
      (λ z.
      let n = eqb-false (length p) 0 z in
      let some : 1 ≤ length p = omega arith in
      case (legal p)
      (λ f. not_so number place _ (obu_said (unescape p) (unescape_some p some)) (pass_on 3 z (pass_on 10 (ap not f) refl) ∙ e))
      (λ f. inr (same_number (sym e ∙ sym (pass_on 3 z (refuse 10 _ (ap not f)))), some, f)))

  step_refused : (unit : Bytes) (at place : ℕ) → at_start_code (drop at unit) ≡ true → tsobu_refusal (payload_at unit at) ≡ refused number
      place
      → stepping unit at ≡ refused number (obu_index unit at)
  step_refused unit at place c e = by (payload_refused (payload_from unit at) place (ap tsobu_refusal (sym (payload_is unit at)) ∙ e))
    where
      by : ((number ≡ 3) × (length (payload_from unit at) ≡ 0))
          ⊎ ((number ≡ 10) × (1 ≤ length (payload_from unit at)) × (legal (payload_from unit at) ≡ false))
          → stepping unit at ≡ refused number (obu_index unit at)
      by (inl (n, z)) = sym (step_code unit at c (ap (λ (m : ℕ). refused m (obu_index unit at)) n ∙ step_empty unit at z))
      by (inr (n, h, f)) = sym (step_code unit at c (ap (λ (m : ℕ). refused m (obu_index unit at)) n ∙ step_illegal unit at h f))

  -- ---- such a refusal is that of a payload in turn
  read_turns : (unit : Bytes) (k : ℕ) → read_unit unit ≡ refused number k
      → (at_start_code unit ≡ true) × (in_turn tsobu_refusal 0 (payloads unit) ≡ refused number k)
  unfolding read_unit
  read_turns unit k e =
      let h2 = refused_later number k _ _ (one 2 _ refl refl) e in
      let h9 = refused_later number k _ _ (one 9 _ refl refl) h2.1 in
      let h1 = refused_later number k _ _ (one 1 _ refl refl) h9.1 in (
        not-false (at_start_code unit) (given_passed 9 _ h9.0),
        refused_here number k _ _ (try 2 _ _ refl refl (refuses_then _ _ _ (order_said _) (λ _ _. tt))) h1.1,
      )

  -- ---- where reading refuses with 3 or 10 at OBU k, the walk hands out the first k payloads and then refuses with that number and place
  pub read_refused : (unit : Bytes) (k : ℕ) → read_unit unit ≡ refused number k
      → (k < length (payloads unit)) × WalkSays unit 0 (take k (payloads unit)) (refused number k)
  read_refused unit k e =
      let h = read_turns unit k e in
      let t = turns_refused tsobu_refusal 0 (payloads unit) number k h.1 in
      let r = walk_front unit 0 t.front (t.one ∷ t.back) (inr h.0) t.whole (all_fine t.front t.before) in
      let c = place_more unit r.to t.one t.back r.place r.left in
      let both = sym (payloads_from unit r.to c) ∙ r.left in
      let one : payload_at unit r.to ≡ t.one = cc in
      let s = step_refused unit r.to t.refusal.0 c (ap tsobu_refusal one ∙ t.refusal.1) in
      let at : obu_index unit r.to ≡ length t.front = refused_place unit t.front number _ (r.to, r.hands, s) in
      let count : k ≡ length t.front = omega (arith, t.at) in
      let front : t.front ≡ take k (payloads unit) =
      sym (ap₂ (λ (n : ℕ) (l : List Bytes). take n l) count t.whole ∙ take-append_seam t.front (t.one ∷ t.back)) in (
        omega (arith, count, ap length t.whole, length-append t.front (t.one ∷ t.back)),
        (r.to, subst (λ (ps : List Bytes). HandsOut unit 0 ps r.to) front r.hands, s ∙ ap (refused number) (at ∙ sym count)),
      )

  pub reading_refused : (unit : Bytes) (bytes lengths k : ℕ) → reading unit bytes lengths ≡ refused number k
      → (k < length (payloads unit)) × WalkSays unit 0 (take k (payloads unit)) (refused number k)
  unfolding reading checking
  reading_refused unit bytes lengths k e =
      read_refused unit k
      (bind_refused number k (read_unit unit) _ (λ obus. tt)
      (bind_refused number k (checking unit) _ (λ counts. try 8 _ _ refl refl tt) e))

-- ---- the same by a reader
-- the steps of a fresh reader over an accepted unit hand out all payloads and come to the end
pub reader_accepted : (unit : Bor Bytes) (l : List Bytes) → AcceptsAs unit.now l → ReaderWalks (fresh unit) (payloads unit.now)
reader_accepted unit l a = reader_says unit (payloads unit.now) (passed end) (accepted_walks unit.now l a)

-- where reading refuses with 3 or 10 at OBU k, a fresh reader hands out the first k payloads and then refuses with that number and place
module _ (number : ℕ) (n : WalkNumber number) (unit : Bor Bytes) where
  pub reader_read_refused : (k : ℕ) → read_unit unit.now ≡ refused number k
      → (k < length (payloads unit.now)) × ReaderSays (fresh unit) (take k (payloads unit.now)) (refused number k)
  reader_read_refused k e = let r = read_refused number n unit.now k e in (r.0, reader_says unit _ _ r.1)

  pub reader_reading_refused : (bytes lengths k : ℕ) → reading unit.now bytes lengths ≡ refused number k
      → (k < length (payloads unit.now)) × ReaderSays (fresh unit) (take k (payloads unit.now)) (refused number k)
  reader_reading_refused bytes lengths k e =
      let r = reading_refused number n unit.now bytes lengths k e in
      (r.0, reader_says unit _ _ r.1)
