-- The list that a string is accepted as is accepted, and the writer's string of a list is accepted exactly where the list is: reading and
-- writing make the same tries of the same OBUs. Assumes nothing.
use Prim.Native.Nat.{◌≤◌}
use mathlib.Core.Bool.{true, false, not, ◌||◌, true≢false}
use mathlib.Core.Path.{◌≡◌, sym, ap, subst, ◌∙◌}
use mathlib.Core.List.{List, [], ◌∷◌, map, flatten}
use native.Mathlib.Omega.{arith}
use borrow.Author.Tests.{eq-eqb, ne_eqb, le-ltb}
use lib.Dec.{ltb, eqb}
use lib.ListN.{length, length-map}
use Rattle.lists.specs.Lists.{Bytes}
use Rattle.refusal.specs.Verdict.{passed}
use Rattle.refusal.proofs.Verdicts.{pass_on, follows, passed_after, all_turns, All}
use Rattle.emulation.specs.Payload.{unescape}
use Rattle.obu.specs.Header.{obu_refusal}
use Rattle.obu.specs.Order.{kind_of, order_refusal}
use Rattle.unit.specs.Unit.{most_obus, most_obu_bytes, sum, AcceptsAs, obus_of, write_refusal, Accepted, carried}
use Rattle.tsobu.specs.StartCodes.{at_start_code, payloads}
use Rattle.tsobu.specs.TsObu.{tsobu_refusal}
use Rattle.unit.proofs.Lengths.{obus_of_lem, sum_lengths}
use Rattle.tsobu.proofs.Splits.{joined, from_code}
use Rattle.unit.proofs.Acceptance.{reads}
use Rattle.unit.proofs.Theorem.{Fits, obus_carried}

-- `fits` of Theorem.antt, the other way
pub accepted_by : (l : List Bytes) → Fits l → Accepted l
unfolding write_refusal
accepted_by l f =
    let lens = map length l in
    let bytes = flatten l in
    let n = length-map l length in
    let total = sum_lengths l in
    let few : (eqb (length lens) 0 || ltb most_obus (length lens)) ≡ false =
    rw (ne_eqb (length lens) 0 (λ z. absurd (omega (arith, f.some_obu))), le-ltb most_obus (length lens) (omega (arith, f.most))) in
    let small : (ltb most_obu_bytes (length bytes) || not (eqb (sum lens) (length bytes))) ≡ false =
    rw (le-ltb most_obu_bytes (length bytes) (omega (arith, f.bytes)), eq-eqb (sum lens) (length bytes) total) in
    let fine = subst (All (λ b. obu_refusal b ≡ passed tt)) (sym (obus_of_lem l)) f.obus in
    let order = sym (ap (λ (k : List Bytes). order_refusal (map kind_of k)) (obus_of_lem l) ∙ f.order) in
    sym (pass_on 1 few (pass_on 2 small (follows (all_turns obu_refusal 0 (obus_of lens bytes) fine) order)))

-- a string with a start code at its head has a payload
some_payload : (s : Bytes) → at_start_code s ≡ true → 1 ≤ length (payloads s)
unfolding joined at_start_code
some_payload s e = by_payloads (payloads s) (from_code s e)
  where
    by_payloads : (ps : List Bytes) → s ≡ joined ps → 1 ≤ length ps
    by_payloads [] f = absurd (true≢false (sym e ∙ ap at_start_code f))
    by_payloads (p ∷ ps) f = omega arith

-- an OBU whose tsOBU passes has passed
pub tsobu_obu : (p : Bytes) → tsobu_refusal p ≡ passed tt → obu_refusal (unescape p) ≡ passed tt
unfolding tsobu_refusal
tsobu_obu p h = (passed_after _ _ tt (passed_after _ _ tt h).1).1

obus_fine : (ps : List Bytes) → All (λ p. tsobu_refusal p ≡ passed tt) ps → All (λ b. obu_refusal b ≡ passed tt) (map unescape ps)
obus_fine [] h = tt
obus_fine (p ∷ ps) h = (tsobu_obu p h.0, obus_fine ps h.1)

pub accepted_list : (s : Bytes) (l : List Bytes) → AcceptsAs s l → Accepted l
accepted_list s l a =
    let r = reads s l a in
    let n : length l ≡ length (payloads s) = ap length (sym r.1) ∙ length-map (payloads s) unescape in
    accepted_by l
    (record {
      some_obu = omega (arith, some_payload s r.0.headed);
      most = omega (arith, r.0.most);
      bytes = subst (λ (k : List Bytes). sum (map length k) ≤ most_obu_bytes) r.1 r.0.fits;
      obus = subst (All (λ b. obu_refusal b ≡ passed tt)) r.1 (obus_fine (payloads s) r.0.tsobus);
      order = subst (λ (k : List Bytes). order_refusal (map kind_of k) ≡ passed tt) r.1 r.0.order;
    })

-- the writer's string of a list is accepted as that list alone, and only where the list is accepted (`accepts_carried` is the other way)
pub carried_accepted : (l k : List Bytes) → AcceptsAs (carried l) k → Accepted l
carried_accepted l k a =
    let same : k ≡ l = sym (reads (carried l) k a).1 ∙ obus_carried l in
    accepted_list (carried l) l (subst (AcceptsAs (carried l)) same a)
