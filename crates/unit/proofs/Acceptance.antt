-- What it says that reading or writing refuses nothing: each try passed. Assumes nothing.
use Prim.Native.Nat.{ℕ, ◌≤◌}
use mathlib.Core.Bool.{true, not}
use mathlib.Core.Path.{◌≡◌, refl, sym, ap, ap₂, ◌∙◌}
use mathlib.Core.List.{List, map}
use native.Mathlib.Omega.{arith}
use borrow.Author.Tests.{eqb-true, eqb-false, ltb-false, le-ltb, not-false}
use lib.Dec.{ltb, eqb}
use lib.ListN.{length}
use Rattle.lists.specs.Lists.{Bytes}
use Rattle.lists.proofs.Tests.{or_neither}
use Rattle.refusal.specs.Verdict.{passed}
use Rattle.refusal.proofs.Verdicts.{pass_on, follows, passed_after, passed_same, given_passed, All, turns_passed, all_turns}
use Rattle.obu.specs.Header.{obu_refusal}
use Rattle.obu.specs.Order.{kind_of, order_refusal}
use Rattle.unit.specs.Unit.{most_obus, most_obu_bytes, most_carried, obus_in, sum, read_unit, AcceptsAs, obus_of, write_refusal, Accepted}
use Rattle.tsobu.specs.StartCodes.{at_start_code, payloads}
use Rattle.tsobu.specs.TsObu.{tsobu_refusal}
use Rattle.unit.proofs.Lengths.{cut_lengths, cut_bytes}

-- ---- reading
pub record Reads (s : Bytes) : Type 0 where
  pub within : length s ≤ most_carried
  pub headed : at_start_code s ≡ true
  pub most : length (payloads s) ≤ most_obus
  pub tsobus : All (λ p. tsobu_refusal p ≡ passed tt) (payloads s)
  pub fits : sum (map length (obus_in s)) ≤ most_obu_bytes
  pub order : order_refusal (map kind_of (obus_in s)) ≡ passed tt

pub reads : (s : Bytes) (l : List Bytes) → AcceptsAs s l → Reads s × (obus_in s ≡ l)
unfolding read_unit
reads s l a =
    let h2 = passed_after _ _ l a in
    let h9 = passed_after _ _ l h2.1 in
    let h1 = passed_after _ _ l h9.1 in
    let hs = passed_after _ _ l h1.1 in
    let h2' = passed_after _ _ l hs.1 in
    let h7 = passed_after _ _ l h2'.1 in (
      record {
        within = ltb-false most_carried (length s) (given_passed 2 _ h2.0);
        headed = not-false (at_start_code s) (given_passed 9 _ h9.0);
        most = ltb-false most_obus (length (payloads s)) (given_passed 1 _ h1.0);
        tsobus = turns_passed tsobu_refusal 0 (payloads s) hs.0;
        fits = ltb-false most_obu_bytes (sum (map length (obus_in s))) (given_passed 2 _ h2'.0);
        order = h7.0;
      },
      passed_same (obus_in s) l h7.1,
    )

pub read_by : (s : Bytes) → Reads s → AcceptsAs s (obus_in s)
unfolding read_unit
read_by s r =
    sym
    (pass_on 2 (le-ltb most_carried (length s) r.within)
    (pass_on 9 (ap not r.headed)
    (pass_on 1 (le-ltb most_obus (length (payloads s)) r.most)
    (follows (all_turns tsobu_refusal 0 (payloads s) r.tsobus)
    (pass_on 2 (le-ltb most_obu_bytes (sum (map length (obus_in s))) r.fits)
    (follows r.order refl))))))

-- ---- writing
pub record Writes (lens : List ℕ) (bytes : Bytes) : Type 0 where
  pub some_obu : 1 ≤ length lens
  pub most : length lens ≤ most_obus
  pub fits : length bytes ≤ most_obu_bytes
  pub adds_up : sum lens ≡ length bytes
  pub obus : All (λ b. obu_refusal b ≡ passed tt) (obus_of lens bytes)
  pub order : order_refusal (map kind_of (obus_of lens bytes)) ≡ passed tt

pub writes : (lens : List ℕ) (bytes : Bytes) → write_refusal lens bytes ≡ passed tt → Writes lens bytes
unfolding write_refusal
writes lens bytes a =
    let h1 = passed_after _ _ tt a in
    let h2 = passed_after _ _ tt h1.1 in
    let hs = passed_after _ _ tt h2.1 in
    let c = or_neither (eqb (length lens) 0) (ltb most_obus (length lens)) (given_passed 1 _ h1.0) in
    let d = or_neither (ltb most_obu_bytes (length bytes)) (not (eqb (sum lens) (length bytes))) (given_passed 2 _ h2.0) in
    let z = eqb-false (length lens) 0 c.0 in
    record {
      some_obu = omega arith;
      most = ltb-false most_obus (length lens) c.1;
      fits = ltb-false most_obu_bytes (length bytes) d.0;
      adds_up = eqb-true (sum lens) (length bytes) (not-false (eqb (sum lens) (length bytes)) d.1);
      obus = turns_passed obu_refusal 0 (obus_of lens bytes) hs.0;
      order = hs.1;
    }

-- OBUs lent with their lengths, which writing does not refuse (but by 8), are a list that is accepted
pub accepted_lent : (lens : List ℕ) (bytes : Bytes) → write_refusal lens bytes ≡ passed tt → Accepted (obus_of lens bytes)
accepted_lent lens bytes a =
    let e = (writes lens bytes a).adds_up in
    ap₂ write_refusal (cut_lengths lens bytes e) (cut_bytes lens bytes e) ∙ a
