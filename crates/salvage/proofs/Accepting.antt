-- Whether reading accepts the result, by law: the writer's string of a list is accepted exactly where the list is, and of OBUs that pass
-- each by itself only their count, their bytes together and their order remain to be tried. No second reading is needed. Assumes nothing.
use Rattle.std.specs.Prelude.{Result, Ok, Err}
use Rattle.std.specs.Result.{is_ok}
use Rattle.refusal.specs.Number.{says}
use Prim.Native.Nat.{◌≤◌}
use mathlib.Core.Bool.{true, not, ◌&&◌}
use mathlib.Core.Path.{◌≡◌, refl, sym, ap, ◌∙◌}
use mathlib.Core.List.{List}
use native.Mathlib.Omega.{arith}
use borrow.Author.Tests.{ne_eqb, le-ltb, eqb-false, ltb-false, not-true}
use lib.Dec.{ltb, eqb}
use lib.ListN.{length}
use Rattle.lists.specs.Lists.{Bytes}
use Rattle.lists.proofs.Tests.{case, clash, and_both}
use Rattle.refusal.specs.Verdict.{Verdict, passed, refused, NoValue}
use Rattle.refusal.proofs.Verdicts.{All}
use Rattle.refusal.specs.declared.Refused.{Refused}
use Rattle.obu.specs.Header.{obu_refusal}
use Rattle.obu.specs.Order.{order_refusal}
use Rattle.unit.specs.Unit.{most_obus, most_obu_bytes, read_unit, carried}
use Rattle.unit.proofs.Theorem.{Fits, fits, accepts_carried}
use Rattle.unit.proofs.Accepted.{accepted_by, carried_accepted}
use Rattle.refusal.specs.Verdict.{passes}
use Rattle.salvage.specs.Parts.{kinds_of, bytes_of, acceptable}
use Rattle.refusal.proofs.Verdicts.{passes_passed}

-- ---- an answer of the code is no refusal exactly where what it says passes
pub ok_passes : (q : Result NoValue Refused) → is_ok q ≡ passes (says q)
ok_passes (Ok x) = refl
ok_passes (Err r) = refl

-- ---- of a list
a_value : {A : Type 0} (v : Verdict A) → passes v ≡ true → (a : A) × (v ≡ passed a)
a_value (passed a) e = (a, refl)
a_value (refused number place) e = clash e refl

module _ (l : List Bytes) (most : length l ≤ most_obus) (fine : All (λ b. obu_refusal b ≡ passed tt) l) where
  fits_by : acceptable (length l) (bytes_of l) (kinds_of l) ≡ true → Fits l
  unfolding acceptable
  fits_by e =
      let a = and_both (not (eqb (length l) 0) && not (ltb most_obu_bytes (bytes_of l))) _ e in
      let b = and_both (not (eqb (length l) 0)) (not (ltb most_obu_bytes (bytes_of l))) a.0 in
      let some = eqb-false (length l) 0 (not-true (eqb (length l) 0) b.0) in
      record {
        some_obu = omega arith;
        most = most;
        bytes = ltb-false most_obu_bytes (bytes_of l) (not-true (ltb most_obu_bytes (bytes_of l)) b.1);
        obus = fine;
        order = passes_passed (order_refusal (kinds_of l)) a.1;
      }

  by_fits : Fits l → acceptable (length l) (bytes_of l) (kinds_of l) ≡ true
  unfolding acceptable
  by_fits f =
      rw (ne_eqb (length l) 0 (λ z. absurd (omega (arith, f.some_obu))), le-ltb most_obu_bytes (bytes_of l) f.bytes, f.order)

  pub accepted_is : acceptable (length l) (bytes_of l) (kinds_of l) ≡ passes (read_unit (carried l))
  accepted_is =
      case (acceptable (length l) (bytes_of l) (kinds_of l))
      (λ e. e ∙ sym (ap passes (accepts_carried l (accepted_by l (fits_by e)))))
      (λ e.
      case (passes (read_unit (carried l)))
      (λ t. let a = a_value (read_unit (carried l)) t in clash (by_fits (fits l (carried_accepted l a.0 a.1))) e)
      (λ t. e ∙ sym t))
