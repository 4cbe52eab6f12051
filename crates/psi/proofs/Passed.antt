-- What is known of a program that a PAT names. Assumes nothing.
use Prim.Native.Nat.{◌%◌, ◌≤◌}
use mathlib.Core.Bool.{not}
use mathlib.Core.Path.{◌≡◌, refl, subst}
use mathlib.Core.List.{List, [], ◌∷◌}
use borrow.Author.Tests.{ltb-false, eqb-false, not-true}
use lib.Dec.{eqb, ltb}
use lib.ListN.{length}
use Rattle.lists.specs.Lists.{Bytes, those}
use Rattle.refusal.specs.Verdict.{passed, ◌>>◌, given}
use Rattle.refusal.proofs.Verdicts.{never, passed_same, passed_after, given_passed}
use Rattle.psi.specs.declared.pat.Program.{Program}
use Rattle.psi.specs.Section.{common_wrong, up_to_crc}
use Rattle.psi.specs.Pat.{programs, not_zero, map_pid_in_range, one_program, read_pat}
use Rattle.lists.proofs.Elements.{those_hold}

-- its number is not 0, and its map PID is 0x0010 to 0x1FFE
pub record Named (p : Program) : Type 0 where
  pub not_zero_lem : p.number ≡ 0 → ⊥
  pub from : 0x0010 ≤ p.map_pid
  pub to : p.map_pid ≤ 0x1FFE

range_passed : (q p : Program) → map_pid_in_range q ≡ passed p → (q ≡ p) × (0x0010 ≤ q.map_pid) × (q.map_pid ≤ 0x1FFE)
unfolding map_pid_in_range
range_passed q p e =
    let low = passed_after (given 25 (ltb q.map_pid 0x0010)) (given 25 (ltb 0x1FFE q.map_pid) >> passed q) p e in
    let high = passed_after (given 25 (ltb 0x1FFE q.map_pid)) (passed q) p low.1 in (
      passed_same q p high.1,
      ltb-false q.map_pid 0x0010 (given_passed 25 (ltb q.map_pid 0x0010) low.0),
      ltb-false 0x1FFE q.map_pid (given_passed 25 (ltb 0x1FFE q.map_pid) high.0),
    )

one_passed : (l m : List Program) (p : Program) → those not_zero l ≡ m → one_program m ≡ passed p → Named p
unfolding one_program
one_passed l [] p f e = never e
one_passed l (q ∷ []) p f e =
    let r = range_passed q p e in
    subst Named r.0
    (record {
      not_zero_lem = eqb-false q.number 0 (not-true (eqb q.number 0) (those_hold not_zero l q [] f));
      from = r.1;
      to = r.2;
    })
one_passed l (q ∷ q' ∷ m) p f e = never e

pub pat_passed : (s : Bytes) (p : Program) → read_pat s ≡ passed p → Named p
unfolding read_pat
pat_passed s p e =
    let entries = one_program (those not_zero (programs (up_to_crc 8 s))) in
    let whole = given 25 (not (eqb (length (up_to_crc 8 s) % 4) 0)) in
    one_passed (programs (up_to_crc 8 s)) (those not_zero (programs (up_to_crc 8 s))) p refl
    (passed_after whole entries p (passed_after (given 25 (common_wrong 0 12 s)) (whole >> entries) p e).1).1
