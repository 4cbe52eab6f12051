-- The map PID that a PAT names is not above 0x1FFE. Assumes nothing.
use mathlib.Core.Bool.{false}
use mathlib.Core.Path.{◌≡◌, sym, ap, ◌∙◌}
use mathlib.Core.List.{List, [], ◌∷◌}
use lib.Dec.{ltb}
use Rattle.lists.specs.Lists.{Bytes}
use Rattle.refusal.specs.Verdict.{passed}
use Rattle.refusal.proofs.Verdicts.{passed_after, passed_same, given_passed, never}
use Rattle.psi.specs.declared.pat.Program.{Program}
use Rattle.psi.specs.Pat.{map_pid_in_range, one_program, read_pat}

one_in_range : (l : List Program) (p : Program) → one_program l ≡ passed p → ltb 0x1FFE p.map_pid ≡ false
unfolding one_program map_pid_in_range
one_in_range [] p e = never e
one_in_range (q ∷ []) p e =
    let k = passed_after _ _ p (passed_after _ _ p e).1 in
    ap (λ (x : Program). ltb 0x1FFE x.map_pid) (sym (passed_same q p k.1)) ∙ given_passed 25 _ k.0
one_in_range (q ∷ r ∷ more) p e = never e

pub map_pid_in_range_lem : (s : Bytes) (p : Program) → read_pat s ≡ passed p → ltb 0x1FFE p.map_pid ≡ false
unfolding read_pat
map_pid_in_range_lem s p e = one_in_range _ p (passed_after _ _ p (passed_after _ _ p e).1).1
