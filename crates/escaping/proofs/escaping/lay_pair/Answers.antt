-- Four stores, in the order of `laid`; how far they go and what is left, of numbers that are 0 or 1, is `pair_goes` and `pair_last`.
use native.Mathlib.Omega.{arith}
use mathlib.Core.Path.{refl}
use Rattle.escaping.proofs.Dense.{pair_goes, pair_last}
use Rattle.escaping.proofs.escaping.lay_pair.Goals as goal

pub returns : goal.returns
returns c =
    let at = c.args in
    let l = c.requires.2 in
    let f = c.requires.3 in
    record {
      count_value = (pair_goes at.n at.last at.flag l f, pair_last at.last at.flag at.next l f c.requires.4);
      out_after = refl;
    }

pub overflow_add-result : goal.overflow_add-result
overflow_add-result c = omega arith
