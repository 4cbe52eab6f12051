-- The start code stands at 0, 1, 2; the escaped OBU, which has room from 3 on, stands there whole.
use native.Mathlib.Omega.{arith}
use mathlib.Core.Path.{◌∙◌}
use lib.ListN.{set, length-set, length-take, length-drop}
use Rattle.emulation.specs.Payload.{escape}
use Rattle.lists.proofs.Parts.{tail_prefix}
use Rattle.unit.proofs.Writings.{code_over}
use Rattle.unit.proofs.writing.write_obu.Goals as goal

pub returns : goal.returns
returns c =
    let out = c.args.out.now in
    let w = escape c.args.obu.now in
    let written = c.escape_prefix.ensures in
    record {
      value = omega (arith, simp (length-take, length-drop, length-set) at written.value);
      out_after = tail_prefix 3 (set (set (set out 0 0) 1 0) 2 1) w _ (simp length-set c.requires) written.out_after ∙ code_over out w
          (omega arith);
    }
