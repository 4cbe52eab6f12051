-- Where nothing is dropped the payload is the OBU, and there is room for it.
use native.Mathlib.Omega.{arith}
use mathlib.Core.Path.{sym, ap, ◌∙◌}
use lib.ListN.{length}
use lib.Seq.{take_all}
use Rattle.lists.specs.Lists.{Bytes, over}
use Rattle.emulation.specs.Payload.{unescape}
use Rattle.emulation.proofs.Judging.{undropped}
use Rattle.unit.proofs.reading.copy_obu.Goals as goal

pub returns-then-dropped-eq0 : goal.returns-then-dropped-eq0
returns-then-dropped-eq0 c =
    let p = c.args.payload.now in
    let o = c.args.out.now in
    let u = undropped p (c.requires.0 c.if-dropped-eq0.true) in
    let all = take_all (length o) p (omega (arith, c.requires.1, ap length u)) in
    record {
      value = sym (ap length u);
      out_after = c.copy.ensures ∙ ap (λ (l : Bytes). over l o) (all ∙ sym u);
    }

pub returns : goal.returns
returns c =
    let w = unescape c.args.payload.now in
    let o = c.args.out.now in
    let e = take_all (length o) w c.requires.1 in
    record {
      value = c.unescape_prefix.ensures.value ∙ ap length e;
      out_after = c.unescape_prefix.ensures.out_after
          ∙ ap (λ (l : Bytes). over l o) e;
    }
