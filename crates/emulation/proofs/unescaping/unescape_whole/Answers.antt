-- Where nothing is dropped, the payload is given as it is.
use native.Mathlib.Omega.{arith}
use mathlib.Core.Path.{sym, ap, ◌∙◌}
use lib.ListN.{length}
use Rattle.lists.specs.Lists.{Bytes, over}
use Rattle.lists.proofs.Writing.{fits}
use Rattle.emulation.proofs.Judging.{undropped}
use Rattle.emulation.proofs.unescaping.unescape_whole.Goals as goal

pub returns-then-dropped-eq0 : goal.returns-then-dropped-eq0
returns-then-dropped-eq0 c =
    let payload = c.args.payload.now in
    let o = c.args.out.now in
    let whole = undropped payload (sym c.requires.0 ∙ c.if-dropped-eq0.true) in
    c.copy.ensures ∙ fits o payload (omega (arith, ap length whole, c.requires.1))
    ∙ ap (λ (w : Bytes). over w o) (sym whole)
