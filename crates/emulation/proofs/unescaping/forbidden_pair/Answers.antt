-- Behind 00 00 the third byte decides, and after 03 a fourth where there is one.
use native.Mathlib.Omega.{arith}
use Prim.Native.Nat.{◌+◌}
use mathlib.Core.Path.{sym, ◌∙◌}
use mathlib.Core.Bool.{or-false}
use lib.Dec.{leb}
use lib.ListN.{get_or}
use borrow.Author.Tests.{lt-leb, ne_eqb}
use Rattle.emulation.proofs.Steps.{above3_at, above3_end}
use Rattle.emulation.proofs.Judging.{forbidden_behind}
use Rattle.emulation.proofs.unescaping.forbidden_pair.Goals as goal

pub returns-then-c-ne3 : goal.returns-then-c-ne3
returns-then-c-ne3 c =
    let s = c.args.s.now in
    let i = c.args.i in
    sym (forbidden_behind s i c.requires.0 c.requires.1 ∙ rw (ne_eqb _ _ c.if-c-ne3.true) (or-false (leb (get_or s (i + 2) 0) 2)))

pub returns-then-s-i-ge4 : goal.returns-then-s-i-ge4
returns-then-s-i-ge4 c =
    let s = c.args.s.now in
    let i = c.args.i in
    sym (forbidden_behind s i c.requires.0 c.requires.1 ∙ rw (c.if-c-ne3.false, above3_at s (i + 3) (omega arith)))

pub returns-else-s-i-ge4 : goal.returns-else-s-i-ge4
returns-else-s-i-ge4 c =
    let s = c.args.s.now in
    let i = c.args.i in
    lt-leb _ _ c.if-s-i-ge4.false ∙ sym (forbidden_behind s i c.requires.0 c.requires.1 ∙
    rw (c.if-c-ne3.false, above3_end s (i + 3) (omega arith)))
