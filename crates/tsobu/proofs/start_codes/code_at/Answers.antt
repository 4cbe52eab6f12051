-- Where three bytes are not there, or the first is not 00, no start code stands.
use native.Mathlib.Omega.{arith}
use Prim.Native.Nat.{◌+◌, ◌<◌}
use mathlib.Core.Path.{refl, sym, ◌∙◌}
use lib.ListN.{length, get_or}
use borrow.Author.Tests.{lt-leb, ne_eqb}
use Rattle.tsobu.proofs.Places.{code_at, code_at_end}
use Rattle.tsobu.proofs.Scanning.{is_code3}
use Rattle.tsobu.proofs.start_codes.code_at.Goals as goal

pub returns-then-s-i-eq0 : goal.returns-then-s-i-eq0
returns-then-s-i-eq0 c =
    let s = c.args.s.now in
    let i = c.args.i in
    c.zeros_then.ensures ∙ is_code3 (get_or s i 0) (get_or s (i + 1) 0) (get_or s (i + 2) 0)
    ∙ sym (code_at s i (omega (arith, c.if-s-i-ge3.true)))

pub returns-else-s-i-eq0 : goal.returns-else-s-i-eq0
returns-else-s-i-eq0 c =
    let h : c.args.i + 2 < length c.args.s.now = omega (arith, c.if-s-i-ge3.true) in
    rw (code_at c.args.s.now c.args.i h, ne_eqb _ _ c.if-s-i-eq0.false) refl

pub returns-else-s-i-ge3 : goal.returns-else-s-i-ge3
returns-else-s-i-ge3 c =
    let h = c.if-s-i-ge3.false in
    lt-leb 3 _ h ∙ sym (code_at_end c.args.s.now c.args.i h)
