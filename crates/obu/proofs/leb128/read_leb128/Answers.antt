use Rattle.std.proofs.Common.{arith}
use Prim.Native.Nat.{◌≤◌, ◌<◌}
use mathlib.Core.Path.{◌∙◌, subst, sym}
use lib.ListN.{length}
use Rattle.obu.proofs.Lebs.{so_far_start, so_far_more, so_far_last, so_far_cut, so_far_long}
use Rattle.obu.proofs.leb128.read_leb128.Goals as goal

pub loop-i-init : goal.loop-i-init
loop-i-init c = so_far_start _

pub returns-in_err-b : goal.returns-in_err-b
returns-in_err-b c =
    let past : length c.args.s.now ≤ c.loop-i.i = grind arith in
    c.from_residual.ensures ∙ so_far_cut c.loop-i.invariant c.loop-i-test.true past

pub returns-then-b-lt128 : goal.returns-then-b-lt128
returns-then-b-lt128 c =
    let read = c.in_ok-b.ensures.lookup.3 in
    c.in_range.ensures ∙ so_far_last c.loop-i.invariant c.loop-i-test.true read.0 _ (read.1 0) c.if-b-lt128.true

pub loop-i-preserved : goal.loop-i-preserved
loop-i-preserved c =
    let read = c.in_ok-b.ensures.lookup.3 in
    let byte = subst (λ n. n < 256) (sym (read.1 0)) (c.type_inv.s c.loop-i.i).fits in
    so_far_more c.loop-i.invariant c.loop-i-test.true read.0 _ (read.1 0) c.if-b-lt128.false byte

pub returns : goal.returns
returns c = so_far_long c.loop-i.invariant c.loop-i-test.false
