use native.Mathlib.Omega.{arith}
use Prim.Native.Nat.{◌≤◌, ◌<◌}
use mathlib.Core.Path.{ap, subst, ◌∙◌}
use lib.ListN.{length, take, drop_of_length-le}
use lib.Seq.{length-take-le}
use Rattle.lists.specs.Lists.{Bytes}
use Rattle.lists.proofs.Parts.{next}
use Rattle.segment_sheet.specs.Parts.{obus_in}
use Rattle.segment_sheet.proofs.Cutting.{totalling_next, totalling_done}
use Rattle.segment_sheet.proofs.obus.count_obus.Goals as goal

pub loop-len-preserved : goal.loop-len-preserved
loop-len-preserved c =
    let a = c.args in
    let ns = take a.count a.lens.now in
    let i = c.loop-len.len-index in
    let h : i < length ns = omega (arith, length-take-le a.count a.lens.now c.requires.0) in
    let lent = c.part-unit.ensures in
    totalling_next c.loop-len.invariant _ (next ns i h) _
    (c.obus_of-total.ensures.0 i ∙ ap (λ (s : Bytes). length (obus_in i s)) lent)
    (subst (λ (s : Bytes). c.obus_of-total.result ≤ length s) lent c.obus_of-total.ensures.1)

pub returns : goal.returns
returns c =
    let a = c.args in
    let ns = take a.count a.lens.now in
    totalling_done c.loop-len.invariant
    (drop_of_length-le ns {i = c.loop-len.len-index} (omega (arith, length-take-le a.count a.lens.now c.requires.0)))
