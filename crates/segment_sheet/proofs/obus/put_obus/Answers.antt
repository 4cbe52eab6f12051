use native.Mathlib.Omega.{arith}
use Prim.Native.Nat.{◌+◌, ◌*◌, ◌≤◌, ◌<◌}
use mathlib.Core.Path.{sym, ap, subst, ◌∙◌}
use lib.ListN.{length, take, drop_of_length-le}
use lib.Seq.{length-take-le}
use Rattle.lists.specs.Lists.{Bytes, placed}
use Rattle.lists.proofs.Parts.{next}
use Rattle.segment_sheet.specs.Parts.{Readable, obus_in}
use Rattle.segment_sheet.proofs.Cutting.{cut_readable, listing_start, listing_room, listing_next, listing_done}
use Rattle.segment_sheet.proofs.Walking.{obu_bytes}
use Rattle.segment_sheet.proofs.obus.put_obus.Goals as goal

pub loop-i-init : goal.loop-i-init
loop-i-init c =
    let a = c.args in
    listing_start _ a.bytes.now a.sheet.now a.at c.requires.1 c.requires.2

pub put_obus_of-to-requires : goal.put_obus_of-to-requires
put_obus_of-to-requires c =
    let a = c.args in
    let ns = take a.count a.lens.now in
    let h : c.loop-i.i < length ns = omega (arith, length-take-le a.count a.lens.now c.requires.0) in
    subst (λ (s : Bytes). Readable s × (c.loop-i.to + 32 * length (obus_in c.loop-i.i s) ≤ length c.loop-i.sheet))
    (sym c.part-unit.ensures)
    (cut_readable c.loop-i.invariant.cutting _ (next ns c.loop-i.i h), listing_room c.loop-i.invariant _ (next ns c.loop-i.i h))

pub loop-i-preserved : goal.loop-i-preserved
loop-i-preserved c =
    let a = c.args in
    let ns = take a.count a.lens.now in
    let h : c.loop-i.i < length ns = omega (arith, length-take-le a.count a.lens.now c.requires.0) in
    let same = c.part-unit.ensures in
    let put = c.put_obus_of-to.ensures in
    listing_next c.loop-i.invariant _ (next ns c.loop-i.i h) _ _
    (put.value ∙ ap (λ (s : Bytes). c.loop-i.to + 32 * length (obus_in c.loop-i.i s)) same)
    (put.sheet_after ∙ ap (λ (s : Bytes). placed c.loop-i.sheet c.loop-i.to (obu_bytes (obus_in c.loop-i.i s))) same)

pub returns : goal.returns
returns c =
    let a = c.args in
    let ns = take a.count a.lens.now in
    let none = drop_of_length-le ns {i = c.loop-i.i} (omega (arith, length-take-le a.count a.lens.now c.requires.0)) in
    let h = listing_done c.loop-i.invariant none in
    record { value = h.0; sheet_after = h.1 }
