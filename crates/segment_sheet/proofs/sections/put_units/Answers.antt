use native.Mathlib.Omega.{arith}
use mathlib.Core.Path.{refl}
use Rattle.sheet.specs.Sheet.{unit_numbers}
use Rattle.segment_sheet.specs.Parts.{unit_at}
use Rattle.segment_sheet.proofs.Rowing.{rowing_start, rowing_room, rowing_next, rowing_done, unit_size}
use Rattle.segment_sheet.proofs.sections.put_units.Goals as goal

pub loop-i-init : goal.loop-i-init
loop-i-init c =
    let a = c.args in
    rowing_start unit_numbers 32 unit_size (unit_at a.firsts.now a.lens.now a.times.now) a.count a.sheet.now a.at c.requires.3

pub put_four-requires : goal.put_four-requires
put_four-requires c =
    let a = c.args in
    rowing_room unit_numbers 32 unit_size (unit_at a.firsts.now a.lens.now a.times.now) a.count c.loop-i.invariant (omega arith)

pub loop-i-preserved : goal.loop-i-preserved
loop-i-preserved c =
    let a = c.args in
    rowing_next unit_numbers 32 unit_size (unit_at a.firsts.now a.lens.now a.times.now) a.count c.loop-i.invariant (omega arith) _ _ refl
    c.put_four.ensures

pub returns : goal.returns
returns c =
    let a = c.args in
    rowing_done unit_numbers 32 unit_size (unit_at a.firsts.now a.lens.now a.times.now) a.count c.loop-i.invariant (omega arith)
