use mathlib.Core.Path.{refl, ap, ◌∙◌}
use Rattle.obu.specs.Header.{type_bits}
use Rattle.segment_sheet.proofs.Walking.{payload_passes}
use Rattle.segment_sheet.proofs.Walking.{putting_start, putting_room, putting_next, putting_done}
use Rattle.segment_sheet.proofs.obus.put_obus_of.Goals as goal

pub loop-code-init : goal.loop-code-init
loop-code-init c =
    let a = c.args in putting_start a.index a.unit.now a.sheet.now a.at c.requires.0 c.requires.1

pub end_of-end-requires : goal.end_of-end-requires
end_of-end-requires c = payload_passes c.loop-code.invariant.here c.loop-code-test.true

pub put_four-requires : goal.put_four-requires
put_four-requires c =
    putting_room c.loop-code.invariant c.loop-code-test.true

pub loop-code-preserved : goal.loop-code-preserved
loop-code-preserved c =
    putting_next c.loop-code.invariant c.loop-code-test.true _ _ _ _ _ c.end_of-end.ensures c.part-payload.ensures
    (c.type_of-obu_type.ensures ∙ ap type_bits c.byte_at.ensures) refl c.put_four.ensures

pub returns : goal.returns
returns c = let d = putting_done c.loop-code.invariant c.loop-code-test.false in
    record {
      value = d.1;
      sheet_after = d.0;
    }
