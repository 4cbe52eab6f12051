use mathlib.Core.Path.{sym, ap, ◌∙◌}
use Rattle.comparison.specs.Comparison.{frame_type}
use Rattle.comparison.proofs.Loops.{going_start, going_done, going_frame, end_room, going_next, going_found}
use Rattle.comparison.proofs.compare_unit.Goals as goal

pub loop-code-init : goal.loop-code-init
loop-code-init c = going_start _ _ _ c.find-code.ensures

pub returns-then-is_frame : goal.returns-then-is_frame
returns-then-is_frame c =
    going_frame c.loop-code.invariant c.loop-code-test.true
    (ap frame_type (sym c.byte_at.ensures) ∙ sym c.is_frame.ensures ∙ c.if-is_frame.true)

pub slice_bounds-compare_obu-end : goal.slice_bounds-compare_obu-end
slice_bounds-compare_obu-end c =
    (end_room c.loop-code.invariant c.loop-code-test.true _ c.find-end.ensures).1

pub returns-in-Some : goal.returns-in-Some
returns-in-Some c =
    going_found c.loop-code.invariant c.loop-code-test.true _ c.find-end.ensures
    (ap frame_type (sym c.byte_at.ensures) ∙ sym c.is_frame.ensures ∙ c.if-is_frame.false) _
    c.compare_obu.ensures _ c.in-Some.is

pub loop-code-preserved : goal.loop-code-preserved
loop-code-preserved c =
    going_next c.loop-code.invariant c.loop-code-test.true _ c.find-end.ensures
    (ap frame_type (sym c.byte_at.ensures) ∙ sym c.is_frame.ensures ∙ c.if-is_frame.false) _
    c.compare_obu.ensures c.in_default.is

pub returns : goal.returns
returns c = going_done c.loop-code.invariant c.loop-code-test.false
