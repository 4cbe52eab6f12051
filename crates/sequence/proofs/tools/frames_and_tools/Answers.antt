-- What the two tests leave is read as `when` reads it.
use Rattle.std.proofs.Common.{ap, not}
use Rattle.sequence.specs.Bits.{when}
use Rattle.sequence.specs.Header.{frame_ids, inter_tools, frames_and_tools}
use Rattle.sequence.specs.Parts.{Reads}
use Rattle.sequence.proofs.Steps.{before, held, failed}
use Rattle.sequence.proofs.tools.frames_and_tools.Goals.{then-not-reduced, else-not-reduced, then-not-reduced-2, else-not-reduced-2}
use Rattle.sequence.proofs.tools.frames_and_tools.Goals as goal

pub returns : goal.returns
unfolding frames_and_tools
returns c =
    let other = not c.args.reduced in
    let ids : Reads c.frame_size.new.reader (when other frame_ids) tt c.if-not-reduced.reader = elim c.if-not-reduced.branch [
      | then-not-reduced w ↦ rw w.reader-is (held (ap not w.if-not-reduced.true) w.frame_ids.ensures)
      | else-not-reduced w ↦ rw w.reader-is (failed _ (ap not w.if-not-reduced.false))
    ] in
    let tools : Reads c.skip-3.new.self (when other inter_tools) tt c.if-not-reduced-2.reader = elim c.if-not-reduced-2.branch [
      | then-not-reduced-2 w ↦ rw w.reader-is (held (ap not w.if-not-reduced-2.true) w.inter_tools.ensures)
      | else-not-reduced-2 w ↦ rw w.reader-is (failed _ (ap not w.if-not-reduced-2.false))
    ] in
    before c.frame_size.ensures
    (before ids
    (before c.skip.ensures
    (before c.skip-2.ensures
    (before c.skip-3.ensures
    (before tools
    (before c.skip-4.ensures
    (before c.skip-5.ensures c.skip-6.ensures)))))))
