-- What each test leaves is read as `when` reads it.
use lib.Dec.{ltb}
use borrow.Author.Tests.{lt-ltb, le-ltb}
use Rattle.sequence.specs.Bits.{when}
use Rattle.sequence.specs.Header.{order_tools, integer_mv, inter_tools}
use Rattle.sequence.specs.Parts.{Reads}
use Rattle.sequence.proofs.Steps.{and_then, before, held, failed}
use Rattle.sequence.proofs.tools.inter_tools.Goals.{then-hint, else-hint, then-tools-gt0, else-tools-gt0}
use Rattle.sequence.proofs.tools.inter_tools.Goals as goal

pub returns : goal.returns
unfolding inter_tools
returns c =
    let order : Reads c.flag-hint.new.self (when c.flag-hint.result order_tools) tt c.if-hint.reader = elim c.if-hint.branch [
      | then-hint w ↦ rw w.reader-is (held w.if-hint.true w.order_tools.ensures)
      | else-hint w ↦ rw w.reader-is (failed _ w.if-hint.false)
    ] in
    let mv : Reads c.screen_tools-tools.new.reader (when (ltb 0 c.screen_tools-tools.result) integer_mv) tt c.if-tools-gt0.reader =
    elim c.if-tools-gt0.branch [
      | then-tools-gt0 w ↦ rw w.reader-is (held (lt-ltb _ _ w.if-tools-gt0.true) w.integer_mv.ensures)
      | else-tools-gt0 w ↦ rw w.reader-is (failed _ (le-ltb _ _ w.if-tools-gt0.false))
    ] in
    before c.skip.ensures
    (before c.skip-2.ensures
    (before c.skip-3.ensures
    (before c.skip-4.ensures
    (and_then _ c.flag-hint.ensures
    (before order
    (and_then _ c.screen_tools-tools.ensures
    (before mv c.skip_if.ensures)))))))
