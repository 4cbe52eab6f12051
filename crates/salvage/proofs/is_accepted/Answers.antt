-- The count and the bytes are tried, then the order of the OBUs' kinds.
use mathlib.Core.Path.{ap, ◌∙◌}
use borrow.Author.Tests.{eq-eqb, ne_eqb, lt-ltb, le-ltb, lt-leb}
use lib.ListN.{length}
use Rattle.refusal.specs.Verdict.{passes}
use Rattle.unit.specs.Unit.{most_obu_bytes}
use Rattle.salvage.specs.Parts.{acceptable}
use Rattle.salvage.proofs.Accepting.{ok_passes}
use Rattle.salvage.proofs.is_accepted.Goals as goal

pub returns-then-kinds-eq0 : goal.returns-then-kinds-eq0
unfolding acceptable
returns-then-kinds-eq0 c = rw (eq-eqb (length c.args.kinds.now) 0 c.if-kinds-eq0.true)

pub returns-then-bytes-le-MOST_OBU_BYTES : goal.returns-then-bytes-le-MOST_OBU_BYTES
unfolding acceptable
returns-then-bytes-le-MOST_OBU_BYTES c =
    rw (ne_eqb (length c.args.kinds.now) 0 c.if-kinds-eq0.false, le-ltb most_obu_bytes c.args.bytes c.if-bytes-le-MOST_OBU_BYTES.true)
    (c.is_ok.ensures.value ∙ ok_passes c.order_kinds.result ∙ ap passes c.order_kinds.ensures)

pub returns-else-bytes-le-MOST_OBU_BYTES : goal.returns-else-bytes-le-MOST_OBU_BYTES
unfolding acceptable
returns-else-bytes-le-MOST_OBU_BYTES c =
    rw (ne_eqb (length c.args.kinds.now) 0 c.if-kinds-eq0.false, lt-ltb most_obu_bytes c.args.bytes c.if-bytes-le-MOST_OBU_BYTES.false)
    (lt-leb c.args.bytes most_obu_bytes c.if-bytes-le-MOST_OBU_BYTES.false)
