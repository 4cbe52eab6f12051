-- Each turn looks at one packet more; at the end none is left.
use Rattle.std.proofs.Common.{◌+◌, ◌-◌, ◌*◌, ◌/◌, length, arith, sym, subst, ◌∙◌}
use Rattle.packet.specs.Header.{packet_length}
use Rattle.measured.proofs.Counting.{Counted, start, one_more, no_more, by_index, finish}
use Rattle.measured.proofs.header.measured_headers.Goals as goal
use Rattle.measured.proofs.header.measured_headers.Goals.{then-passes, else-passes}

pub loop-index-init : goal.loop-index-init
loop-index-init c = start _

pub loop-index-preserved : goal.loop-index-preserved
loop-index-preserved c =
    let s = c.args.segment.now in
    let i = c.loop-index.index in
    by_index i (length s / packet_length)
    (elim c.if-passes.branch [
      | then-passes w ↦ subst (λ n. Counted s n (i * packet_length + packet_length) (length s / packet_length - i - 1)) (sym w.count-is)
          (one_more c.loop-index.invariant (omega arith) (sym c.passes.ensures ∙ w.if-passes.true))
      | else-passes w ↦ subst (λ n. Counted s n (i * packet_length + packet_length) (length s / packet_length - i - 1)) (sym w.count-is)
          (no_more c.loop-index.invariant (omega arith) (sym c.passes.ensures ∙ w.if-passes.false))
    ])

pub returns : goal.returns
returns c = finish c.loop-index.invariant (omega arith)
