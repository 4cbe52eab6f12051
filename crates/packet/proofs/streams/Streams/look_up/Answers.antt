use mathlib.Core.Path.{sym, ◌∙◌}
use native.Mathlib.Omega.{arith}
use Rattle.packet.proofs.Slots.{past_count, past_twelve, slot_end, slot_here, slot_next}
use Rattle.packet.proofs.streams.Streams.look_up.Goals as goal

pub loop-i-preserved : goal.loop-i-preserved
loop-i-preserved c = (
  omega arith,
  c.loop-i.invariant.1
      ∙ slot_next c.args.self.now _ c.loop-i.i _ c.if-listed-i.false
      c.if-i-ge-MOST_STREAMS.false c.if-self-i.false,
)

pub returns-then-listed-i : goal.returns-then-listed-i
returns-then-listed-i c =
    let s = c.args.self.now in
    let count = c.args.listed in
    sym (c.loop-i.invariant.1 ∙ slot_end s count _ _ (past_count s count _ c.if-listed-i.true))

pub returns-then-i-ge-MOST_STREAMS : goal.returns-then-i-ge-MOST_STREAMS
returns-then-i-ge-MOST_STREAMS c =
    let s = c.args.self.now in
    let count = c.args.listed in
    sym (c.loop-i.invariant.1 ∙ slot_end s count _ _ (past_twelve s count _ c.if-i-ge-MOST_STREAMS.true))

pub returns-then-self-i : goal.returns-then-self-i
returns-then-self-i c =
    sym (c.loop-i.invariant.1
    ∙ slot_here c.args.self.now _ c.loop-i.i _ c.if-listed-i.false
    c.if-i-ge-MOST_STREAMS.false c.if-self-i.true)
