use mathlib.Core.Path.{ap, ◌∙◌}
use lib.ListN.{length}
use Rattle.std.specs.Prelude.{min}
use Rattle.std.specs.Slice.Iter.{chunks_rest}
use Rattle.std.proofs.lemmas.List.{nil_from_length}
use Rattle.mux.proofs.Going.{going_on, going_done}
use Rattle.mux.proofs.cutting.put_others.Goals as goal

pub loop-payload-preserved : goal.loop-payload-preserved
loop-payload-preserved c =
    let l = c.loop-payload in
    let steps = c.in-Some.ensures.steps in
    let size = steps.1.1 ∙ ap (λ n. min n (length (chunks_rest l.payload-iterator))) l.invariant.1 in (
      going_on l.invariant.0 c.requires _ _ _ _ steps.1.0 size steps.1.2 c.args.stream.in_range.0 c.put_packet.ensures
          c.counter_after-next.ensures,
      steps.0 ∙ l.invariant.1,
    )

pub returns : goal.returns
returns c = going_done c.loop-payload.invariant.0 c.requires (nil_from_length _ c.in-None.ensures.steps.1.0)
