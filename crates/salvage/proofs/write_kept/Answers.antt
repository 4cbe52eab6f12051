use Rattle.std.proofs.Common.{ap, ◌∙◌}
use Rattle.tsobu.specs.Payloads.{payloads_left}
use Rattle.salvage.proofs.Loops.{keeping_start, keeping_room, keeping_step, keeping_done}
use Rattle.salvage.proofs.write_kept.Goals as goal

pub loop-payload-init : goal.loop-payload-init
loop-payload-init c =
    keeping_start _ (ap payloads_left c.into_iter-payload-iterator.ensures.into_iter_gives ∙ c.of-payload-items.ensures)

pub write_one-n-requires : goal.write_one-n-requires
write_one-n-requires c = keeping_room c.loop-payload.invariant c.in-Some.ensures.steps c.requires

pub loop-payload-preserved : goal.loop-payload-preserved
loop-payload-preserved c =
    let put = c.write_one-n.ensures in
    keeping_step c.loop-payload.invariant c.in-Some.ensures.steps c.requires _ put.value _ put.out_after

pub returns : goal.returns
returns c = keeping_done c.loop-payload.invariant c.in-None.ensures.steps.0
