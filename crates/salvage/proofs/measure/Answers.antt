use Rattle.std.proofs.Common.{refl, arith, inl, inr}
use Rattle.std.proofs.lemmas.Bool.Decides.{nat_tests}
use Rattle.salvage.proofs.Loops.{measuring_start, measuring_room, measuring_next, measuring_done, turn_room}
use Rattle.salvage.proofs.measure.Goals as goal
use Rattle.salvage.proofs.measure.Goals.{
  else-measured-ge-MOST_OBUS-via-then-measured-ge-MOST_OBUS+else-not-is_empty,
  else-measured-ge-MOST_OBUS-via-else-measured-ge-MOST_OBUS,
}

pub loop-payload-init : goal.loop-payload-init
loop-payload-init c =
    record { measured = measuring_start _ _ _ _ refl refl c.of-payloads.ensures; room = inl (omega arith) }

pub add-requires : goal.add-requires
add-requires c =
    measuring_room c.loop-payload.invariant.measured c.in-Some.ensures.steps
    (turn_room c.loop-payload.invariant c.in-Some.ensures.steps) _ c.judge_one.ensures c.args.s.now refl (omega arith)

pub loop-payload-preserved : goal.loop-payload-preserved
loop-payload-preserved c =
    record {
      measured =
          rw c.add.ensures
          (measuring_next c.loop-payload.invariant.measured c.in-Some.ensures.steps
          (turn_room c.loop-payload.invariant c.in-Some.ensures.steps) _ c.judge_one.ensures);
      room =
          elim c.else-measured-ge-MOST_OBUS.branch [
            | else-measured-ge-MOST_OBUS-via-then-measured-ge-MOST_OBUS+else-not-is_empty w ↦ inr (grind (arith, nat_tests))
            | else-measured-ge-MOST_OBUS-via-else-measured-ge-MOST_OBUS w ↦ inl (omega arith)
          ];
    }

pub returns : goal.returns
returns c = measuring_done c.args.s.now c.loop-payload.invariant.measured c.in_default.ensures.steps.0
