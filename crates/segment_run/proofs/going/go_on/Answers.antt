-- The packets that `follow` counts and copies, and those that `count_on` counts, pass one after the other, each by its rules (`goes` and
-- `counts` in Continuing.antt), and the last of them is put into its slot.
use native.Mathlib.Omega.{arith}
use Rattle.std.specs.Prelude.{Some}
use mathlib.Core.Path.{ap, subst, ◌∙◌}
use lib.ListN.{drop}
use Rattle.lists.proofs.Parts.{tail_placed}
use Rattle.packet.specs.Header.{packets}
use Rattle.plain.specs.Runs.{payloads}
use Rattle.segment_run.specs.Parts.{DueRefines}
use Rattle.segment_run.proofs.Continuing.{lent_many, place, Followed, followed_within, all_went}
use Rattle.segment_run.proofs.Continuing.{Counted, counted_within, all_counted}
use Rattle.segment_run.proofs.going.go_on.Goals.{After-count_on-packets, After-follow-packets}
use Rattle.segment_run.proofs.going.go_on.Goals as goal

-- so many go on
followed : (c : After-follow-packets)
    → let a = c.args in
    Followed a.segment.now a.index a.state a.records.now c.pid_of-pid.result
    c.in-Av1.slot c.in-Av1.counter a.out.now c.follow-packets.result
followed c =
    let a = c.args in
    let may = subst (DueRefines a.state a.records.now c.pid_of-pid.result) (c.in-Some.is ∙ ap Some c.in-Av1.is) c.due_after.ensures in
    record {
      follows = may.0;
      may = may.1;
      within = c.requires.0;
      fits = c.requires.1;
      many =
          lent_many _ _ (drop a.index (packets a.segment.now)) a.out.now (place a.state) c.follow-packets.result c.requires.1
          c.follow-packets.ensures.value;
    }

counted : (c : After-count_on-packets)
    → let a = c.args in
    Counted a.segment.now a.index a.state a.records.now c.pid_of-pid.result
    c.in-Listed.slot c.in-Listed.counter c.count_on-packets.result
counted c =
    let a = c.args in
    record {
      follows =
          subst (DueRefines a.state a.records.now c.pid_of-pid.result) (c.in-Some.is ∙ ap Some c.in-Listed.is) c.due_after.ensures;
      within = c.requires.0;
      many = c.count_on-packets.ensures;
    }

pub put_went-requires : goal.put_went-requires
put_went-requires c =
    omega (arith, followed_within (followed (goal.at.put_went-requires c).After-follow-packets), c.well_formed)

pub put_went-requires-in-Listed : goal.put_went-requires-in-Listed
put_went-requires-in-Listed c =
    omega (arith, counted_within (counted (goal.at.put_went-requires-in-Listed c).After-count_on-packets), c.well_formed)

pub returns-in-Av1 : goal.returns-in-Av1
returns-in-Av1 c =
    let a = c.args in
    let put = tail_placed (place a.state) a.out.now
    (payloads c.follow-packets.result (drop a.index (packets a.segment.now))) _ c.requires.1 c.follow-packets.ensures.out_after in
    all_went (followed (goal.at.returns-in-Av1 c).After-follow-packets) _ c.put_went.ensures _ put

pub returns-in-Listed : goal.returns-in-Listed
returns-in-Listed c =
    all_counted (counted (goal.at.returns-in-Listed c).After-count_on-packets) _ c.put_went-in-Listed.ensures c.args.out.now
