-- The tries are those of the definition, in its order: of what stands from the first start code on, which has the unit's payloads. What is
-- written is what it says, and that reading accepts the result follows from what was measured.
use mathlib.Core.Path.{ap}
use Rattle.refusal.specs.Number.{refused_by}
use Rattle.salvage.proofs.Tries.{Found}
use Rattle.salvage.proofs.Tries.{refused_all, too_long, many_all, bytes_all, marks_all, put_asked, put_all}
use Rattle.salvage.proofs.salvage.Goals.{After-rest-body}
use Rattle.salvage.proofs.salvage.Goals as goal

-- the unit, and what stands from its first start code on
found : (c : After-rest-body) → Found c.args.unit.now c.rest-body.result.now c.find-leading.result
found c = record { first = c.find-leading.ensures; rest = c.rest-body.ensures; within = c.if-unit-gt-MOST_CARRIED.false }

pub returns-then-unit-gt-MOST_CARRIED : goal.returns-then-unit-gt-MOST_CARRIED
returns-then-unit-gt-MOST_CARRIED c =
    let h = refused_all _ _ _ (ap refused_by c.at.ensures) (too_long _ _ _ c.if-unit-gt-MOST_CARRIED.true) in
    record { result_value = h.0; out_after = h.1.0; marks_after = h.1.1 }

pub returns-in_default : goal.returns-in_default
returns-in_default c =
    let h = many_all (found (goal.at.returns-in_default c).After-rest-body) _ _
    (ap refused_by c.at-in_default.ensures) c.in_default.ensures in
    record { result_value = h.0; out_after = h.1.0; marks_after = h.1.1 }

pub returns-then-out-measured : goal.returns-then-out-measured
returns-then-out-measured c =
    let h = bytes_all (found (goal.at.returns-then-out-measured c).After-rest-body) _ _ c.in-Some.ensures
    (ap refused_by c.at-then-out-measured.ensures) c.if-out-measured.true in
    record { result_value = h.0; out_after = h.1.0; marks_after = h.1.1 }

pub returns-then-marks-measured : goal.returns-then-marks-measured
returns-then-marks-measured c =
    let h = marks_all (found (goal.at.returns-then-marks-measured c).After-rest-body) _ _ c.in-Some.ensures
    (ap refused_by c.at-then-marks-measured.ensures) c.if-marks-measured.true in
    record { result_value = h.0; out_after = h.1.0; marks_after = h.1.1 }

pub put-requires : goal.put-requires
put-requires c =
    put_asked (found (goal.at.put-requires c).After-rest-body) c.args.out.now c.args.marks.now c.in-Some.ensures
    c.if-out-measured.false c.if-marks-measured.false

pub returns : goal.returns
returns c =
    let h = put_all (found (goal.at.returns c).After-rest-body) c.args.out.now c.args.marks.now c.in-Some.ensures
    c.if-out-measured.false
    c.if-marks-measured.false _ _ _ c.is_accepted-accepted.ensures c.put.ensures.out_after c.put.ensures.marks_after in
    record { result_value = h.0; out_after = h.1.0; marks_after = h.1.1 }
