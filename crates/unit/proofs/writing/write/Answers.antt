-- The tries are those of the definition, in its order; if none refuses and there is room, the carried unit is written whole. Demand 3 is
-- then the theorem about the definitions.
use Rattle.refusal.specs.Number.{says, refused_by}
use Rattle.std.proofs.lemmas.Result.{err_from_is_err_and}
use native.Mathlib.Omega.{arith}
use borrow.Author.Tests.{leb-true, leb-false}
use lib.ListN.{length}
use Rattle.unit.specs.Unit.{obus_of, carried}
use mathlib.Core.Path.{sym, ap, ◌∙◌}
use Rattle.unit.proofs.Tries.{no_obu, too_many, too_long, wrong_sum, refused_answer, no_room, all_written}
use Rattle.unit.proofs.writing.write.Goals as goal

pub returns-then-lens-eq0 : goal.returns-then-lens-eq0
returns-then-lens-eq0 c =
    let a = refused_answer c.args.lens.now c.args.obus.now c.args.out.now 1 0 (ap refused_by c.at.ensures)
    (no_obu _ _ c.if-lens-eq0.true) in
    record { result_value = a.0; out_after = a.1.0; demand3lent = a.1.1 }

pub returns-then-lens-gt-MOST_OBUS : goal.returns-then-lens-gt-MOST_OBUS
returns-then-lens-gt-MOST_OBUS c =
    let a = refused_answer c.args.lens.now c.args.obus.now c.args.out.now 1 0 (ap refused_by c.at-then-lens-gt-MOST_OBUS.ensures)
    (too_many _ _ (omega arith)) in
    record { result_value = a.0; out_after = a.1.0; demand3lent = a.1.1 }

pub returns-then-obus-gt-MOST_OBU_BYTES : goal.returns-then-obus-gt-MOST_OBU_BYTES
returns-then-obus-gt-MOST_OBU_BYTES c =
    let a = refused_answer c.args.lens.now c.args.obus.now c.args.out.now 2 0 (ap refused_by c.at-then-obus-gt-MOST_OBU_BYTES.ensures)
    (too_long _ _ (omega arith) (omega arith) (omega arith)) in
    record { result_value = a.0; out_after = a.1.0; demand3lent = a.1.1 }

pub returns-then-not-adds_up : goal.returns-then-not-adds_up
returns-then-not-adds_up c =
    let a = refused_answer c.args.lens.now c.args.obus.now c.args.out.now 2 0 (ap refused_by c.at-then-not-adds_up.ensures)
    (wrong_sum _ _ (omega arith) (omega arith) (sym c.adds_up.ensures ∙ c.if-not-adds_up.true)) in
    record { result_value = a.0; out_after = a.1.0; demand3lent = a.1.1 }

pub returns-in_err-judge_obus : goal.returns-in_err-judge_obus
returns-in_err-judge_obus c =
    let p = err_from_is_err_and c.from_residual.result c.from_residual.ensures.1 in
    let a = refused_answer c.args.lens.now c.args.obus.now c.args.out.now _ _ (ap says p.1
    ∙ ap refused_by p.2) c.in_err-judge_obus.ensures in
    record { result_value = a.0; out_after = a.1.0; demand3lent = a.1.1 }

pub returns-then-not-has_room : goal.returns-then-not-has_room
returns-then-not-has_room c =
    let whole = length (carried (obus_of c.args.lens.now c.args.obus.now)) in
    let out = c.args.out.now in
    let short = leb-false whole (length out) (sym c.has_room.ensures ∙ c.if-not-has_room.true) in
    let a = no_room c.args.lens.now c.args.obus.now out (ap refused_by c.at-then-not-has_room.ensures) c.in_ok-judge_obus.ensures
    (omega (arith, short)) in
    record { result_value = a.0; out_after = a.1.0; demand3lent = a.1.1 }

pub returns : goal.returns
returns c =
    let whole = length (carried (obus_of c.args.lens.now c.args.obus.now)) in
    let written = c.write_obus.ensures in
    let room = leb-true whole (length c.args.out.now) (sym c.has_room.ensures ∙ c.if-not-has_room.false) in
    let a = all_written c.args.lens.now c.args.obus.now c.args.out.now _ _ written.value c.in_ok-judge_obus.ensures
    (omega (arith, written.value, room)) written.out_after in
    record { result_value = a.0; out_after = a.1.0; demand3lent = a.1.1 }
