-- Each way is one of the definition's: refused by the judge of a payload, too large, or kept.
use native.Mathlib.Omega.{arith}
use mathlib.Core.Path.{sym, subst}
use Rattle.salvage.specs.Parts.{OneOf}
use Rattle.salvage.proofs.Forms.{judged_refused, judged_room, judged_size, judged_kind, judged_large, judged_passes, given_kept}
use Rattle.salvage.proofs.judge_one.Goals as goal

pub overflow_sub-size : goal.overflow_sub-size
overflow_sub-size c = judged_room _ _ c.judge_payload.ensures _ c.in-Ok.is

pub returns-in-Err : goal.returns-in-Err
returns-in-Err c =
    subst (OneOf c.args.payload.now) (sym c.drop_one.ensures) (judged_refused _ _ c.judge_payload.ensures _ c.in-Err.is)

pub returns-then-size-gt-MOST_OBU_BYTES : goal.returns-then-size-gt-MOST_OBU_BYTES
returns-then-size-gt-MOST_OBU_BYTES c =
    subst (OneOf c.args.payload.now) (sym c.drop_one-then-size-gt-MOST_OBU_BYTES.ensures)
    (judged_large _ _ c.judge_payload.ensures _ c.in-Ok.is (let large = c.if-size-gt-MOST_OBU_BYTES.true in omega arith))

pub returns-else-size-gt-MOST_OBU_BYTES : goal.returns-else-size-gt-MOST_OBU_BYTES
returns-else-size-gt-MOST_OBU_BYTES c =
    let e = c.judge_payload.ensures in
    let k = c.in-Ok.is in
    let passed = judged_passes _ _ e _ k (let small = c.if-size-gt-MOST_OBU_BYTES.false in omega arith) in
    subst (OneOf c.args.payload.now) (sym c.keep_one.ensures)
    (given_kept _ passed _ _ (judged_kind _ _ e _ k _ c.kind_of.ensures) (judged_size _ _ e _ k))
