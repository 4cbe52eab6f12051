-- The payload is legal exactly where the search for a forbidden sequence comes to its end.
use Prim.Native.Nat.{ℕ}
use mathlib.Core.Path.{sym, ap, ◌∙◌}
use Rattle.refusal.specs.Verdict.{passed, refused}
use Rattle.emulation.proofs.Answers.{judging_legal, judging_illegal}
use Rattle.emulation.proofs.Judging.{whole_illegal, whole_legal}
use Rattle.emulation.proofs.unescaping.judge.Goals as goal

pub returns-then-reached-payload : goal.returns-then-reached-payload
returns-then-reached-payload c =
    let p = c.args.payload.now in
    let j = whole_illegal p _ c.first_forbidden-reached.ensures.place_value c.if-reached-payload.true in
    rw c.at.ensures (ap (λ (n : ℕ). refused 10 n) j.1 ∙ sym (judging_illegal p j.0))

pub returns : goal.returns
returns c =
    let p = c.args.payload.now in
    let first = c.first_forbidden-reached.ensures in
    let j = whole_legal p _ _ first.place_value first.count_value c.if-reached-payload.false in
    ap passed j.1 ∙ sym (judging_legal p j.0)
