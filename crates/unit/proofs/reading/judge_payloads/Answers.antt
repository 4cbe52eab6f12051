use Rattle.std.specs.Prelude.{Ok}
use Rattle.refusal.specs.Number.{says}
use native.Mathlib.Omega.{arith}
use Prim.Native.Nat.{ℕ, ◌+◌, ◌-◌, ◌≤◌, ◌<◌}
use mathlib.Core.Bool.{true}
use mathlib.Core.Path.{◌≡◌, refl, sym, ap, subst, ◌∙◌}
use borrow.Author.Tests.{ltb-true, ltb-false}
use lib.ListN.{length, drop, set}
use Rattle.emulation.proofs.Steps.{given_or_dropped}
use Rattle.unit.specs.Unit.{most_obus}
use Rattle.tsobu.specs.StartCodes.{at_start_code, payloads}
use Rattle.tsobu.specs.TsObu.{tsobu_figures}
use Rattle.tsobu.specs.declared.judging.Figures.{Figures}
use Rattle.tsobu.proofs.Places.{next_code, payload_at, payload_is, payload_length, next_fits}
use Rattle.tsobu.proofs.TsObus.{Passes, tsobu_refused, tsobu_passed}
use Rattle.unit.proofs.Readings.{Judging, ending_code, judging_step, judging_count, judging_past, judging_refused}
use Rattle.unit.proofs.Readings.{judging_done, refused_judges, counted_many}
use Rattle.unit.proofs.reading.judge_payloads.Goals.{After-judge_from-found}
use Rattle.unit.proofs.reading.judge_payloads.Goals as goal

-- ---- in a turn, behind the verdict on its payload
end_is : (c : After-judge_from-found)
    → c.judge_from-found.result.end
    ≡ next_code c.args.unit.now c.loop-code.code
end_is c = c.judge_from-found.ensures.end_value

here : (c : After-judge_from-found)
    → at_start_code (drop c.loop-code.code c.args.unit.now) ≡ true
here c = ending_code c.loop-code.invariant.ending c.loop-code-test.true

fits : (c : After-judge_from-found)
    → next_code c.args.unit.now c.loop-code.code ≤ length
    c.args.unit.now
fits c =
    let here : at_start_code (drop c.loop-code.code c.args.unit.now) ≡ true = ending_code c.loop-code.invariant.ending c.loop-code-test.true
    in
    next_fits c.args.unit.now c.loop-code.code (here)

few : (c : After-judge_from-found) → c.loop-code.count < 64
few c = omega (arith, c.if-count-ge-MOST_OBUS.false)

-- what was said of the payload
said : (c : After-judge_from-found)
    → says c.judge_from-found.result.tsobu
    ≡ tsobu_figures (payload_at c.args.unit.now c.loop-code.code)
said c =
    c.judge_from-found.ensures.tsobu_value
    ∙ ap tsobu_figures (sym
    (payload_is c.args.unit.now c.loop-code.code))

-- a payload that passed
fine : (c : After-judge_from-found) (f : Figures) → c.judge_from-found.result.tsobu ≡ Ok f
    → Passes (payload_at c.args.unit.now c.loop-code.code) f
fine c f e =
    let said : says c.judge_from-found.result.tsobu
    ≡ tsobu_figures (payload_at c.args.unit.now c.loop-code.code) = c.judge_from-found.ensures.tsobu_value
    ∙ ap tsobu_figures (sym
    (payload_is c.args.unit.now c.loop-code.code)) in
    tsobu_passed _ _ f (said) e

-- the bytes dropped are fewer than the payload's
fewer : (c : After-judge_from-found) (f : Figures) → c.judge_from-found.result.tsobu ≡ Ok f
    → c.loop-code.code + 3 + f.dropped ≤ c.judge_from-found.result.end
fewer c f e =
    let end_is : c.judge_from-found.result.end
    ≡ next_code c.args.unit.now c.loop-code.code = c.judge_from-found.ensures.end_value in
    let said : says c.judge_from-found.result.tsobu
    ≡ tsobu_figures (payload_at c.args.unit.now c.loop-code.code) = c.judge_from-found.ensures.tsobu_value
    ∙ ap tsobu_figures (sym
    (payload_is c.args.unit.now c.loop-code.code)) in
    let fine : (f : Figures) → c.judge_from-found.result.tsobu ≡ Ok f
    → Passes (payload_at c.args.unit.now c.loop-code.code) f = λ f e. tsobu_passed _ _ f (said) e in
    let s = c.args.unit.now in
    let code = c.loop-code.code in
    omega (arith, (fine f e).dropped_is, given_or_dropped (payload_at s code), payload_length s code, end_is)

-- the payloads of the unit, counted: those before this one, it, and those behind it
counted : (c : After-judge_from-found)
    → c.loop-code.count + 1 + length
    (payloads (drop c.judge_from-found.result.end c.args.unit.now))
    ≡ length (payloads c.args.unit.now)
counted c =
    let end_is : c.judge_from-found.result.end
    ≡ next_code c.args.unit.now c.loop-code.code = c.judge_from-found.ensures.end_value in
    let s = c.args.unit.now in
    ap (λ (e : ℕ). c.loop-code.count + 1 + length (payloads (drop e s))) (end_is) ∙ judging_count c.loop-code.invariant
    c.loop-code-test.true

pub returns-then-count-ge-MOST_OBUS : goal.returns-then-count-ge-MOST_OBUS
returns-then-count-ge-MOST_OBUS c =
    rw c.at.ensures
    (refused_judges _ _ _ c.loop-code.invariant.kinds_noted.long
    (judging_past c.loop-code.invariant c.loop-code-test.true c.if-count-ge-MOST_OBUS.true))

pub too_many-requires : goal.too_many-requires
too_many-requires c = (
  omega (arith, end_is (goal.at.too_many-requires c).After-judge_from-found, fits (goal.at.too_many-requires c).After-judge_from-found),
  omega (arith, few (goal.at.too_many-requires c).After-judge_from-found),
)

pub returns-then-too_many : goal.returns-then-too_many
returns-then-too_many c =
    let s = c.args.unit.now in
    let n = c.loop-code.count + 1 + length (payloads (drop c.judge_from-found.result.end s)) in
    let more = ltb-true most_obus n (sym c.too_many.ensures ∙ c.if-too_many.true) in
    rw c.at-then-too_many.ensures
    (refused_judges _ _ _ c.loop-code.invariant.kinds_noted.long
    (counted_many s (omega (arith, counted (goal.at.returns-then-too_many c).After-judge_from-found, more))))

pub returns-in-Err : goal.returns-in-Err
returns-in-Err c =
    let n = c.loop-code.count + 1 + length
    (payloads (drop c.judge_from-found.result.end c.args.unit.now)) in
    let most = ltb-false most_obus n (sym c.too_many.ensures ∙ c.if-too_many.false) in
    let r = tsobu_refused _ _ _ (said (goal.at.returns-in-Err c).After-judge_from-found) c.in-Err.is in
    rw c.at-in-Err.ensures
    (refused_judges _ _ _ c.loop-code.invariant.kinds_noted.long
    (judging_refused c.loop-code.invariant c.loop-code-test.true c.in-Err.refused r
    (omega (arith, counted (goal.at.returns-in-Err c).After-judge_from-found, most))))

pub overflow_sub-bytes-in-Ok : goal.overflow_sub-bytes-in-Ok
overflow_sub-bytes-in-Ok c =
    omega (
      arith,
      fewer (goal.at.overflow_sub-bytes-in-Ok c).After-judge_from-found _
          c.in-Ok.is,
    )

pub overflow_add-dropped : goal.overflow_add-dropped
overflow_add-dropped c =
    omega (
      arith,
      end_is (goal.at.overflow_add-dropped c).After-judge_from-found,
      fits (goal.at.overflow_add-dropped c).After-judge_from-found,
      c.loop-code.invariant.small,
      fewer (goal.at.overflow_add-dropped c).After-judge_from-found _
          c.in-Ok.is,
    )

pub loop-code-preserved : goal.loop-code-preserved
loop-code-preserved c =
    let s = c.args.unit.now in
    let f = c.in-Ok.figures in
    let kind = c.kind_of.result in
    let width = c.size_bytes.result in
    subst
    (λ (e : ℕ). Judging s (set c.loop-code.kinds c.loop-code.count kind)
    (set c.loop-code.notes c.loop-code.count (record { end = e; width = width }))
    (c.loop-code.bytes + (e - (c.loop-code.code + 3) - f.dropped)) (c.loop-code.dropped + f.dropped) e (c.loop-code.count + 1))
    (sym (end_is (goal.at.loop-code-preserved c).After-judge_from-found))
    (judging_step c.loop-code.invariant c.loop-code-test.true f
    (fine (goal.at.loop-code-preserved c).After-judge_from-found f c.in-Ok.is)
    (few (goal.at.loop-code-preserved c).After-judge_from-found) kind c.kind_of.ensures (record { end = _; width = width }) refl
    c.size_bytes.ensures)

pub returns : goal.returns
returns c = judging_done c.loop-code.invariant (omega (arith, c.loop-code-test.false))
