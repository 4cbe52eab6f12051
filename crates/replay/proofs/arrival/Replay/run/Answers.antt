-- Each turn has the next time and the next byte count, and their index.
use Prim.Native.Nat.{ℕ}
use mathlib.Core.Path.{◌≡◌, refl, sym, ap, ap₂, ◌∙◌}
use native.Mathlib.Omega.{arith}
use Rattle.std.proofs.Common.{rules}
use Rattle.std.specs.Prelude.{Result, Ok, Err}
use Rattle.std.proofs.lemmas.Result.{err_from_is_err_and}
use Rattle.std.proofs.lemmas.List.{length_push}
use Rattle.std.proofs.lemmas.Iterator.{YieldsList-from_slice, YieldsList-from_zip}
use Rattle.std.proofs.lemmas.Iterator.Consumers.{YieldsList-from_enumerate, YieldsList-turn, YieldsList-end}
use Rattle.refusal.specs.declared.Refused.{Refused}
use Rattle.refusal.specs.Verdict.{NoValue}
use Rattle.refusal.specs.Number.{refused_by}
use Rattle.replay.specs.declared.state.State.{State}
use Rattle.replay.specs.Replay.{arrival, arriving, arrived_says}
use Rattle.replay.proofs.Turns.{left, pairs_length, done, passes_on, stops}
use Rattle.replay.proofs.arrival.Replay.run.Goals as goal

-- what an arrival says, with its index as the place of a refusal
abbrev placed_at : ℕ → Result NoValue Refused → Result NoValue Refused
placed_at i (Ok x) = Ok x
placed_at i (Err r) = Err (record { why = r.why; place = i })

refused_there : (i : ℕ) (q : Result NoValue Refused) (e : Refused) → placed_at i q ≡ Err e
    → (r : Refused) × (q ≡ Err r) × (record { why = r.why; place = i } ≡ e)
refused_there i (Ok x) e h = absurd (cc)
refused_there i (Err r) e h = (r, refl, cc)

passed_there : (i : ℕ) (q : Result NoValue Refused) (x : NoValue) → placed_at i q ≡ Ok x → q ≡ Ok tt
passed_there i (Ok y) x h = refl
passed_there i (Err r) x h = absurd (cc)

pub returns-in_err-map_err : goal.returns-in_err-map_err
returns-in_err-map_err c =
    let times = c.args.times.now in
    let counts = c.args.counts.now in
    let replay = c.args.self.now in
    let arrived = c.arrive in
    let placed : c.map_err.result ≡ placed_at c.in-Some.i arrived.result = search rules in
    let there = refused_there c.in-Some.i arrived.result _ (sym placed ∙ c.in_err-map_err.was) in
    let told =
    ap (λ (r : ℕ). arriving r c.loop-i.self.state (arrival c.in-Some.time.now c.in-Some.count.now)) (sym c.loop-i.invariant.2)
    ∙ sym arrived.ensures.arrives
    ∙ ap (λ (q : Result NoValue Refused). arrived_says q arrived.new.self.state) there.1 in
    let kept : arrived.new.self.state ≡ c.loop-i.self.state =
    rw there.1 at arrived.ensures.refused_keeps in
    let turn = YieldsList-turn
    (YieldsList-from_enumerate (YieldsList-from_zip (YieldsList-from_slice times cc) (YieldsList-from_slice counts cc)) (cc))
    c.loop-i.yielded _ c.loop-i.yielded_by _ c.next.new.self _ c.in-Some.is c.next.ensures.steps in
    let handed = err_from_is_err_and c.from_residual.result c.from_residual.ensures.1 in
    rw (handed.1, handed.2)
    (ap₂ (λ (q : Refused) (s : State). record { verdict = refused_by q; state = s }) (sym there.2) kept
    ∙ sym (c.loop-i.invariant.3 ∙ stops times counts replay.rate c.loop-i.self.state _ c.requires _ turn _ _ told))

pub loop-i-preserved : goal.loop-i-preserved
loop-i-preserved c =
    let times = c.args.times.now in
    let counts = c.args.counts.now in
    let replay = c.args.self.now in
    let arrived = c.arrive in
    let placed : c.map_err.result ≡ placed_at c.in-Some.i arrived.result = search rules in
    let there = passed_there c.in-Some.i arrived.result _ (sym placed ∙ c.in_ok-map_err.was) in
    let told =
    ap (λ (r : ℕ). arriving r c.loop-i.self.state (arrival c.in-Some.time.now c.in-Some.count.now)) (sym c.loop-i.invariant.2)
    ∙ sym arrived.ensures.arrives
    ∙ ap (λ (q : Result NoValue Refused). arrived_says q arrived.new.self.state) there in
    let turn = YieldsList-turn
    (YieldsList-from_enumerate (YieldsList-from_zip (YieldsList-from_slice times cc) (YieldsList-from_slice counts cc)) (cc))
    c.loop-i.yielded _ c.loop-i.yielded_by _ c.next.new.self _ c.in-Some.is c.next.ensures.steps in (
      search rules,
      search rules,
      arrived.ensures.rate_kept ∙ c.loop-i.invariant.2,
      c.loop-i.invariant.3 ∙ passes_on times counts replay.rate c.loop-i.self.state _ c.requires _ turn _ told
          ∙ ap (λ n. left n replay.rate arrived.new.self.state times counts) (sym (length_push c.loop-i.yielded _)),
    )

pub returns : goal.returns
returns c =
    let times = c.args.times.now in
    let counts = c.args.counts.now in
    let end = YieldsList-end
    (YieldsList-from_enumerate (YieldsList-from_zip (YieldsList-from_slice times cc) (YieldsList-from_slice counts cc)) (cc))
    c.loop-i.yielded _ c.loop-i.yielded_by _ c.next.new.self c.in-None.is c.next.ensures.steps in
    sym (c.loop-i.invariant.3
    ∙ done times counts c.args.self.now.rate c.loop-i.self.state _ (omega (arith, end.1, pairs_length times counts c.requires)))
