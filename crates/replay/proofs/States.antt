-- The valid states: what their bounds are; the fresh one is valid, each arrival and each run keeps it, and so do all that runs
-- lead to; their fills fit 64 bits. Assumes nothing.
use Rattle.std.specs.Prelude.{Option, Some, None}
use Prim.Native.Nat.{ℕ, suc, ◌+◌, ◌-◌, ◌*◌, ◌≤◌, max}
use mathlib.Core.Bool.{true, false, not, ◌||◌}
use mathlib.Core.Path.{◌≡◌, refl, subst}
use mathlib.Core.List.{List, [], ◌∷◌}
use native.Mathlib.Omega.{arith}
use lib.Dec.{eqb, ltb}
use lib.ListN.{length}
use borrow.Author.Tests.{leb-true, le-leb, ltb-true, ltb-false, lt-ltb, leb-false}
use Rattle.lists.specs.Lists.{pick}
use Rattle.lists.proofs.Tests.{case, and_both, or_neither}
use Rattle.refusal.specs.Verdict.{Verdict, passed, refused, given}
use Rattle.refusal.proofs.Verdicts.{passed_after, passed_same, given_passed}
use Rattle.ticks.specs.declared.Ticks27.{Ticks27}
use Rattle.replay.specs.declared.state.State.{State}
use Rattle.replay.specs.Replay.{second, most_bytes, most_rate, most_arrivals, fill_of, buffer, Arrival, trace, rate_wrong}
use Rattle.replay.specs.Replay.{fresh, time_wrong, arrival_wrong, elapsed, filled, first_above, after, arriving}
use Rattle.replay.specs.Replay.{Replayed, going_on, replay_from, replay, last_right, above_right, valid}
use Rattle.replay.specs.Runs.{at_first, by_run, ReachedValid, ValidFits}
use Rattle.replay.proofs.Draining.{at_once}

-- ---- what the tests say of the numbers
pub rate_within : (rate : ℕ) → rate_wrong rate ≡ false → rate ≤ most_rate
unfolding rate_wrong
rate_within rate e = ltb-false most_rate rate (or_neither (ltb rate 1) (ltb most_rate rate) e).1

pub record Passes (arrivals bytes : ℕ) : Type 0 where
  pub bytes_within : bytes ≤ most_bytes
  pub arrivals_within : suc arrivals ≤ most_arrivals

pub passes : (arrivals bytes : ℕ) → arrival_wrong arrivals bytes ≡ false → Passes arrivals bytes
unfolding arrival_wrong
passes arrivals bytes e =
    let h = or_neither _ _ e in
    record { bytes_within = ltb-false most_bytes bytes h.0; arrivals_within = leb-false most_arrivals arrivals h.1 }

pub elapsed_within : (l : Option Ticks27) (t : Ticks27) → time_wrong l t ≡ false → elapsed l t ≤ second
elapsed_within None t e = omega arith
elapsed_within (Some l) t e =
    ltb-false second (t.0 - l.0) (or_neither (ltb t.0 l.0) (ltb second (t.0 - l.0)) e).1

pub not_back : (l t : Ticks27) → time_wrong (Some l) t ≡ false → l.0 ≤ t.0
not_back l t e = ltb-false t.0 l.0 (or_neither (ltb t.0 l.0) (ltb second (t.0 - l.0)) e).0

-- ---- a valid state, part by part
pub record Valid (s : State) : Type 0 where
  pub arrivals : s.arrivals ≤ most_arrivals
  pub fill : s.fill ≤ s.highest
  pub highest : s.highest ≤ s.arrivals * fill_of most_bytes
  pub last : last_right s.last s.arrivals ≡ true
  pub above : above_right s.above s.arrivals s.highest ≡ true

pub parts : (s : State) → valid s ≡ true → Valid s
unfolding valid
parts s e =
    let a = and_both _ _ e in
    let f = and_both _ _ a.1 in
    let h = and_both _ _ f.1 in
    let l = and_both _ _ h.1 in
    record {
      arrivals = leb-true _ _ a.0;
      fill = leb-true _ _ f.0;
      highest = leb-true _ _ h.0;
      last = l.0;
      above = l.1;
    }

whole : (s : State) → Valid s → valid s ≡ true
unfolding valid
whole s v =
    rw (le-leb _ _ v.arrivals, le-leb _ _ v.fill, le-leb _ _ v.highest, v.last) v.above

-- ---- the fresh state, and what keeps it
pub fresh_valid : valid fresh ≡ true
unfolding valid
fresh_valid = refl

-- draining adds nothing
pub filled_within : (rate : ℕ) (s : State) (a : Arrival) → filled rate s a ≤ s.fill + fill_of a.bytes
unfolding filled
filled_within rate s a = rw at_once (omega arith)

above_kept : (a : Option ℕ) (arrivals highest fill : ℕ) → above_right a arrivals highest ≡ true
    → above_right (first_above a arrivals fill) (arrivals + 1) (max highest fill) ≡ true
unfolding pick
above_kept (Some i) arrivals highest fill e =
    let h = and_both (ltb i arrivals) (ltb buffer highest) e in
    let index = ltb-true i arrivals h.0 in
    let high = ltb-true buffer highest h.1 in
    rw (lt-ltb i (arrivals + 1) (omega arith), lt-ltb buffer (max highest fill) (omega arith))
above_kept None arrivals highest fill e =
    let low = leb-true highest buffer e in
    case (ltb buffer fill)
    (λ t.
    let high = ltb-true buffer fill t in
    rw t (rw (lt-ltb arrivals (arrivals + 1) (omega arith), lt-ltb buffer (max highest fill) (omega arith))))
    (λ t. let under = ltb-false buffer fill t in rw t (le-leb (max highest fill) buffer (omega arith)))

after_valid : (rate : ℕ) (s : State) (a : Arrival) → Valid s → Passes s.arrivals a.bytes → Valid (after rate s a)
unfolding after
after_valid rate s a v p =
    let within = filled_within rate s a in
    record {
      arrivals = omega (arith, p.arrivals_within);
      fill = omega arith;
      highest = omega (arith, v.fill, v.highest, p.bytes_within);
      last = lt-ltb 0 (s.arrivals + 1) (omega arith);
      above = above_kept s.above s.arrivals s.highest (filled rate s a) v.above;
    }

pub arriving_valid : (rate : ℕ) (s t : State) (a : Arrival) → valid s ≡ true → arriving rate s a ≡ passed t → valid t ≡ true
unfolding arriving
arriving_valid rate s t a e h =
    let first = passed_after (given 46 (time_wrong s.last a.time)) _ t h in
    let then = passed_after (given 47 (arrival_wrong s.arrivals a.bytes)) _ t first.1 in
    let p = passes s.arrivals a.bytes (given_passed 47 _ then.0) in
    subst (λ (u : State). valid u ≡ true) (passed_same _ _ then.1) (whole _ (after_valid rate s a (parts s e) p))

goes_on : (index rate : ℕ) (s : State) (a : Arrival) (next : State → Replayed) (v : Verdict State) → arriving rate s a ≡ v
    → valid s ≡ true → ((t : State) → valid t ≡ true → valid (next t).state ≡ true)
    → valid (going_on index s next v).state ≡ true
goes_on index rate s a next (passed t) e p f = f t (arriving_valid rate s t a p e)
goes_on index rate s a next (refused number place) e p f = p

from_valid : (index rate : ℕ) (s : State) (l : List Arrival) → valid s ≡ true → valid (replay_from index rate s l).state ≡ true
unfolding replay_from
from_valid index rate s [] e = e
from_valid index rate s (a ∷ l) e =
    goes_on index rate s a _ (arriving rate s a) refl e (λ t p. from_valid (suc index) rate t l p)

-- a run keeps it, also one that refuses
pub replay_valid : (s : State) (rate : ℕ) (times counts : List ℕ) → valid s ≡ true
    → valid (replay s rate times counts).state ≡ true
unfolding replay pick
replay_valid s rate times counts e =
    case (rate_wrong rate || not (eqb (length times) (length counts))) (λ t. rw t e)
    (λ t. rw t (from_valid 0 rate s (trace times counts) e))

pub reached_valid : ReachedValid
reached_valid s at_first = fresh_valid
reached_valid s (by_run {s = before} r rate times counts) =
    replay_valid before rate times counts (reached_valid before r)

pub valid_fits : ValidFits
valid_fits s e = let v = parts s e in (omega arith, omega arith)
