-- A trace in two runs reports as one, and so the other way. `Passing` is a run that refuses nothing, arrival by arrival; it
-- knows no index, and is put together and taken apart by induction. Assumes nothing.
use Prim.Native.Nat.{ℕ, suc, ◌+◌}
use mathlib.Core.Bool.{false, not, ◌||◌}
use mathlib.Core.Path.{◌≡◌, refl, sym, ap, subst, ◌∙◌}
use mathlib.Core.List.{List, [], ◌∷◌, ◌++◌}
use native.Mathlib.Omega.{arith}
use lib.Dec.{eqb}
use lib.ListN.{length, length-append}
use borrow.Author.Tests.{eqb-true, eq-eqb, not-false}
use Rattle.lists.specs.Lists.{pick}
use Rattle.lists.proofs.Tests.{case, or_neither}
use Rattle.refusal.specs.Verdict.{Verdict, passed, refused}
use Rattle.refusal.proofs.Verdicts.{never}
use Rattle.replay.specs.declared.state.State.{State}
use Rattle.replay.specs.Replay.{Arrival, Replayed, arrival, trace, rate_wrong, arriving, going_on, replay_from, replay}
use Rattle.replay.specs.Runs.{Ends, TwoRuns, OneRun}

abbrev done : State → Replayed
done s = record { verdict = passed tt; state = s }

data Passing (rate : ℕ) : State → List Arrival → State → Type 0 where
  none : {s : State} → Passing rate s [] s
  one : {s t u : State} {a : Arrival} {l : List Arrival} → arriving rate s a ≡ passed t → Passing rate t l u → Passing rate s (a ∷ l) u

-- ---- what a run that refuses nothing is
module _ (rate : ℕ) where
  first : (i : ℕ) (s u : State) (a : Arrival) (l : List Arrival) (next : State → Replayed) (v : Verdict State) → arriving rate s a ≡ v
      → going_on i s next v ≡ done u → ((t : State) → next t ≡ done u → Passing rate t l u) → Passing rate s (a ∷ l) u
  first i s u a l next (passed t) e h f = one e (f t h)
  first i s u a l next (refused number place) e h f = never (ap (λ (r : Replayed). r.verdict) h)

  passing : (i : ℕ) (s u : State) (l : List Arrival) → replay_from i rate s l ≡ done u → Passing rate s l u
  unfolding replay_from
  passing i s u [] h = subst (λ (t : State). Passing rate s [] t) (ap (λ (r : Replayed). r.state) h) none
  passing i s u (a ∷ l) h = first i s u a l _ (arriving rate s a) refl h (λ t. passing (suc i) t u l)

  passed_by : (i : ℕ) {s u : State} {l : List Arrival} → Passing rate s l u → replay_from i rate s l ≡ done u
  unfolding replay_from
  passed_by i none = refl
  passed_by i (one e p) = rw e (passed_by (suc i) p)

  join : {s t u : State} {l m : List Arrival} → Passing rate s l t → Passing rate t m u → Passing rate s (l ++ m) u
  join none q = q
  join (one e p) q = one e (join p q)

  split : (s u : State) (l m : List Arrival) → Passing rate s (l ++ m) u → (t : State) × Passing rate s l t × Passing rate t m u
  split s u [] m p = (s, none, p)
  split s u (a ∷ l) m (one {t = t} e p) = let h = split t u l m p in (h.0, one e h.1, h.2)

-- ---- the trace of two parts
trace_append : (ts us ns ms : List ℕ) → length ts ≡ length ns → trace (ts ++ us) (ns ++ ms) ≡ trace ts ns ++ trace us ms
unfolding trace
trace_append [] us [] ms e = refl
trace_append [] us (n ∷ ns) ms e = absurd (omega arith)
trace_append (t ∷ ts) us [] ms e = absurd (omega arith)
trace_append (t ∷ ts) us (n ∷ ns) ms e = ap (λ (l : List Arrival). arrival t n ∷ l) (trace_append ts us ns ms (omega arith))

record Accepted (s : State) (rate : ℕ) (times counts : List ℕ) (t : State) : Type 0 where
  right : rate_wrong rate ≡ false
  alike : length times ≡ length counts
  all : Passing rate s (trace times counts) t

accepted : (s : State) (rate : ℕ) (times counts : List ℕ) (t : State) → Ends s rate times counts t → Accepted s rate times counts t
unfolding replay pick
accepted s rate times counts t e =
    case (rate_wrong rate || not (eqb (length times) (length counts)))
    (λ w. never (ap (λ (r : Replayed). r.verdict) (rw w at e)))
    (λ w.
    let h = or_neither _ _ w in
    record { right = h.0; alike = eqb-true _ _ (not-false _ h.1); all = passing rate 0 s t _ (rw w at e) })

ends : (s : State) (rate : ℕ) (times counts : List ℕ) (t : State) → Accepted s rate times counts t → Ends s rate times counts t
unfolding replay pick
ends s rate times counts t a = rw (a.right, eq-eqb _ _ a.alike) (passed_by rate 0 a.all)

-- ---- the two theorems
pub two_runs : TwoRuns
two_runs s rate ts us ns ms t u e f =
    let a = accepted s rate ts ns t e in
    let b = accepted t rate us ms u f in
    ends s rate (ts ++ us) (ns ++ ms) u
    (record {
      right = a.right;
      alike = simp length-append (omega (arith, a.alike, b.alike));
      all = rw (trace_append ts us ns ms a.alike) (join rate a.all b.all);
    })

pub one_run : OneRun
one_run s rate ts us ns ms u e f =
    let a = accepted s rate (ts ++ us) (ns ++ ms) u f in
    let h = split rate s u (trace ts ns) (trace us ms) (rw (trace_append ts us ns ms e) at a.all) in
    let sums : length ts + length us ≡ length ns + length ms =
    sym (length-append ts us) ∙ a.alike ∙ length-append ns ms in (
      h.0,
      ends s rate ts ns h.0 (record { right = a.right; alike = e; all = h.1 }),
      ends h.0 rate us ms u (record { right = a.right; alike = omega arith; all = h.2 }),
    )
