-- One arrival of a run over slices: what is left of the trace from a place on, and what the definition says of its first
-- arrival. Assumes nothing.
use Prim.Native.Nat.{ℕ, suc, ◌+◌, ◌≤◌, ◌<◌}
use mathlib.Core.Path.{◌≡◌, sym, ap, ap₂, ◌∙◌}
use mathlib.Core.List.{List}
use native.Mathlib.Omega.{arith}
use native.Mathlib.Numerals.{add-one}
use lib.ListN.{length, drop, get_or, drop_of_length-le}
use lib.Seq.{drop-cons}
use Rattle.std.specs.List.{enumerate_from, zip}
use Rattle.std.proofs.lemmas.Grind.{get_or_default_zero}
use Rattle.std.proofs.lemmas.List.FromFn.{get_or-enumerate_from, length-enumerate_from}
use Rattle.std.proofs.lemmas.Slice.Zip.{length-zip, get_or-zip}
use Rattle.refusal.specs.Verdict.{passed, refused}
use Rattle.replay.specs.declared.state.State.{State}
use Rattle.replay.specs.Replay.{Replayed, arrival, trace, arriving, going_on, refused_at, replay_from}

-- what is left of the trace, from a place on
abbrev pub left : ℕ → ℕ → State → List ℕ → List ℕ → Replayed
left i rate s times counts = replay_from i rate s (trace (drop i times) (drop i counts))

-- ---- both lists in step, each pair with its index
abbrev pub pairs : List ℕ → List ℕ → List (ℕ × (ℕ × ℕ))
pairs times counts = enumerate_from 0 (zip times counts)

pub pairs_length : (times counts : List ℕ) → length times ≡ length counts → length (pairs times counts) ≡ length times
pairs_length times counts same =
    let both = length-zip times counts in length-enumerate_from 0 (zip times counts) ∙ omega arith

in_step : (times counts : List ℕ) → length times ≡ length counts → (j : ℕ) (p : ℕ × (ℕ × ℕ)) → j < length (pairs times counts)
    → p ≡ get_or (pairs times counts) j p → p ≡ (j, (get_or times j 0, get_or counts j 0))
in_step times counts same j p h e =
    let small : j < length times = omega (arith, pairs_length times counts same) in
    let other : j < length counts = omega arith in
    let within : j < length (zip times counts) = let both = length-zip times counts in omega arith in
    let at : 0 + j ≡ j = omega arith in
    e ∙ get_or-enumerate_from 0 (zip times counts) j p within
    ∙ ap₂ (λ (i : ℕ) (q : ℕ × ℕ). (i, q)) at
    (get_or-zip times counts j p.1 small other
    ∙ ap₂ (λ (t n : ℕ). (t, n)) (get_or_default_zero times j p.1.0 small) (get_or_default_zero counts j p.1.1 other))

-- ---- one turn
module _ (times counts : List ℕ) (rate : ℕ) (s : State) (i : ℕ) where
  pub done : length times ≤ i → left i rate s times counts ≡ record { verdict = passed tt; state = s }
  unfolding replay_from trace
  done h = rw (drop_of_length-le times h)

  opened : length times ≡ length counts → i < length times
      → left i rate s times counts
      ≡ going_on i s (λ t. left (suc i) rate t times counts) (arriving rate s (arrival (get_or times i 0) (get_or counts i 0)))
  unfolding replay_from trace
  opened same h = let k : i < length counts = omega arith in rw (drop-cons times i 0 h, drop-cons counts i 0 k)

  -- p is the pair of this turn, with its index
  module _ (same : length times ≡ length counts) (p : ℕ × (ℕ × ℕ))
      (turn : (i < length (pairs times counts)) × (p ≡ get_or (pairs times counts) i p)) where
    turned : left i rate s times counts
        ≡ going_on p.0 s (λ t. left (suc i) rate t times counts) (arriving rate s (arrival p.1.0 p.1.1))
    turned =
        opened same (omega (arith, turn.0, pairs_length times counts same))
        ∙ ap (λ (q : ℕ × (ℕ × ℕ)). going_on q.0 s (λ t. left (suc i) rate t times counts) (arriving rate s (arrival q.1.0 q.1.1)))
        (sym (in_step times counts same i p turn.0 turn.1))

    pub passes_on : (t : State) → arriving rate s (arrival p.1.0 p.1.1) ≡ passed t
        → left i rate s times counts ≡ left (i + 1) rate t times counts
    passes_on t e = turned ∙ rw (e, add-one)

    pub stops : (number place : ℕ) → arriving rate s (arrival p.1.0 p.1.1) ≡ refused number place
        → left i rate s times counts ≡ refused_at number p.0 s
    stops number place e = turned ∙ rw e
