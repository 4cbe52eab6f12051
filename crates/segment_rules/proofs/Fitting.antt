-- What an accepted segment gives fits the outputs, and is of at most 1,024 units (`accepted_fits`): 8 and 34 are tried at each PES start,
-- and 8 at each payload. Assumes nothing.
use Rattle.std.specs.Prelude.{Option, Some, None}
use Prim.Native.Nat.{ℕ, ◌+◌, ◌*◌, ◌≤◌}
use mathlib.Core.Path.{◌≡◌, refl, sym, ap, ◌∙◌, subst}
use mathlib.Core.List.{List, [], ◌∷◌, ◌++◌, flatten, append-nil, append_assoc}
use native.Mathlib.Omega.{arith}
use lib.ListN.{length, length-append}
use Rattle.lists.specs.Lists.{Bytes}
use Rattle.refusal.specs.Verdict.{passed}
use Rattle.descriptor.specs.Edition.{Edition}
use Rattle.packet.specs.Header.{payload}
use Rattle.pes.specs.Pes.{pes_data}
use Rattle.segment_rules.specs.State.{OpenPes, AccessUnit, Extraction, no_units}
use Rattle.segment_rules.specs.Rules.{Rooms, open_bytes, carried_units, carried_so_far, most_units, unit_of}
use Rattle.segment_rules.specs.Check.{Accepted, check_segment}
use Rattle.segment_rules.proofs.Moving.{Moved, stays, starting, adding, Closes, none_open, one_open, close_passed, accepted_keeps}

-- ---- the bytes so far
abbrev pub so_far : Extraction → ℕ
so_far x = length (carried_so_far x)

carried_and_one : (units : List AccessUnit) (u : AccessUnit) → carried_units (units ++ (u ∷ [])) ≡ carried_units units ++ u.carried
unfolding flatten
carried_and_one [] u = append-nil u.carried
carried_and_one (v ∷ units) u =
    ap (λ (r : Bytes). v.carried ++ r) (carried_and_one units u) ∙ sym (append_assoc v.carried (carried_units units) u.carried)

-- the closing keeps them
pub closed_same : (x x' : Extraction) → Closes x x' → (so_far x' ≡ so_far x) × (x'.pes ≡ None)
closed_same x x' (none_open n e) = subst (λ (y : Extraction). (so_far y ≡ so_far x) × (y.pes ≡ None)) (sym e) (refl, n)
closed_same x x' (one_open o l at sized read e) =
    subst (λ (y : Extraction). (so_far y ≡ so_far x) × (y.pes ≡ None)) (sym e) (
      ap length
          (append-nil (carried_units (x.units ++ (unit_of o ∷ []))) ∙ carried_and_one x.units (unit_of o)
          ∙ ap (λ (z : Option OpenPes). carried_units x.units ++ open_bytes z) (sym at)),
      refl,
    )

-- ---- what each packet keeps
-- how many PES have opened
abbrev is_one : Option OpenPes → ℕ
is_one None = 0
is_one (Some o) = 1

abbrev opened : Extraction → ℕ
opened x = length x.units + is_one x.pes

closed_count : (x x' : Extraction) → Closes x x' → (opened x' ≡ opened x) × (length x'.units ≡ opened x')
closed_count x x' (none_open n e) =
    subst (λ (y : Extraction). (opened y ≡ opened x) × (length y.units ≡ opened y)) (sym e)
    (refl, (let k : is_one x.pes ≡ 0 = ap is_one n in omega arith))
closed_count x x' (one_open o l at sized read e) =
    let k : is_one x.pes ≡ 1 = ap is_one at in
    subst (λ (y : Extraction). (opened y ≡ opened x) × (length y.units ≡ opened y)) (sym e)
    (omega (arith, length-append x.units (unit_of o ∷ [])), omega arith)

module _ (edition : Edition) (rooms : Rooms) where
  record Fits (x : Extraction) : Type 0 where
    few : opened x ≤ most_units
    bytes : so_far x ≤ rooms.bytes
    lens : opened x ≤ rooms.lens
    times : 2 * opened x ≤ rooms.times

  moved : (ps : List Bytes) (p : Bytes) (x x' : Extraction) → Fits x → Moved edition rooms (length ps) p x x' → Fits x'
  moved ps p x x' f (stays e) = subst Fits (sym e) f
  moved ps p x x' f (starting s) =
      let c = close_passed x s.closed s.closes in
      let k = closed_same x s.closed c in
      let e : so_far s.closed ≡ length (carried_units s.closed.units) =
      ap (λ (z : Option OpenPes). length (carried_units s.closed.units ++ open_bytes z)) k.1
      ∙ ap length (append-nil (carried_units s.closed.units)) in
      subst Fits (sym s.opens)
      (record {
        few = s.few;
        bytes = omega (arith, s.bytes_fit, e, length-append (carried_units s.closed.units) (pes_data (payload p)));
        lens = s.lens_fit;
        times = s.times_fit;
      })
  moved ps p x x' f (adding a) =
      let k : is_one x.pes ≡ 1 = ap is_one a.there in
      let e : so_far x ≡ length (carried_units x.units ++ a.before.bytes) =
      ap (λ (z : Option OpenPes). length (carried_units x.units ++ open_bytes z)) a.there in
      subst Fits (sym a.adds)
      (record {
        few = omega (arith, f.few);
        bytes =
            omega (
              arith,
              a.bytes_fit,
              e,
              length-append (carried_units x.units) (a.before.bytes ++ payload p),
              length-append a.before.bytes (payload p),
              length-append (carried_units x.units) a.before.bytes,
            );
        lens = omega (arith, f.lens);
        times = omega (arith, f.times);
      })

  -- ---- an accepted segment
  pub record UnitsFit (units : List AccessUnit) : Type 0 where
    -- "1,024 units in a segment"
    pub few : length units ≤ 1024
    pub bytes : length (carried_units units) ≤ rooms.bytes
    pub lens : length units ≤ rooms.lens
    pub times : 2 * length units ≤ rooms.times

  pub accepted_fits : (s : Bytes) (a : Accepted) → check_segment edition rooms s ≡ passed a → UnitsFit a.units
  unfolding flatten
  accepted_fits s a e =
      let none_yet : Fits no_units =
      record { few = omega arith; bytes = omega arith; lens = omega arith; times = omega arith } in
      let k = accepted_keeps edition rooms (λ _. Fits) moved none_yet s a e in
      let c = close_passed k.before k.last k.closes in
      let n = closed_count k.before k.last c in
      let w = closed_same k.before k.last c in
      let whole : length (carried_units k.last.units) ≡ so_far k.last =
      sym (ap (λ (z : Option OpenPes). length (carried_units k.last.units ++ open_bytes z)) w.1
      ∙ ap length (append-nil (carried_units k.last.units))) in
      subst UnitsFit (sym k.units)
      (record {
        few = omega (arith, k.keeping.few, n.0, n.1);
        bytes = omega (arith, k.keeping.bytes, whole, w.0);
        lens = omega (arith, k.keeping.lens, n.0, n.1);
        times = omega (arith, k.keeping.times, n.0, n.1);
      })
