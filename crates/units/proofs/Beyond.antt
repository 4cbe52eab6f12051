-- Whether a place that the code keeps lies beyond the outputs: the tests of the code, which must not add beyond 2^64, are those of the
-- definition (`passes-*`, `half`), and where none lies beyond, all fit (`within_fits`), and the other way round (`fits_within`).
-- Assumes nothing.
use Prim.Native.Nat.{ℕ, ◌+◌, ◌-◌, ◌*◌, ◌/◌, ◌≤◌, ◌<◌}
use mathlib.Core.Bool.{true, false}
use mathlib.Core.Path.{◌≡◌, sym, ◌∙◌}
use native.Mathlib.Omega.{arith}
use borrow.Author.Tests.{ltb-true, ltb-false, lt-ltb, le-ltb}
use lib.Dec.{ltb}
use Rattle.lists.proofs.Tests.{case, or_by_false, or_neither}
use Rattle.segment_rules.specs.Rules.{Rooms}
use Rattle.units.specs.declared.units.Extraction.{Extraction}
use Rattle.units.specs.Extraction.{units_begun, Fits, is_beyond}

-- ---- the tests of the code
pub passes_place : (place elements room : ℕ) → room < place → true ≡ ltb room (place + elements)
passes_place place elements room h = sym (lt-ltb room (place + elements) (omega (arith, h)))

pub passes_rest : (place elements room : ℕ) → place ≤ room → ltb (room - place) elements ≡ ltb room (place + elements)
passes_rest place elements room h =
    case (ltb (room - place) elements)
    (λ t. t ∙ sym (lt-ltb room (place + elements) (omega (arith, h, ltb-true (room - place) elements t))))
    (λ t. t ∙ sym (le-ltb room (place + elements) (omega (arith, h, ltb-false (room - place) elements t))))

pub half : (room n : ℕ) → ltb (room / 2) n ≡ ltb room (2 * n)
half room n =
    case (ltb (room / 2) n)
    (λ t. t ∙ sym (lt-ltb room (2 * n) (omega (arith, ltb-true (room / 2) n t))))
    (λ t. t ∙ sym (le-ltb room (2 * n) (omega (arith, ltb-false (room / 2) n t))))

-- ---- no place lies beyond
module _ (e : Extraction) (rooms : Rooms) where
  pub fits_within : Fits e rooms → is_beyond e rooms ≡ false
  fits_within f =
      sym (or_by_false (le-ltb rooms.bytes (e.start + e.bytes) f.in_bytes)
      (or_by_false (le-ltb rooms.lens (units_begun e.pes e.units) f.in_lens)
      (sym (le-ltb rooms.times (2 * units_begun e.pes e.units) f.in_times))))

  pub within_fits : is_beyond e rooms ≡ false → Fits e rooms
  within_fits h =
      let first = or_neither _ _ h in
      let others = or_neither _ _ first.1 in
      record {
        in_bytes = ltb-false rooms.bytes (e.start + e.bytes) first.0;
        in_lens = ltb-false rooms.lens (units_begun e.pes e.units) others.0;
        in_times = ltb-false rooms.times (2 * units_begun e.pes e.units) others.1;
      }
