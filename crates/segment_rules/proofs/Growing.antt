-- The units grow by the closing of a PES alone: after one packet they are those before it, or the unit of the PES that was open stands
-- behind them (`packet_grows`); and so it is where the open PES closes at the end (`close_grows`). Assumes nothing.
use Rattle.std.specs.Prelude.{Some}
use Prim.Native.Nat.{ℕ}
use mathlib.Core.Path.{◌≡◌, refl, ap, ◌∙◌}
use mathlib.Core.List.{[], ◌∷◌, ◌++◌}
use Rattle.lists.specs.Lists.{Bytes}
use Rattle.refusal.specs.Verdict.{passed}
use Rattle.descriptor.specs.Edition.{Edition}
use Rattle.segment_rules.specs.State.{OpenPes, Extraction, State, Kind}
use Rattle.segment_rules.specs.Rules.{Rooms, unit_of, close_pes, packet_rules}
use Rattle.segment_rules.proofs.Moving.{Moved, stays, starting, adding, packet_moves, Closes, none_open, one_open, close_passed}

pub data Grows (x x' : Extraction) : Type 0 where
  same_units : x'.units ≡ x.units → Grows x x'
  one_more : (o : OpenPes) → x.pes ≡ Some o → x'.units ≡ x.units ++ (unit_of o ∷ []) → Grows x x'

closes_grows : (x y x' : Extraction) → Closes x y → x'.units ≡ y.units → Grows x x'
closes_grows x y x' (none_open n e) k = same_units (k ∙ ap (λ (z : Extraction). z.units) e)
closes_grows x y x' (one_open o l at sized read e) k = one_more o at (k ∙ ap (λ (z : Extraction). z.units) e)

pub close_grows : (x x' : Extraction) → close_pes x ≡ passed x' → Grows x x'
close_grows x x' e = closes_grows x x' x' (close_passed x x' e) refl

module _ (edition : Edition) (rooms : Rooms) (i : ℕ) (p : Bytes) where
  moved_grows : (x x' : Extraction) → Moved edition rooms i p x x' → Grows x x'
  moved_grows x x' (stays e) = same_units (ap (λ (z : Extraction). z.units) e)
  moved_grows x x' (starting s) =
      closes_grows x s.closed x' (close_passed x s.closed s.closes) (ap (λ (z : Extraction). z.units) s.opens)
  moved_grows x x' (adding a) = same_units (ap (λ (z : Extraction). z.units) a.adds)

  pub packet_grows : (kind : Kind) (st st' : State) → packet_rules edition rooms i p kind st ≡ passed st'
      → Grows st.extraction st'.extraction
  packet_grows kind st st' e = moved_grows _ _ (packet_moves edition rooms i p kind st st' e)
