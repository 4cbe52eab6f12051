-- What the three outputs hold after the check: after a refusal as many zeros as they had elements (`refused_outputs`); after acceptance the
-- units, their lengths and times in front, and the rest as it was (`accepted_outputs`), since they fit. Assumes nothing.
use Rattle.std.specs.Prelude.{Option, Some, None}
use Prim.Native.Nat.{ℕ, ◌*◌, ◌<◌, ◌≤◌}
use mathlib.Core.Path.{◌≡◌, refl, ap}
use mathlib.Core.List.{List, [], ◌∷◌, flatten}
use native.Mathlib.Omega.{arith}
use lib.ListN.{length, take, drop, get_or, length-append, length-drop, length-map, length-replicate, get_or-replicate}
use lib.Seq.{take-append_seam, drop-append_seam}
use Rattle.lists.specs.Lists.{Bytes, over, zeros}
use Rattle.refusal.specs.Verdict.{passed, refused}
use Rattle.descriptor.specs.Edition.{Edition}
use Rattle.pes.specs.declared.header.Times.{Times}
use Rattle.segment_rules.specs.State.{AccessUnit}
use Rattle.segment_rules.specs.Rules.{carried_units}
use Rattle.segment_rules.specs.Check.{Accepted, Outputs, rooms_of, lengths, pts_and_dts, times_in_turn, outputs_after, check_segment}
use Rattle.segment_rules.proofs.Fitting.{accepted_fits}

-- ---- a refusal
-- an output of as many elements, which are all 0
pub record Zeros (before after : List ℕ) : Type 0 where
  pub long : length after ≡ length before
  pub zero : (i : ℕ) → i < length before → get_or after i 1 ≡ 0

zeros_are : (out : List ℕ) → Zeros out (zeros out)
zeros_are out = record { long = length-replicate (length out) 0; zero = λ i h. get_or-replicate (length out) i 0 1 h }

module _ (number place : ℕ) (o : Outputs) where
  pub refused_outputs : Zeros o.bytes (outputs_after (refused number place) o).bytes
      × Zeros o.lens (outputs_after (refused number place) o).lens
      × Zeros o.times (outputs_after (refused number place) o).times
  unfolding outputs_after
  refused_outputs = (zeros_are o.bytes, zeros_are o.lens, zeros_are o.times)

-- ---- acceptance
-- w in front, the rest as it was
pub record InFront (w before after : List ℕ) : Type 0 where
  pub front : take (length w) after ≡ w
  pub rest : drop (length w) after ≡ drop (length w) before
  pub long : length after ≡ length before

in_front : (w out : List ℕ) → length w ≤ length out → InFront w out (over w out)
in_front w out h =
    record {
      front = take-append_seam w (drop (length w) out);
      rest = drop-append_seam w (drop (length w) out);
      long = omega (arith, length-append w (drop (length w) out), length-drop (length w) out);
    }

pub two_times : (t : Option Times) → pts_and_dts t ≡ get_or (pts_and_dts t) 0 0 ∷ get_or (pts_and_dts t) 1 0 ∷ []
unfolding pts_and_dts
two_times None = refl
two_times (Some t) = refl

pub count_times : (units : List AccessUnit) → length (times_in_turn units) ≡ 2 * length units
unfolding flatten
count_times [] = omega arith
count_times (u ∷ units) =
    omega (arith, length-append (pts_and_dts u.times) (times_in_turn units), ap length (two_times u.times), count_times units)

module _ (edition : Edition) (s : Bytes) (o : Outputs) (a : Accepted) (e : check_segment edition (rooms_of o) s ≡ passed a) where
  pub accepted_outputs : InFront (carried_units a.units) o.bytes (outputs_after (passed a) o).bytes
      × InFront (lengths a.units) o.lens (outputs_after (passed a) o).lens
      × InFront (times_in_turn a.units) o.times (outputs_after (passed a) o).times
  unfolding outputs_after
  accepted_outputs =
      let f = accepted_fits edition (rooms_of o) s a e in (
        in_front _ o.bytes f.bytes,
        in_front _ o.lens (omega (arith, f.lens, length-map a.units (λ u. length u.carried))),
        in_front _ o.times (omega (arith, f.times, count_times a.units)),
      )
