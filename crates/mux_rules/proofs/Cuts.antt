-- How a PES is cut into the payloads of its packets. Assumes nothing.
use Prim.Native.Nat.{ℕ, suc, ◌+◌, ◌-◌, ◌*◌, ◌^◌, ◌≤◌, ◌<◌}
use mathlib.Core.Bool.{Bool, true, false}
use mathlib.Core.Path.{◌≡◌, refl, ap, ◌∙◌}
use mathlib.Core.Logic.{inl, inr}
use mathlib.Core.List.{[], ◌∷◌, ◌++◌}
use native.Mathlib.Omega.{arith}
use lib.ListN.{length, take, drop, length-append, length-take, length-drop}
use lib.Seq.{take-append-add, drop-append-add}
use Rattle.lists.specs.Lists.{Bytes, pick}
use Rattle.lists.specs.Bytes.{bits}
use Rattle.packet.specs.Writing.{flag, most}
use Rattle.packet.proofs.Writing.{flag_lt}
use Rattle.pes.specs.Writing.{times}
use Rattle.pes.proofs.Writing.{length_times, length_header}
use Rattle.queue.specs.Queue.{TimedUnit}
use Rattle.mux_rules.specs.Packets.{header, pes, first_most, others_for, first_part_of, other_parts, frame_place, within, unit_bytes}
use Rattle.mux_rules.specs.Packets.{first_flags}

-- ---- the first packet
pub first_most_lem : (b : Bool) → (182 ≤ first_most b) × (first_most b ≤ 184)
unfolding first_most pick
first_most_lem true = (omega arith, omega arith)
first_most_lem false = (omega arith, omega arith)

module _ (u : TimedUnit) where
  pub header_long : length (header u) ≡ 9 + length (times u.pts u.dts)
  header_long = length_header u.pts u.dts (length u.carried)

  pub header_short : length (header u) ≤ 19
  header_short = elim (length_times u.pts u.dts) [ inl e ↦ omega (arith, header_long, e) | inr e ↦ omega (arith, header_long, e) ]

  -- it has the header, and the unit's first bytes
  abbrev pub first_bytes : ℕ
  first_bytes = first_most u.marked - length (header u)

  room : first_most u.marked ≡ length (header u) + first_bytes
  room = omega (arith, header_short, (first_most_lem u.marked).0)

  pub first_part : first_part_of u ≡ header u ++ take first_bytes u.carried
  first_part = ap (λ (n : ℕ). take n (pes u)) room ∙ take-append-add (header u) u.carried first_bytes

  pub other_parts_lem : other_parts u ≡ drop first_bytes u.carried
  other_parts_lem = ap (λ (n : ℕ). drop n (pes u)) room ∙ drop-append-add (header u) u.carried first_bytes

  pub first_short : length (first_part_of u) ≤ 184
  first_short = omega (arith, length-take (first_most u.marked) (pes u), (first_most_lem u.marked).1)

  pub first_some : 0 < length (first_part_of u)
  first_some = omega (arith, ap length first_part, length-append (header u) (take first_bytes u.carried), header_long)

  -- its flags say neither a discontinuity nor a PCR
  flags_by : (b : Bool) (x : Bool)
      → (bits 7 7 (pick b (1 * 2 ^ 6 + flag x * 2 ^ 5) 0) ≡ 0) × (bits 4 4 (pick b (1 * 2 ^ 6 + flag x * 2 ^ 5) 0) ≡ 0)
  unfolding pick
  flags_by true x = let f = flag_lt x in (omega arith, omega arith)
  flags_by false x = (refl, refl)

  pub first_steady : bits 7 7 (first_flags u) ≡ 0
  unfolding first_flags
  first_steady = (flags_by u.marked (within (unit_bytes u) (frame_place u.carried))).0

  pub first_clockless : bits 4 4 (first_flags u) ≡ 0
  unfolding first_flags
  first_clockless = (flags_by u.marked (within (unit_bytes u) (frame_place u.carried))).1

-- ---- the others
module _ (s : Bytes) (n : ℕ) (h : others_for (length s) ≡ suc n) where
  pub other_some : 0 < length (take most s)
  other_some = omega (arith, length-take most s)

  pub other_short : length (take most s) ≤ 184
  other_short = omega (arith, length-take most s)

  pub others_next : others_for (length (drop most s)) ≡ n
  others_next = omega (arith, length-drop most s)

pub others_none : (s : Bytes) → others_for (length s) ≡ 0 → s ≡ []
others_none [] h = refl
others_none (b ∷ s) h = absurd (omega arith)
