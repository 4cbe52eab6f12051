-- How many packets there are, and that each has 188 bytes. Assumes nothing.
use Prim.Native.Nat.{ℕ, zero, suc, ◌+◌, ◌*◌, ◌/◌, ◌%◌, ◌≤◌, ◌<◌}
use mathlib.Core.Bool.{true, false}
use mathlib.Core.Path.{◌≡◌, refl, sym, ap, ap₂, ◌∙◌}
use mathlib.Core.List.{List, [], ◌∷◌, ◌++◌, flatten, append_assoc}
use native.Mathlib.Omega.{arith}
use borrow.Author.Tests.{eq-eqb, ne_eqb, le-ltb}
use lib.Dec.{eqb, ltb}
use lib.ListN.{length, take, drop, length-append, length-take}
use Rattle.lists.specs.Lists.{Bytes}
use Rattle.refusal.specs.Verdict.{passed}
use Rattle.refusal.proofs.Verdicts.{All, not_given}
use Rattle.packet.specs.Writing.{most, counter_after}
use Rattle.packet.proofs.Packets.{Whole, length_flatten}
use Rattle.packet.proofs.Writing.{length_carrying}
use Rattle.psi.specs.Writing.{section_payload}
use Rattle.psi.proofs.Writing.{length_payload}
use Rattle.queue.specs.Queue.{TimedUnit}
use Rattle.segment_rules.specs.Check.{rule20, segment_length_wrong}
use Rattle.refusal.proofs.Verdicts.{all_append}
use Rattle.mux_rules.specs.declared.Channel.{Channel}
use Rattle.mux_rules.specs.Packets.{others_for, first_part_of, other_parts, first_flags, others, packets_for, unit_packets, units_packets}
use Rattle.mux_rules.specs.Packets.{section_packet, segment_packets, packets_for_units}
use Rattle.mux_rules.proofs.Cuts.{first_short}

pub section_whole : (pid counter : ℕ) (s : Bytes) → length s ≤ 183 → Whole (section_packet pid counter s)
unfolding section_packet
section_whole pid counter s h = length_carrying pid true counter 0 (section_payload s) (omega (arith, length_payload s h))

module _ (pid : ℕ) where
  pub others_whole : (n counter : ℕ) (s : Bytes) → All Whole (others n pid counter s)
  unfolding others
  others_whole zero counter s = tt
  others_whole (suc n) counter s = (
    length_carrying pid false counter 0 (take most s) (omega (arith, length-take most s)),
    others_whole n (counter_after counter 1)
        (drop most s),
  )

  pub unit_whole : (counter : ℕ) (u : TimedUnit) → All Whole (unit_packets pid counter u)
  unfolding unit_packets
  unit_whole counter u = (
    length_carrying pid true counter (first_flags u) (first_part_of u) (first_short u),
    others_whole (others_for (length (other_parts u))) (counter_after counter 1) (other_parts u),
  )

  pub units_whole : (counter : ℕ) (us : List TimedUnit) → All Whole (units_packets pid counter us)
  unfolding units_packets
  units_whole counter [] = tt
  units_whole counter (u ∷ us) =
      all_append Whole (unit_packets pid counter u) _ (unit_whole counter u) (units_whole (counter_after counter (packets_for u)) us)

  pub length_others : (n counter : ℕ) (s : Bytes) → length (others n pid counter s) ≡ n
  unfolding others
  length_others zero counter s = refl
  length_others (suc n) counter s = ap suc (length_others n (counter_after counter 1) (drop most s))

  -- a unit takes as many packets as are counted for it
  pub length_unit : (counter : ℕ) (u : TimedUnit) → length (unit_packets pid counter u) ≡ packets_for u
  unfolding unit_packets
  length_unit counter u = ap suc (length_others (others_for (length (other_parts u))) (counter_after counter 1) (other_parts u))

  pub length_units : (counter : ℕ) (us : List TimedUnit) → length (units_packets pid counter us) ≡ packets_for_units us
  unfolding units_packets packets_for_units
  length_units counter [] = refl
  length_units counter (u ∷ us) =
      length-append (unit_packets pid counter u) (units_packets pid (counter_after counter (packets_for u)) us)
      ∙ ap₂ (λ (x y : ℕ). x + y) (length_unit counter u) (length_units (counter_after counter (packets_for u)) us)

-- PAT, PMT and PCR, and those of the units
pub length_segment : (c : Channel) (d : Bytes) (us : List TimedUnit) → length (segment_packets c d us) ≡ 3 + packets_for_units us
unfolding segment_packets
length_segment c d us = omega (arith, length_units c.av1_pid c.av1_counter us)

-- ---- the bytes as packets
pub flat_length : (ps : List Bytes) → All Whole ps → length (flatten ps) ≡ 188 * length ps
flat_length ps h = omega (arith, length_flatten ps h)

pub flat_append : (ps qs : List Bytes) → flatten (ps ++ qs) ≡ flatten ps ++ flatten qs
unfolding flatten
flat_append [] qs = refl
flat_append (p ∷ ps) qs = ap (λ (x : Bytes). p ++ x) (flat_append ps qs) ∙ sym (append_assoc p (flatten ps) (flatten qs))

-- 20 does not apply
pub whole_segment : (ps : List Bytes) → All Whole ps → 0 < length ps → length ps ≤ 65535 → rule20 (flatten ps) ≡ passed tt
unfolding segment_length_wrong
whole_segment ps h one most =
    let l = flat_length ps h in
    let a : eqb (length (flatten ps)) 0 ≡ false = ne_eqb (length (flatten ps)) 0 (λ (e : length (flatten ps) ≡ 0). omega arith) in
    let b : eqb (length (flatten ps) % 188) 0 ≡ true = eq-eqb (length (flatten ps) % 188) 0 (omega arith) in
    let f : ltb 65535 (length (flatten ps) / 188) ≡ false = le-ltb 65535 (length (flatten ps) / 188) (omega arith) in
    not_given 20 _ (rw (a, b, f))
