-- Counting packets from the front: what is counted, and the count of the rest, is the count of all. Assumes nothing.
use Prim.Native.Nat.{ℕ, zero, suc, ◌+◌, ◌-◌, ◌*◌, ◌/◌, ◌≤◌, ◌<◌}
use mathlib.Core.Bool.{true, false}
use mathlib.Core.Path.{◌≡◌, refl, ap, subst, subst₂}
use mathlib.Core.List.{List, ◌∷◌}
use native.Mathlib.Omega.{arith}
use lib.ListN.{length, take, drop}
use lib.Seq.{drop-drop}
use Rattle.lists.specs.Lists.{Bytes, those}
use Rattle.lists.proofs.Elements.{those_first, those_others}
use Rattle.packet.specs.Header.{packet_length, packets_of, passes}
use Rattle.measured.specs.Headers.{headers_passed}

-- before `at` are `count` packets that pass, from it on `left` packets
pub record Counted (s : Bytes) (count at left : ℕ) : Type 0 where
  sum : count + length (those passes (packets_of left (drop at s))) ≡ headers_passed s
  pub within : at + left * packet_length ≤ length s
  pub few : count ≤ at

pub start : (s : Bytes) → Counted s 0 0 (length s / packet_length - 0)
start s =
    let all : ℕ = length s / packet_length in
    let e : all ≡ all - 0 = omega arith in
    let begun : Counted s 0 0 all = record { sum = omega arith; within = omega arith; few = omega arith } in
    subst (λ (left : ℕ). Counted s 0 0 left) e begun

-- the next packet, as the code lends it
abbrev packet_at : Bytes → ℕ → Bytes
packet_at s at = take (at + packet_length - at) (drop at s)

ahead : (s : Bytes) (at left : ℕ) → 0 < left → packets_of left (drop at s)
    ≡ packet_at s at ∷ packets_of (left - 1) (drop (at + packet_length) s)
unfolding packets_of
ahead s at zero h = absurd (omega arith)
ahead s at (suc n) h =
    let e : suc n - 1 ≡ n = omega arith in
    let f : at + packet_length - at ≡ packet_length = omega arith in
    rw (e, f, drop-drop packet_length at s)

module _ {s : Bytes} {count at left : ℕ} (k : Counted s count at left) (h : 0 < left) where
  -- it passes
  pub one_more : passes (packet_at s at) ≡ true → Counted s (count + 1) (at + packet_length) (left - 1)
  one_more p =
      let e = ap (λ (l : List Bytes). length (those passes l)) (ahead s at left h) in
      let f = ap length (those_first passes (packet_at s at) (packets_of (left - 1) (drop (at + packet_length) s)) p) in
      record { sum = omega (arith, k.sum, e, f); within = omega (arith, k.within); few = omega (arith, k.few) }

  -- it does not
  pub no_more : passes (packet_at s at) ≡ false → Counted s count (at + packet_length) (left - 1)
  no_more p =
      let e = ap (λ (l : List Bytes). length (those passes l)) (ahead s at left h) in
      let f = ap length (those_others passes (packet_at s at) (packets_of (left - 1) (drop (at + packet_length) s)) p) in
      record { sum = omega (arith, k.sum, e, f); within = omega (arith, k.within); few = omega (arith, k.few) }

-- the same by the index of the packet
pub by_index : {s : Bytes} {count : ℕ} (i end : ℕ) → Counted s count (i * packet_length + packet_length) (end - i - 1)
    → Counted s count ((i + 1) * packet_length) (end - (i + 1))
by_index {s} {count} i end k =
    let e : i * packet_length + packet_length ≡ (i + 1) * packet_length = omega arith in
    let f : end - i - 1 ≡ end - (i + 1) = omega arith in
    subst₂ (λ (at left : ℕ). Counted s count at left) e f k

-- nothing is left
none_ahead : (s : Bytes) (left : ℕ) → left ≤ 0 → length (those passes (packets_of left s)) ≡ 0
unfolding packets_of those
none_ahead s zero h = refl
none_ahead s (suc n) h = absurd (omega arith)

pub finish : {s : Bytes} {count at left : ℕ} → Counted s count at left → left ≤ 0 → count ≡ headers_passed s
finish {s} {count} {at} {left} k h = omega (arith, k.sum, none_ahead (drop at s) left h)
