-- The loop over the packets after a PES's first: what is written, then the packets of the bytes to come, are the packets of the whole.
-- Assumes nothing.
use Prim.Native.Nat.{ℕ, zero, suc, ◌+◌, ◌-◌, ◌*◌, ◌≤◌, ◌<◌}
use mathlib.Core.Bool.{false}
use mathlib.Core.Path.{◌≡◌, refl, sym, ap, ap₂, ◌∙◌}
use mathlib.Core.List.{[], ◌++◌, flatten, append-nil, append_assoc}
use native.Mathlib.Omega.{arith}
use lib.ListN.{length, take, drop, length-append, length-drop, length-take, drop_of_length-le}
use lib.Seq.{take-append_seam, drop-append_seam, take_all}
use Rattle.std.proofs.lemmas.List.{nil_from_length}
use borrow.Rule.Slice.PartMut.{mid_of, put_mid}
use Rattle.lists.specs.Lists.{Bytes, over}
use borrow.Author.Tests.{ltb-true, ltb-false}
use lib.Dec.{ltb}
use Rattle.lists.proofs.Tests.{case}
use Rattle.std.specs.Prelude.{min}
use Rattle.packet.specs.Writing.{most, carrying, counter_after}
use Rattle.mux_rules.specs.Packets.{others_for, others}
use Rattle.packet.proofs.Writing.{length_carrying}
use Rattle.mux_rules.proofs.Cuts.{others_next}
use Rattle.mux_rules.proofs.Counts.{others_whole, length_others}
use Rattle.mux_rules.proofs.Counts.{flat_length}
use Rattle.packet_writer.specs.Putting.{packet_put}
use Rattle.lists.proofs.Writing.{length_over}
use Rattle.packet_writer.proofs.Puts.{put_next}
use Rattle.packet_writer.proofs.Fitting.{packet_written}

-- the packets of the bytes from a place on
abbrev pub from : ℕ → ℕ → Bytes → Bytes
from pid counter s = flatten (others (others_for (length s)) pid counter s)

pub record Going (pid counter : ℕ) (bytes out₀ left : Bytes) (to next : ℕ) (out : Bytes) : Type 0 where
  pub written : Bytes
  pub stands : out ≡ over written out₀
  pub place : to ≡ length written
  pub rest : written ++ from pid next left ≡ from pid counter bytes
  pub low : next < 16

pub going_start : (pid counter : ℕ) (bytes out : Bytes) → counter < 16 → Going pid counter bytes out bytes 0 counter out
going_start pid counter bytes out h = record { written = []; stands = refl; place = refl; rest = refl; low = h }

-- the length of all
from_length : (pid counter : ℕ) (s : Bytes) → length (from pid counter s) ≡ 188 * others_for (length s)
from_length pid counter s =
    flat_length (others (others_for (length s)) pid counter s) (others_whole pid (others_for (length s)) counter s)
    ∙ ap (λ (n : ℕ). 188 * n) (length_others pid (others_for (length s)) counter s)

-- the packets of some bytes are one, and those of the rest
one_of : (pid counter : ℕ) (s : Bytes) → 0 < length s
    → from pid counter s ≡ carrying pid false counter 0 (take most s) ++ from pid (counter_after counter 1) (drop most s)
unfolding others flatten
one_of pid counter s h = by (others_for (length s)) refl
  where
    by : (n : ℕ) → others_for (length s) ≡ n
        → from pid counter s ≡ carrying pid false counter 0 (take most s) ++ from pid (counter_after counter 1) (drop most s)
    by zero e = absurd (omega arith)
    by (suc n) e =
        ap (λ (k : ℕ). flatten (others k pid counter s)) e
        ∙ ap (λ (k : ℕ). carrying pid false counter 0 (take most s) ++ flatten (others k pid (counter_after counter 1) (drop most s)))
        (sym (others_next s n e))

-- a chunk is the next part, of 184 bytes or of all that are left
pub chunk_is : (left chunk behind : Bytes) → left ≡ chunk ++ behind → length chunk ≡ min 184 (length left)
    → (chunk ≡ take most left) × (behind ≡ drop most left)
chunk_is left chunk behind e n =
    case (ltb 184 (length left)) (λ t. whole (ltb-true 184 (length left) t)) (λ t. last (ltb-false 184 (length left) t))
  where
    whole : 184 < length left → (chunk ≡ take most left) × (behind ≡ drop most left)
    whole h =
        let k : length chunk ≡ 184 = omega arith in (
          sym (take-append_seam chunk behind) ∙ ap₂ take k (sym e),
          sym (drop-append_seam chunk behind) ∙ ap₂ drop k (sym e),
        )

    last : length left ≤ 184 → (chunk ≡ take most left) × (behind ≡ drop most left)
    last h =
        let z : behind ≡ [] = nil_from_length behind (omega (arith, n, h, ap length e, length-append chunk behind)) in (
          sym (append-nil chunk) ∙ ap (λ (x : Bytes). chunk ++ x) (sym z) ∙ sym e ∙ sym (take_all 184 left h),
          z ∙ sym (drop_of_length-le left {i = 184} h),
        )

nothing : (pid counter : ℕ) → from pid counter [] ≡ []
unfolding others flatten
nothing pid counter = refl

-- what a call is lent
mid_room : (out : Bytes) (to : ℕ) → to + 188 ≤ length out → 188 ≤ length (mid_of to (length out - to) out)
mid_room out to h = omega (arith, length-take (length out - to) (drop to out), length-drop to out)

module _ {pid counter : ℕ} {bytes out₀ left : Bytes} {to next : ℕ} {out : Bytes} (g : Going pid counter bytes out₀ left to next out)
    (fits : 188 * others_for (length bytes) ≤ length out₀) where
  pub going_long : length out ≡ length out₀
  going_long =
      ap length g.stands
      ∙ length_over g.written out₀
      (omega (arith, ap length g.rest ∙ from_length pid counter bytes, length-append g.written (from pid next left)))

  -- there is room for one more packet
  pub going_room : 0 < length left → to + 188 ≤ length out₀
  going_room h =
      let p = carrying pid false next 0 (take most left) in
      omega (
        arith,
        ap length g.rest ∙ from_length pid counter bytes,
        ap length (one_of pid next left h),
        length-append g.written (from pid next left),
        length-append p (from pid (counter_after next 1) (drop most left)),
        length_carrying pid false next 0 (take most left) (omega (arith, length-take most left)),
        g.place,
      )

  -- as the packet of the next chunk is put, and the next counter is named
  pub going_on : (chunk behind after : Bytes) (next' : ℕ) → left ≡ chunk ++ behind → length chunk ≡ min 184 (length left) → 0 < length left
      → pid < 8192 → after ≡ packet_put pid next chunk (mid_of to (length out - to) out) → next' ≡ counter_after next 1
      → Going pid counter bytes out₀ behind (to + 188) next' (put_mid to (length out - to) out after)
  going_on chunk behind after next' el en h p ea e =
      let parts = chunk_is left chunk behind el en in
      let packet = carrying pid false next 0 chunk in
      let small : length chunk ≤ 184 = omega (arith, en) in
      let long = length_carrying pid false next 0 chunk small in
      let room = mid_room out to (omega (arith, going_room h, going_long)) in
      let one : from pid next left ≡ packet ++ from pid (counter_after next 1) behind =
      one_of pid next left h
      ∙ ap₂ (λ (x y : Bytes). carrying pid false next 0 x ++ from pid (counter_after next 1) y) (sym parts.0) (sym parts.1) in
      record {
        written = g.written ++ packet;
        stands =
            put_next g.written packet out₀ out after to g.place g.stands (omega (arith, going_room h, g.place, long))
            (ea ∙ packet_written pid next chunk _ p g.low small room);
        place = omega (arith, length-append g.written packet, g.place, long);
        rest =
            ap (λ (k : ℕ). (g.written ++ packet) ++ from pid k behind) e
            ∙ append_assoc g.written packet (from pid (counter_after next 1) behind)
            ∙ ap (λ (x : Bytes). g.written ++ x) (sym one) ∙ g.rest;
        low = omega (arith, e);
      }

  pub going_done : left ≡ [] → out ≡ over (from pid counter bytes) out₀
  going_done h =
      let z : from pid next left ≡ [] = ap (from pid next) h ∙ nothing pid next in
      g.stands ∙ ap (λ (w : Bytes). over w out₀) (sym (append-nil g.written) ∙ ap (λ (x : Bytes). g.written ++ x) (sym z) ∙ g.rest)
