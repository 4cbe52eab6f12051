-- A packet with payload, without an adaptation field and not scrambled, as the upper half of its fourth byte says: nothing of it is wrong
-- by 23, and what it says lies in its first four bytes. Assumes nothing.
use Rattle.std.specs.Prelude.{Some, None}
use Prim.Native.Nat.{ℕ, ◌/◌, ◌%◌}
use mathlib.Core.Bool.{true, false, not, and-false}
use mathlib.Core.Path.{◌≡◌, ap}
use native.Mathlib.Omega.{arith}
use lib.Dec.{eqb}
use Rattle.lists.specs.Lists.{Bytes, pick}
use Rattle.lists.specs.Bytes.{byte}
use Rattle.lists.proofs.Tests.{case}
use Rattle.packet.specs.Header.{payload_unit_start_indicator, pid, null_pid, transport_scrambling_control, adaptation_field_control}
use Rattle.packet.specs.Header.{continuity_counter, has_adaptation_field, has_payload, adaptation_flags, pcr, header_length, payload_place}
use Rattle.packet.specs.Header.{fields_wrong, header_wrong, fields}

module _ (p : Bytes) (e : byte p 3 / 16 ≡ 1) where
  unscrambled : transport_scrambling_control p ≡ 0
  unscrambled = omega arith

  control : adaptation_field_control p ≡ 1
  control = ap (λ (n : ℕ). n % 4) e

  no_field : has_adaptation_field p ≡ false
  no_field = let z : byte p 3 / 32 ≡ 0 = omega arith in ap (λ (n : ℕ). eqb (n % 2) 1) z

  has_payload_lem : has_payload p ≡ true
  has_payload_lem = ap (λ (n : ℕ). eqb (n % 2) 1) e

  no_flags : adaptation_flags p ≡ 0
  unfolding adaptation_flags pick
  no_flags = rw no_field

  no_clock : pcr p ≡ None
  unfolding pcr pick
  no_clock = case (eqb (pid p) null_pid) (λ t. rw t) (λ t. rw (t, no_flags))

  place : payload_place p ≡ Some 4
  unfolding payload_place header_length pick
  place = rw (has_payload_lem, no_field)

  pub plain_right : header_wrong p ≡ false
  unfolding fields_wrong
  plain_right = rw (unscrambled, control, no_flags) (and-false (not (eqb (pid p) null_pid)))

  pub plain_fields : fields p
      ≡ record {
        pid = pid p;
        start = payload_unit_start_indicator p;
        counter = continuity_counter p;
        discontinuity = false;
        pcr = None;
        payload = Some 4;
      }
  plain_fields = rw (no_flags, no_clock, place)
