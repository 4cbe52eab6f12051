-- The PCR packet that the segment writer writes is read as one without payload (`pcr_reads`) that has the PCR (`pcr_is_lem`). Assumes
-- nothing.
use Rattle.std.specs.Prelude.{Some}
use Prim.Native.Nat.{ℕ, ◌^◌, ◌<◌}
use mathlib.Core.Bool.{true, false}
use mathlib.Core.Path.{◌≡◌, refl, sym, ap, ◌∙◌}
use mathlib.Core.List.{◌∷◌, ◌++◌}
use native.Mathlib.Omega.{arith}
use borrow.Author.Tests.{eq-eqb, ne_eqb, le-ltb}
use lib.ListN.{length}
use Rattle.lists.specs.Lists.{Bytes}
use Rattle.lists.specs.Bytes.{byte, bits}
use Rattle.lists.proofs.Picks.{by_true, by_false}
use Rattle.lists.proofs.Tests.{and_by_true}
use Rattle.ticks.specs.declared.Ticks27.{Ticks27}
use Rattle.packet.specs.Header as packet
use Rattle.packet.specs.Header.{pcr, null_pid, adaptation_flags}
use Rattle.packet.proofs.Headers.{control_10}
use Rattle.ticks.specs.Writing.{extension, pcr_bytes}
use Rattle.ticks.proofs.Writing.{clock_back}
use Rattle.packet.specs.Writing.{stuffing, header, pcr_packet}
use Rattle.packet.proofs.Writing.{Head, head, Reads, passing, has_field, no_payload, flags_some, length_stuffing}

module _ (q counter : ℕ) (t : Ticks27) (hq : q < 8192) (hc : counter < 16) where
  abbrev rest : Bytes
  rest = 183 ∷ 2 ^ 4 ∷ pcr_bytes t ++ stuffing 176

  abbrev whole : Bytes
  whole = header q false 0b10 counter ++ rest

  abbrev h : Head whole q false 2 counter
  h = head q false 2 counter rest hq (omega arith) hc

  flags_clock : adaptation_flags whole ≡ 16
  flags_clock = flags_some whole (has_field h (omega arith) refl) (omega arith)

  flag_clock : packet.pcr_flag whole ≡ true
  flag_clock = eq-eqb (bits 4 4 (adaptation_flags whole)) 1 (ap (bits 4 4) flags_clock)

  extension_back : packet.clock_extension whole ≡ extension t
  extension_back = omega arith

  pub pcr_reads : Reads (pcr_packet q counter t) q false counter true
  unfolding pcr_packet
  pcr_reads =
      record {
        passes =
            passing h (λ e. omega arith) (sym (control_10 {control = bits 5 4 (byte whole 3)} {n = byte whole 4} h.control refl))
            (sym (and_by_true flag_clock refl))
            (sym (and_by_true flag_clock (sym (le-ltb 299 (packet.clock_extension whole) (omega (arith, extension_back))))));
        pid = h.pid;
        starts = h.starts;
        counter = h.counter;
        steady = ne_eqb (bits 7 7 (adaptation_flags whole)) 1 (λ z. omega (arith, ap (bits 7 7) flags_clock));
        clock = flag_clock;
      }

  pub pcr_empty : packet.has_payload (pcr_packet q counter t) ≡ false
  unfolding pcr_packet
  pcr_empty = no_payload h (omega arith) refl

  -- "a PCR": the caller's
  pub pcr_is_lem : (q ≡ null_pid → ⊥) → pcr (pcr_packet q counter t) ≡ Some t
  unfolding pcr_packet pcr
  pcr_is_lem n =
      sym (by_false _ (ne_eqb (packet.pid whole) null_pid (λ e. n (sym h.pid ∙ e)))
      (by_true _ flag_clock (ap Some (sym (clock_back t)))))

pub length_pcr : (q counter : ℕ) (t : Ticks27) → length (pcr_packet q counter t) ≡ 188
unfolding pcr_packet
length_pcr q counter t = omega (arith, length_stuffing 176)
