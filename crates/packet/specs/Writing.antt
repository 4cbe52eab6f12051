-- Packets as the segment writer writes them: header and adaptation field (13818-1 2.4.3.2 to 2.4.3.5). The words of
-- document 02, request 2026-01, stand over each definition. "Fields left free are 0, reserved bits 1, stuffing 0xFF."
-- It is
-- proved that reading gives back what was written (proofs/Writing.antt, proofs/WritingClocks.antt). Assumes nothing.
use Rattle.std.specs.Prelude.{ℕ, zero, suc, ◌+◌, ◌-◌, ◌*◌, ◌/◌, ◌%◌, ◌^◌, Bool, false, [], ◌∷◌, ◌++◌, length, replicate}
use Rattle.lists.specs.Lists.{Bytes, pick}
use Rattle.ticks.specs.declared.Ticks27.{Ticks27}
use Rattle.ticks.specs.Writing.{pcr_bytes}

-- a flag as a number
unfoldable pub flag : Bool → ℕ
flag b = pick b 1 0

-- "stuffing 0xFF": so many bytes
abbrev pub stuffing : ℕ → Bytes
stuffing n = replicate n 0xFF

-- the header: 0x47; transport_error_indicator 0, payload_unit_start_indicator, transport_priority 0 and the upper five
-- bits of the PID, the others; transport_scrambling_control 0, adaptation_field_control and the counter
abbrev pub header : ℕ → Bool → ℕ → ℕ → Bytes
header pid start control counter =
    0x47 ∷ (flag start * 2 ^ 6 + pid / 256) ∷ pid % 256 ∷ (control * 2 ^ 4 + counter) ∷ []

-- ---- counters
-- "each PID's counter for its next payload", after so many payloads more
abbrev pub counter_after : ℕ → ℕ → ℕ
counter_after counter n = (counter + n) % 16

-- "one less modulo 16"
abbrev pub counter_before : ℕ → ℕ
counter_before counter = (counter + 15) % 16

-- ---- without payload
-- "a PCR in a packet without payload": its adaptation field has 183 bytes after the length, which are the flags
-- (PCR_flag alone is set), the PCR and stuffing
unfoldable pub pcr_packet : ℕ → ℕ → Ticks27 → Bytes
pcr_packet pid counter t = header pid false 0b10 counter ++ (183 ∷ 2 ^ 4 ∷ pcr_bytes t ++ stuffing 176)

-- ---- with payload
-- the bytes of a packet after its header
abbrev pub most : ℕ
most = 184

-- an adaptation field that takes so many bytes, its length byte among them: none; the length 0 alone; or the length,
-- the
-- flags and stuffing
unfoldable pub adaptation_field : ℕ → ℕ → Bytes
adaptation_field zero flags = []
adaptation_field (suc zero) flags = 0 ∷ []
adaptation_field (suc (suc n)) flags = suc n ∷ flags ∷ stuffing n

-- adaptation_field_control, where the field takes so many bytes: payload alone, or both
unfoldable pub control : ℕ → ℕ
control zero = 0b01
control (suc n) = 0b11

-- a packet with this payload, which has at most 184 bytes: an adaptation field with these flags takes the bytes that
-- are
-- left
unfoldable pub carrying : ℕ → Bool → ℕ → ℕ → Bytes → Bytes
carrying pid start counter flags part =
    header pid start (control (most - length part)) counter ++ (adaptation_field (most - length part) flags ++ part)
