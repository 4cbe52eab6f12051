-- A PES header as the segment writer writes it (13818-1 2.4.3.6). The words of document 02, request 2026-01, stand
-- over each
-- definition. "Fields left free are 0, reserved bits 1." It is proved that reading gives back what was written
-- (proofs/Writing.antt). Assumes nothing.
use Rattle.std.specs.Prelude.{ℕ, ◌+◌, ◌*◌, ◌/◌, ◌%◌, ◌^◌, Bool, ◌∷◌, ◌++◌, eqb, ltb, length}
use Rattle.lists.specs.Lists.{Bytes, pick}
use Rattle.ticks.specs.declared.Ticks90.{Ticks90}
use Rattle.ticks.specs.Writing.{time_bytes}

-- of these two times
module _ (pts dts : Ticks90) where
  -- "DTS is written where it differs from PTS"
  abbrev pub pts_alone : Bool
  pts_alone = eqb pts.0 dts.0

  -- a PTS alone has the prefix 0010; one that a DTS follows has 0011, and the DTS 0001
  unfoldable pub times : Bytes
  times = pick pts_alone (time_bytes 0b0010 pts) (time_bytes 0b0011 pts ++ time_bytes 0b0001 dts)

  -- PTS_DTS_flags
  unfoldable pub time_flags : ℕ
  time_flags = pick pts_alone 0b10 0b11

  -- PES_packet_length counts the bytes after it, which are three, the time stamps and so many of the unit
  abbrev pub bytes_after : ℕ → ℕ
  bytes_after n = 3 + length times + n

  -- "a PES length above 65,535 is written as 0"
  unfoldable pub length_written : ℕ → ℕ
  length_written n = pick (ltb 65535 (bytes_after n)) 0 (bytes_after n)

  -- the header of a PES with a unit of n bytes: 00 00 01 BD, the length; the bits 10, scrambling 00, priority 0,
  -- data_alignment 1, two bits 0; the flags; the length byte and the time stamps
  unfoldable pub pes_header : ℕ → Bytes
  pes_header n =
      0x00
      ∷ 0x00
      ∷ 0x01
      ∷ 0xBD
      ∷ length_written n / 256
      ∷ length_written n % 256
      ∷ (0b10 * 2 ^ 6 + 1 * 2 ^ 2)
      ∷ time_flags * 2 ^ 6
      ∷ length times
      ∷ times
