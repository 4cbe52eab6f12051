-- Sections and the PAT as the segment writer writes them (13818-1 2.4.4). The words of document 02, request 2026-01,
-- stand
-- over each definition. "Fields left free are 0, reserved bits 1, stuffing 0xFF." It is proved that reading gives back
-- what
-- was written (proofs/Writing.antt). Assumes nothing.
use Rattle.std.specs.Prelude.{ℕ, ◌+◌, ◌-◌, ◌*◌, ◌/◌, ◌%◌, ◌^◌, [], ◌∷◌, ◌++◌, length, replicate}
use Rattle.lists.specs.Lists.{Bytes}
use Rattle.crc.specs.Crc.{crc_bytes}

-- a PID of 13 bits after three reserved bits, a length of 12 bits after four
abbrev pub pid_bytes : ℕ → Bytes
pid_bytes pid = (0b111 * 2 ^ 5 + pid / 256) ∷ pid % 256 ∷ []

abbrev pub length_bytes : ℕ → Bytes
length_bytes n = (0b1111 * 2 ^ 4 + n / 256) ∷ n % 256 ∷ []

-- ---- a section
-- the eight bytes that both tables begin with: table_id; section_syntax_indicator 1, a zero bit, two reserved bits and
-- section_length; table_id_extension; two reserved bits, version_number 0 and current_next_indicator 1; section_number
-- and
-- last_section_number 0. Of n bytes that follow these up to the CRC, which itself has four
abbrev pub section_start : ℕ → ℕ → ℕ → Bytes
section_start table extension n =
    table
    ∷ (0b1011 * 2 ^ 4 + (9 + n) / 256)
    ∷ (9 + n) % 256
    ∷ extension / 256
    ∷ extension % 256
    ∷ (0b11 * 2 ^ 6 + 1)
    ∷ 0
    ∷ 0
    ∷ []

-- the section without its CRC
abbrev pub section_body : ℕ → ℕ → Bytes → Bytes
section_body table extension rest = section_start table extension (length rest) ++ rest

abbrev pub section : ℕ → ℕ → Bytes → Bytes
section table extension rest = section_body table extension rest ++ crc_bytes (section_body table extension rest)

-- the payload of its packet, 184 bytes: the pointer 0, the section, and stuffing in the rest
abbrev pub section_payload : Bytes → Bytes
section_payload s = 0 ∷ s ++ replicate (183 - length s) 0xFF

-- ---- the PAT: of transport_stream_id 0, one program with its map PID
abbrev pub pat_rest : ℕ → ℕ → Bytes
pat_rest program map_pid = program / 256 ∷ program % 256 ∷ pid_bytes map_pid

abbrev pub pat : ℕ → ℕ → Bytes
pat program map_pid = section 0 0 (pat_rest program map_pid)
