-- The PMT as the segment writer writes it (13818-1 2.4.4.8). The words of document 02, request 2026-01, stand over each
-- definition. "Fields left free are 0, reserved bits 1." It is proved that reading gives back what was written
-- (proofs/Writing.antt). Assumes nothing.
use Rattle.std.specs.Prelude.{ℕ, [], ◌∷◌, ◌++◌, length}
use Rattle.lists.specs.Lists.{Bytes}
use Rattle.descriptor.specs.Descriptor.{registration, av01}
use Rattle.psi.specs.Writing.{pid_bytes, length_bytes, section}
use Rattle.pmt.specs.Pmt.{MapEntry, MapContent}

-- "one AV1 entry (registration, then the caller's video descriptor bytes as given)": its descriptors
abbrev pub info : Bytes → Bytes
info descriptor = registration av01 ++ descriptor

-- "the AV1 PID, which is the PCR PID": the PCR PID, no descriptors of the program, and the one entry, of stream_type
-- 0x06
abbrev pub pmt_rest : ℕ → Bytes → Bytes
pmt_rest pid descriptor =
    pid_bytes pid
    ++ (length_bytes 0 ++ (0x06 ∷ pid_bytes pid ++ (length_bytes (length (info descriptor)) ++ info descriptor)))

abbrev pub pmt : ℕ → ℕ → Bytes → Bytes
pmt program pid descriptor = section 2 program (pmt_rest pid descriptor)

-- what it says: the one entry, which is the AV1 entry
abbrev pub entry_for : ℕ → Bytes → MapEntry
entry_for pid descriptor =
    record { stream_type = 0x06; pid = pid; descriptors = registration av01 ∷ descriptor ∷ [] }

abbrev pub map_for : ℕ → Bytes → MapContent
map_for pid descriptor =
    record { pcr_pid = pid; entries = entry_for pid descriptor ∷ []; av1 = entry_for pid descriptor }
