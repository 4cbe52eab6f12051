-- A PCR and a time stamp as they are written (13818-1 2.4.3.5 and 2.4.3.6). "Fields left free are 0, reserved bits 1"
-- (document 02, request 2026-01). It is proved that reading gives the ticks back (proofs/Writing.antt). Assumes
-- nothing.
use Rattle.std.specs.Prelude.{ℕ, ◌+◌, ◌*◌, ◌/◌, ◌%◌, ◌^◌, [], ◌∷◌}
use Rattle.lists.specs.Lists.{Bytes}
use Rattle.ticks.specs.declared.Ticks27.{Ticks27}
use Rattle.ticks.specs.declared.Ticks90.{Ticks90}

-- program_clock_reference_base and _extension: "base times 300 plus extension"
abbrev pub base : Ticks27 → ℕ
base t = t.0 / 300

abbrev pub extension : Ticks27 → ℕ
extension t = t.0 % 300

-- the base's 33 bits, six reserved bits, the extension's nine
abbrev pub pcr_bytes : Ticks27 → Bytes
pcr_bytes t =
    base t / 2 ^ 25
    ∷ base t / 2 ^ 17 % 256
    ∷ base t / 2 ^ 9 % 256
    ∷ base t / 2 % 256
    ∷ (base t % 2 * 2 ^ 7 + 0b111111 * 2 + extension t / 256)
    ∷ extension t % 256
    ∷ []

-- four bits of prefix, 3, 15 and 15 bits of time, a marker bit 1 after each of the three
abbrev pub time_bytes : ℕ → Ticks90 → Bytes
time_bytes prefix t =
    (prefix * 2 ^ 4 + t.0 / 2 ^ 30 * 2 + 1)
    ∷ t.0 / 2 ^ 22 % 256
    ∷ (t.0 / 2 ^ 15 % 128 * 2 + 1)
    ∷ t.0 / 2 ^ 7 % 256
    ∷ (t.0 % 128 * 2 + 1)
    ∷ []
