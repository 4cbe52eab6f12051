-- What send writes, packet by packet. The words of document 02, request 2026-01, stand over each definition. Assumes
-- nothing.
use Rattle.std.specs.Prelude.{ℕ, zero, suc, ◌+◌, ◌-◌, ◌*◌, ◌/◌, ◌^◌, Bool, true, false, ltb, length, take, drop}
use Rattle.std.specs.Prelude.{Option, Some, None}
use mathlib.Core.List.{List, [], ◌∷◌, ◌++◌, flatten}
use Rattle.lists.specs.Lists.{Bytes, pick}
use Rattle.packet.specs.Writing.{flag, most, carrying, pcr_packet, counter_after, counter_before}
use Rattle.psi.specs.Writing.{section_payload, pat}
use Rattle.pmt.specs.Writing.{pmt}
use Rattle.pes.specs.Writing.{pes_header}
use Rattle.comparison.specs.Comparison.{is_frame}
use Rattle.tsobu.specs.StartCodes.{start_codes}
use Rattle.unit.specs.Unit.{obus_in}
use Rattle.queue.specs.Queue.{TimedUnit}
use Rattle.mux_rules.specs.declared.Channel.{Channel}

-- ---- one PES a unit
abbrev pub header : TimedUnit → Bytes
header u = pes_header u.pts u.dts (length u.carried)

abbrev pub pes : TimedUnit → Bytes
pes u = header u ++ u.carried

-- "marked, its first packet has an adaptation field with random_access_indicator 1": of its two bytes, the first packet
-- has so many fewer bytes of the PES
unfoldable pub first_most : Bool → ℕ
first_most marked = pick marked (most - 2) most

abbrev pub first_part_of : TimedUnit → Bytes
first_part_of u = take (first_most u.marked) (pes u)

abbrev pub other_parts : TimedUnit → Bytes
other_parts u = drop (first_most u.marked) (pes u)

-- "in as few packets as possible, only the last stuffed": the first, and as many others as the other bytes take. It is
-- proved that no fewer packets carry a unit's PES (`Fewest` in Claim.antt).
abbrev pub others_for : ℕ → ℕ
others_for n = (n + (most - 1)) / most

abbrev pub packets_for : TimedUnit → ℕ
packets_for u = suc (others_for (length (other_parts u)))

-- ---- "where the start code of its first type 3 or 6 OBU begins there"
-- the first start code that begins one, of start codes and their OBUs in turn
unfoldable pub first_frame : List ℕ → List Bytes → Option ℕ
first_frame [] obus = None
first_frame (code ∷ codes) [] = None
first_frame (code ∷ codes) (obu ∷ obus) = pick (is_frame obu) (Some code) (first_frame codes obus)

abbrev pub frame_place : Bytes → Option ℕ
frame_place carried = first_frame (start_codes carried) (obus_in carried)

-- it is one of the first n bytes
abbrev pub within : ℕ → Option ℕ → Bool
within n None = false
within n (Some place) = ltb place n

-- the first packet has so many of the unit's bytes
abbrev pub unit_bytes : TimedUnit → ℕ
unit_bytes u = length (first_part_of u) - length (header u)

-- random_access_indicator, and elementary_stream_priority_indicator; a unit that is not marked has neither
unfoldable pub first_flags : TimedUnit → ℕ
first_flags u = pick u.marked (1 * 2 ^ 6 + flag (within (unit_bytes u) (frame_place u.carried)) * 2 ^ 5) 0

-- ---- the packets
-- those after a PES's first: so many, each with the next bytes and the next counter
unfoldable pub others : ℕ → ℕ → ℕ → Bytes → List Bytes
others zero pid counter s = []
others (suc n) pid counter s =
    carrying pid false counter 0 (take most s) ∷ others n pid (counter_after counter 1) (drop most s)

unfoldable pub unit_packets : ℕ → ℕ → TimedUnit → List Bytes
unit_packets pid counter u =
    carrying pid true counter (first_flags u) (first_part_of u)
    ∷ others (others_for (length (other_parts u))) pid (counter_after counter 1) (other_parts u)

-- "then one PES a unit": oldest first
unfoldable pub units_packets : ℕ → ℕ → List TimedUnit → List Bytes
units_packets pid counter [] = []
units_packets pid counter (u ∷ us) =
    unit_packets pid counter u ++ units_packets pid (counter_after counter (packets_for u)) us

-- the packet of a section
unfoldable pub section_packet : ℕ → ℕ → Bytes → Bytes
section_packet pid counter s = carrying pid true counter 0 (section_payload s)

-- "Send writes PAT, PMT with one AV1 entry (registration, then the caller's video descriptor bytes as given), a PCR in
-- a packet without payload on the AV1 PID, which is the PCR PID, then one PES a unit"; "the PCR packet carries one less
-- modulo 16"
unfoldable pub segment_packets : Channel → Bytes → List TimedUnit → List Bytes
segment_packets c descriptor units =
    section_packet 0 c.pat_counter (pat c.program c.map_pid)
    ∷ section_packet c.map_pid c.map_counter (pmt c.program c.av1_pid descriptor)
    ∷ pcr_packet c.av1_pid (counter_before c.av1_counter) c.pcr
    ∷ units_packets c.av1_pid c.av1_counter units

abbrev pub segment : Channel → Bytes → List TimedUnit → Bytes
segment c descriptor units = flatten (segment_packets c descriptor units)

-- how many packets the units take
unfoldable pub packets_for_units : List TimedUnit → ℕ
packets_for_units [] = 0
packets_for_units (u ∷ us) = packets_for u + packets_for_units us

-- "send hands the next counters back": each PID's counter for its next payload, after the tables' packets and so many
-- of units
abbrev pub channel_after : Channel → ℕ → Channel
channel_after c n =
    record {
      program = c.program;
      map_pid = c.map_pid;
      av1_pid = c.av1_pid;
      pcr = c.pcr;
      pat_counter = counter_after c.pat_counter 1;
      map_counter = counter_after c.map_counter 1;
      av1_counter = counter_after c.av1_counter n;
    }

abbrev pub next_channel : Channel → List TimedUnit → Channel
next_channel c units = channel_after c (packets_for_units units)
