-- Small segments, checked by the definitions themselves: the statement holds by computation. Assumes nothing.
use Rattle.std.specs.Prelude.{Option, Some, None}
use Prim.Native.Nat.{ℕ, zero, suc, ◌+◌, ◌-◌, ◌/◌, ◌%◌}
use mathlib.Core.Path.{◌≡◌, refl}
use mathlib.Core.List.{List, [], ◌∷◌, ◌++◌, map, flatten}
use lib.ListN.{length, take, replicate}
use Rattle.lists.specs.Lists.{Bytes, pick, same, all, any, those}
use Rattle.refusal.specs.Verdict.{Verdict, passed, refused, ◌>>=◌, ◌>>◌, given, at_place, in_turn}
use Rattle.refusal.proofs.Verdicts.{All}
use Rattle.emulation.specs.Payload as emulation
use Rattle.obu.specs.Header as obu
use Rattle.obu.specs.Leb128 as leb128
use Rattle.obu.specs.Order as order
use Rattle.tsobu.specs.StartCodes as codes
use Rattle.tsobu.specs.TsObu as tsobu
use Rattle.unit.specs.Unit as unit
use Rattle.descriptor.specs.Descriptor as descriptor
use Rattle.descriptor.specs.Edition as edition
use Rattle.packet.specs.Header as packet
use Rattle.packet.specs.Counter as counter
use Rattle.crc.specs.Crc as crc
use Rattle.psi.specs.Section as section
use Rattle.psi.specs.Pat as pat
use Rattle.pmt.specs.Pmt as pmt
use Rattle.pes.specs.Pes as pes
use Rattle.sequence.specs.Bits as bits
use Rattle.sequence.specs.Header as sequence
use Rattle.sequence.specs.Comparison as compare
use Rattle.comparison.specs.declared.Disagreement.{Disagreement}
use Rattle.comparison.specs.Comparison as comparison
use Rattle.segment_rules.specs.State as state
use Rattle.segment_rules.specs.Rules as rules
use Rattle.segment_rules.specs.Rules.{Rooms}
use Rattle.segment_rules.specs.Check as check
use Rattle.segment_rules.specs.Check.{lengths, times_in_turn}
use Rattle.segment_rules.specs.Comparison as compared
use Rattle.segment_rules.specs.Comparison.{Answered, check_compared}

-- so many bytes of a number, the lowest last
unfoldable pub bytes_before : ℕ → ℕ → Bytes → Bytes
bytes_before zero x s = s
bytes_before (suc n) x s = bytes_before n (x / 256) (x % 256 ∷ s)

abbrev pub bytes : ℕ → ℕ → Bytes
bytes n x = bytes_before n x []

-- ---- packets
-- a section on a PID, of which these are the packet's second and third byte; its counter is 0
abbrev pub carrying : ℕ → ℕ → Bytes → Bytes
carrying high low s = take 188 (0x47 ∷ high ∷ low ∷ 0x10 ∷ 0x00 ∷ s ++ replicate 183 0xFF)

-- PID 0: program 1 has the map PID 0x100
unfoldable pub pat_packet : Bytes
pat_packet = carrying 0x40 0x00 (bytes 16 0x00B00D0001C100000001E100E8F95E7D)

-- PID 0x100: the PCR PID and the AV1 entry are 0x101; the AV1 entry has a video descriptor; 0x110 is listed too
unfoldable pub pmt_packet : Bytes
pmt_packet = carrying 0x41 0x00 (bytes 38 0x02B0230001C10000E101F00006E101F00C050441563031800481080CC00FE110F0009254BE06)

-- an AV1 entry of the draft
unfoldable pub draft_packet : Bytes
draft_packet = carrying 0x41 0x00 (bytes 27 0x02B0180001C10000E101F00006E101F00605044156312005971689)

-- an AV1 entry and twelve entries behind it
abbrev pub another : ℕ → Bytes
another n = 0x0F ∷ 0xE1 ∷ n ∷ 0xF0 ∷ 0x00 ∷ []

abbrev pub twelve_more : Bytes
twelve_more =
    flatten (map another (0x10 ∷ 0x11 ∷ 0x12 ∷ 0x13 ∷ 0x14 ∷ 0x15 ∷ 0x16 ∷ 0x17 ∷ 0x18 ∷ 0x19 ∷ 0x1A ∷ 0x1B ∷ []))

unfoldable pub long_packet : Bytes
long_packet = carrying 0x41 0x00 (bytes 23 0x02B0540001C10000E101F00006E101F006050441563031 ++ twelve_more ++ bytes 4 0x5FAB9DDD)

-- PID 0x101, a PCR and no payload, with this counter
unfoldable pub clock_packet : ℕ → Bytes
clock_packet n = take 188 (0x47 ∷ 0x01 ∷ 0x01 ∷ (0x20 + n) ∷ 0xB7 ∷ 0x10 ∷ bytes 6 0x0000AFC87E05 ++ replicate 176 0xFF)

-- PID 0x101, a payload behind an adaptation field that fills the packet, with this counter
unfoldable pub pes_packet : ℕ → Bytes → Bytes
pes_packet n w = 0x47 ∷ 0x41 ∷ 0x01 ∷ (0x30 + n) ∷ (183 - length w) ∷ 0x00 ∷ replicate (182 - length w) 0xFF ++ w

-- a PES with a PTS of 900, and one with a PTS of 1800 and a DTS of 1350, each with a unit of a temporal delimiter and a frame
abbrev pub carried_unit : Bytes
carried_unit = bytes 10 0x00000112000000013000

unfoldable pub pes900 : Bytes
pes900 = bytes 14 0x000001BD00008480052100010709 ++ carried_unit

unfoldable pub pes1800 : Bytes
pes1800 = bytes 19 0x000001BD000084C00A3100010E111100010A8D ++ carried_unit

-- a PES without times
unfoldable pub pes_untimed : Bytes
pes_untimed = bytes 9 0x000001BD0000840000 ++ carried_unit

-- a PES with a PTS of 900 and a unit that has a sequence header between the two OBUs
unfoldable pub pes_sequence : Bytes → Bytes
pes_sequence content =
    bytes 14 0x000001BD00008480052100010709
    ++ (bytes 5 0x0000011200 ++ (bytes 4 0x00000108 ++ (content ++ bytes 5 0x0000013000)))

-- sequence headers of profile 0 and level 8, as the PMT's descriptor says, and of level 9; and one that is cut short
abbrev pub level8 : Bytes
level8 = bytes 10 0x10000041DCFCFC018008

abbrev pub level9 : Bytes
level9 = bytes 10 0x10000049DCFCFC018008

abbrev pub short_header : Bytes
short_header = bytes 2 0x1000

-- payload on another PID, with this counter
unfoldable pub other_packet : ℕ → ℕ → ℕ → Bytes
other_packet high low n = 0x47 ∷ high ∷ low ∷ (0x10 + n) ∷ replicate 184 0x00

-- ---- segments, and their answers
-- of a refusal its number and its place; of acceptance 0, the program number, the AV1 PID, the five totals, the units' lengths and their
-- times, and the unit and the field of the first sequence header that disagrees, if one does
abbrev pub found_of : Option Disagreement → List ℕ
found_of None = []
found_of (Some d) = d.unit ∷ d.field ∷ []

abbrev pub answer_of : Verdict Answered → List ℕ
answer_of (refused number place) = number ∷ place ∷ []
answer_of (passed c) =
    let a = c.accepted in
    0 ∷ a.program ∷ a.map.av1.pid
    ∷ a.totals.null ∷ a.totals.section ∷ a.totals.av1 ∷ a.totals.other_listed ∷ a.totals.unlisted
    ∷ (lengths a.units ++ times_in_turn a.units) ++ found_of c.disagreement

pub record Example : Type 0 where
  pub edition : ℕ
  pub packets : List Bytes
  pub answer : List ℕ

abbrev pub rooms : Rooms
rooms = record { bytes = 1000; lens = 10; times = 20 }

unfoldable pub examples : List Example
examples =
    -- two units, and a packet of each other class
    record {
      edition = 0;
      packets =
          pat_packet
          ∷ pmt_packet
          ∷ clock_packet 7
          ∷ other_packet 0x1F 0xFF 0
          ∷ pes_packet 8 pes900
          ∷ other_packet 0x01 0x10 3
          ∷ other_packet 0x02 0x00 0
          ∷ other_packet 0x01 0x10 4
          ∷ pes_packet 9 pes1800
          ∷ [];
      answer = 0 ∷ 1 ∷ 0x101 ∷ 1 ∷ 2 ∷ 3 ∷ 2 ∷ 1 ∷ 10 ∷ 10 ∷ 900 ∷ 900 ∷ 1800 ∷ 1350 ∷ [];
    }
    -- 2026-05: a copy of the PAT, of the PMT and of a PES start
    ∷ record {
      edition = 0;
      packets = pat_packet ∷ pat_packet ∷ pmt_packet ∷ pmt_packet ∷ clock_packet 7 ∷ pes_packet 8 pes900 ∷ pes_packet 8 pes900 ∷ [];
      answer = 0 ∷ 1 ∷ 0x101 ∷ 0 ∷ 4 ∷ 3 ∷ 0 ∷ 0 ∷ 10 ∷ 900 ∷ 900 ∷ [];
    }
    -- a third copy
    ∷ record {
      edition = 0;
      packets = pat_packet ∷ pmt_packet ∷ clock_packet 7 ∷ pes_packet 8 pes900 ∷ pes_packet 8 pes900 ∷ pes_packet 8 pes900 ∷ [];
      answer = 24 ∷ 5 ∷ [];
    }
    -- 24: a counter is left out
    ∷ record {
      edition = 0;
      packets = pat_packet ∷ pmt_packet ∷ clock_packet 7 ∷ pes_packet 8 pes900 ∷ pes_packet 10 pes1800 ∷ [];
      answer = 24 ∷ 4 ∷ [];
    }
    -- 27: thirteen entries
    ∷ record { edition = 0; packets = pat_packet ∷ long_packet ∷ []; answer = 27 ∷ 1 ∷ [] }
    -- 31: no PCR comes before the payload
    ∷ record { edition = 0; packets = pat_packet ∷ pmt_packet ∷ pes_packet 8 pes900 ∷ clock_packet 8 ∷ []; answer = 31 ∷ 2 ∷ [] }
    -- 33: no PMT
    ∷ record { edition = 0; packets = pat_packet ∷ []; answer = 33 ∷ 1 ∷ [] }
    -- 2026-08: a stream from the draft period, without times
    ∷ record {
      edition = 1;
      packets = pat_packet ∷ draft_packet ∷ clock_packet 7 ∷ pes_packet 8 pes_untimed ∷ [];
      answer = 0 ∷ 1 ∷ 0x101 ∷ 0 ∷ 2 ∷ 2 ∷ 0 ∷ 0 ∷ 10 ∷ 8589934592 ∷ 8589934592 ∷ [];
    }
    -- 28: each edition knows its own identifier alone
    ∷ record { edition = 0; packets = pat_packet ∷ draft_packet ∷ []; answer = 28 ∷ 1 ∷ [] }
    ∷ record { edition = 1; packets = pat_packet ∷ pmt_packet ∷ []; answer = 28 ∷ 1 ∷ [] }
    -- 30: no times in the current edition
    ∷ record { edition = 0; packets = pat_packet ∷ pmt_packet ∷ clock_packet 7 ∷ pes_packet 8 pes_untimed ∷ []; answer = 30 ∷ 3 ∷ [] }
    -- 2026-04: a header as the descriptor says, and another in the second unit, which disagrees in seq_level_idx_0
    ∷ record {
      edition = 0;
      packets = pat_packet ∷ pmt_packet ∷ clock_packet 7 ∷ pes_packet 8 (pes_sequence level8) ∷ pes_packet 9 (pes_sequence level9) ∷ [];
      answer = 0 ∷ 1 ∷ 0x101 ∷ 0 ∷ 2 ∷ 3 ∷ 0 ∷ 0 ∷ 24 ∷ 24 ∷ 900 ∷ 900 ∷ 900 ∷ 900 ∷ 1 ∷ 1 ∷ [];
    }
    -- 43: a header is cut short
    ∷ record {
      edition = 0;
      packets = pat_packet ∷ pmt_packet ∷ clock_packet 7 ∷ pes_packet 8 (pes_sequence short_header) ∷ [];
      answer = 0 ∷ 1 ∷ 0x101 ∷ 0 ∷ 2 ∷ 2 ∷ 0 ∷ 0 ∷ 16 ∷ 900 ∷ 900 ∷ 0 ∷ 43 ∷ [];
    }
    -- 44 comes before 20
    ∷ record { edition = 2; packets = []; answer = 44 ∷ 0 ∷ [] }
    ∷ []

pub examples_checked : All (λ e. answer_of (check_compared e.edition rooms (flatten e.packets)) ≡ e.answer) examples
unfolding bytes_before pat_packet pmt_packet draft_packet long_packet clock_packet pes_packet pes900 pes1800 pes_untimed pes_sequence
    other_packet
    examples flatten pick same all any those ◌>>=◌ ◌>>◌ given at_place in_turn emulation.above3 emulation.forbidden emulation.legal
    emulation.unescape obu.fixed_bytes obu.size_of obu.header_with obu.sized_header obu.header_of obu.judged leb128.low_first
    leb128.leb_within
    leb128.in_range leb128.leb128 order.kind_of_number order.after_frame order.in_tiles order.at_frame order.before_frame
    order.order_refusal
    codes.at_start_code codes.split unit.sum tsobu.tsobu_refusal unit.read_unit descriptor.version_wrong descriptor.zeros_wrong
    descriptor.wrong
    packet.packets_of packet.adaptation_flags packet.pcr packet.header_length packet.payload packet.fields_wrong counter.due
    counter.counter_right counter.without_pcr counter.copy_of counter.check counter.record_of counter.checked_in crc.bit_step crc.bits_step
    crc.byte_step crc.crc_from section.misplaced section.fields_wrong section.crc_wrong section.common_wrong pat.programs
    pat.map_pid_in_range
    pat.one_program pat.read_pat pmt.descriptors_within pmt.pid_wrong pmt.entry pmt.entries_after pmt.video_wrong pmt.registration_first
    pmt.registration_later pmt.is_av1 pmt.misplaced_registration pmt.one_av1 pmt.av1_entry pmt.read_pmt pes.least_length_byte
    pes.time_stamp_wrong
    pes.times_wrong pes.header_wrong pes.dts pes.times_of check.segment_length_wrong check.accepted check.ending check.step check.run
    check.check_segment edition.edition_of check.pts_and_dts rules.in_sequence rules.on_tables rules.on_units rules.counting_pcr
    rules.later_section rules.pat_section rules.pmt_section rules.section_read rules.length_differs rules.close_open rules.close_if_open
    rules.rule rules.rule21 rules.rule22 rules.rule23 rules.pcr_counts rules.checked rules.rule24 rules.rules25to28 rules.closing
    rules.rule29 rules.rule30 rules.rule31 rules.rule34 rules.rule8 rules.added_to rules.carried rules.unless_repeat rules.packet_rules
    state.is_map_pid state.listed_as state.kind_of state.counting bits.bits_of bits.◌>>=◌ bits.◌>>◌ bits.return bits.f_from bits.flag
    bits.skip
    bits.when bits.times bits.zeros_from bits.uvlc sequence.timing_info sequence.decoder_model_info sequence.timed_model
    sequence.delay_length
    sequence.operating_parameters sequence.decoder_model sequence.display_delay sequence.operating_point sequence.operating_points
    sequence.reduced_point sequence.frame_size sequence.frame_ids sequence.integer_mv sequence.order_tools
    sequence.screen_tools sequence.inter_tools sequence.color_description sequence.is_srgb
    sequence.coded_subsampling
    sequence.subsampling sequence.positioned sequence.grey sequence.other_color sequence.chroma_format sequence.color_config
    sequence.frames_and_tools sequence.sequence_header compare.of_header compare.of_descriptor compare.first_differing compare.reading
    compare.comparing comparison.sequence_content comparison.first_of comparison.first_from compared.compared_with compared.check_compared
    descriptor.fields_of
examples_checked =
    (refl, (refl, (refl, (refl, (refl, (refl, (refl, (refl, (refl, (refl, (refl, (refl, (refl, (refl, tt))))))))))))))
