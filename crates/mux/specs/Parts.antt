-- What the promises of private functions cite; no public promise does. Assumes nothing.
use Rattle.std.specs.Prelude.{ℕ, suc, ◌+◌, ◌-◌, ◌*◌, Bool, true, not, ◌&&◌, ◌||◌, List, [], ◌∷◌, ◌++◌, leb, ltb, take}
use Rattle.std.specs.Prelude.{drop}
use Rattle.lists.specs.Lists.{Bytes, pick}
use Rattle.lists.specs.Bytes.{byte}
use Rattle.packet.specs.Writing.{flag, counter_before, pcr_packet}
use Rattle.psi.specs.Writing.{pat}
use Rattle.pmt.specs.Writing.{pmt}
use Rattle.comparison.specs.Comparison.{frame_type}
use Rattle.tsobu.specs.StartCodes.{at_start_code}
use Rattle.unit.specs.Unit.{most_carried}
use Rattle.queue.specs.declared.records.Queued.{Queued}
use Rattle.queue.specs.declared.records.Queue.{Queue}
use Rattle.queue.specs.Queue.{TimedUnit, timed, time_past, most_units}
use Rattle.packet_writer.specs.Putting.{head_size}
use Rattle.mux_rules.specs.declared.Channel.{Channel}
use Rattle.mux_rules.specs.Packets.{first_most, others_for, section_packet}

-- how many of a unit's n bytes the first packet has behind a header of so many
unfoldable pub first_size : Bool → ℕ → ℕ → ℕ
first_size marked head n = pick (ltb n (first_most marked - head)) n (first_most marked - head)

-- a start code that begins an OBU of type 3 or 6 stands at a place
abbrev pub frame_at : Bytes → ℕ → Bool
frame_at s i = at_start_code (drop i s) && frame_type (byte s (i + 3))

-- the flags of a unit's first packet, where the frame begins in it or not
unfoldable pub flags_of : Bool → Bool → ℕ
flags_of marked frame = pick marked (64 + flag frame * 32) 0

-- ---- the slots of a queue
abbrev pub filled : Queue → List Queued
filled q = take q.count q.units

-- the unit of a slot, of its bytes
abbrev pub slot_unit : Queued → Bytes → TimedUnit
slot_unit r s = timed s r.pts r.dts r.marked

-- the units whose bytes stand in a store, by their slots
unfoldable pub slot_units : List Queued → Bytes → List TimedUnit
slot_units [] s = []
slot_units (r ∷ rs) s = slot_unit r (take r.length s) ∷ slot_units rs (drop r.length s)

-- a slot that no unit in so many bytes can have
unfoldable pub slot_wrong : Queued → ℕ → Bool
slot_wrong r room = ltb most_carried r.length || (ltb room r.length || (time_past r.pts || time_past r.dts))

-- none is so
unfoldable pub formed : List Queued → ℕ → Bool
formed [] room = true
formed (r ∷ rs) room = not (slot_wrong r room) && formed rs (room - r.length)

unfoldable pub well_formed : Queue → ℕ → Bool
well_formed q room = leb q.count most_units && formed (filled q) room

-- the packets of a slot's unit, and of several
abbrev pub slot_packets : Queued → ℕ
slot_packets r = suc (others_for (head_size r.pts r.dts + r.length - first_most r.marked))

unfoldable pub slots_packets : List Queued → ℕ
slots_packets [] = 0
slots_packets (r ∷ rs) = slot_packets r + slots_packets rs

-- PAT, PMT and PCR
abbrev pub table_packets : Channel → Bytes → Bytes
table_packets c descriptor =
    (section_packet 0 c.pat_counter (pat c.program c.map_pid)
    ++ section_packet c.map_pid c.map_counter (pmt c.program c.av1_pid descriptor))
    ++ pcr_packet c.av1_pid (counter_before c.av1_counter) c.pcr
