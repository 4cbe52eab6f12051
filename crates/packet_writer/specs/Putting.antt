-- A packet put over the front of an output, and what is not written: a number that its field cannot hold, a payload
-- that is too long, or a packet that the output has no room for; the output then stays as it was. The packets are
-- those of specs/Writing.antt of packet, psi, pmt and pes. Assumes nothing.
use Rattle.std.specs.Prelude.{ℕ, ◌+◌, ◌*◌, ◌^◌, Bool, true, false, not, ◌||◌, ◌++◌, eqb, leb, ltb, length}
use Rattle.lists.specs.Lists.{Bytes, over, pick}
use Rattle.ticks.specs.declared.Ticks27.{Ticks27}
use Rattle.ticks.specs.declared.Ticks90.{Ticks90}
use Rattle.packet.specs.Writing.{most, carrying, pcr_packet, counter_before}
use Rattle.psi.specs.Writing.{section_payload, pat}
use Rattle.pmt.specs.Writing.{pmt}
use Rattle.pes.specs.Writing.{pes_header}
use Rattle.packet_writer.specs.declared.Start.{Start}

-- nothing where the test holds, otherwise the packet over the front of the output
unfoldable pub put : Bool → Bytes → Bytes → Bytes
put unfit packet out = pick unfit out (over packet out)

-- a PID has 13 bits, a counter four, a packet 188 bytes
unfoldable pub unfit : ℕ → ℕ → ℕ → Bool
unfit pid counter room = ltb 0x1FFF pid || (ltb 15 counter || ltb room 188)

-- ---- a packet that does not start a PES, with this payload of at most 184 bytes
unfoldable pub packet_unfit : ℕ → ℕ → ℕ → ℕ → Bool
packet_unfit pid counter n room = ltb most n || unfit pid counter room

unfoldable pub packet_put : ℕ → ℕ → Bytes → Bytes → Bytes
packet_put pid counter part out =
    put (packet_unfit pid counter (length part) (length out)) (carrying pid false counter 0 part) out

-- ---- the packet of the PAT; a program number has 16 bits
unfoldable pub pat_unfit : ℕ → ℕ → ℕ → ℕ → Bool
pat_unfit counter program map_pid room = ltb 0xFFFF program || (ltb 0x1FFF map_pid || unfit 0 counter room)

unfoldable pub pat_put : ℕ → ℕ → ℕ → Bytes → Bytes
pat_put counter program map_pid out =
    put (pat_unfit counter program map_pid (length out))
    (carrying 0 true counter 0 (section_payload (pat program map_pid))) out

-- ---- the packet of the PMT; the video descriptor has six bytes
unfoldable pub pmt_unfit : ℕ → ℕ → ℕ → ℕ → ℕ → ℕ → Bool
pmt_unfit map_pid counter program pid n room =
    not (eqb n 6) || (ltb 0xFFFF program || (ltb 0x1FFF pid || unfit map_pid counter room))

unfoldable pub pmt_put : ℕ → ℕ → ℕ → ℕ → Bytes → Bytes → Bytes
pmt_put map_pid counter program pid descriptor out =
    put (pmt_unfit map_pid counter program pid (length descriptor) (length out))
    (carrying map_pid true counter 0 (section_payload (pmt program pid descriptor))) out

-- ---- the packet of a PCR, whose base has 33 bits; "the PCR packet carries one less modulo 16" than the counter of
-- the next payload
unfoldable pub pcr_unfit : ℕ → ℕ → Ticks27 → ℕ → Bool
pcr_unfit pid counter t room = leb (2 ^ 33 * 300) t.0 || unfit pid counter room

unfoldable pub pcr_put : ℕ → ℕ → Ticks27 → Bytes → Bytes
pcr_put pid counter t out =
    put (pcr_unfit pid counter t (length out)) (pcr_packet pid (counter_before counter) t) out

-- ---- the first packet of a PES: its header, and so many of the unit's bytes; a time has 33 bits
-- the bytes of a header with these times. It is proved that it has so many (proofs/Starting.antt, `header_size`).
unfoldable pub head_size : Ticks90 → Ticks90 → ℕ
head_size pts dts = pick (eqb pts.0 dts.0) 14 19

unfoldable pub start_unfit : ℕ → ℕ → Start → ℕ → ℕ → Bool
start_unfit pid counter s n room =
    leb (2 ^ 33) s.pts.0
    || (leb (2 ^ 33) s.dts.0 || (ltb most (head_size s.pts s.dts + n) || unfit pid counter room))

unfoldable pub start_put : ℕ → ℕ → Start → Bytes → Bytes → Bytes
start_put pid counter s part out =
    put (start_unfit pid counter s (length part) (length out))
    (carrying pid true counter s.flags (pes_header s.pts s.dts s.length ++ part)) out
