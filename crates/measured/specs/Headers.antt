-- One packet's header in a C struct, and the packets of a segment whose headers pass. Assumes nothing.
use Rattle.ticks.specs.declared.Ticks27.{Ticks27}
use Rattle.std.specs.Prelude.{ℕ, false, length, Option, Some, None, is_some, unwrap_or}
use Rattle.lists.specs.Lists.{Bytes, those}
use Rattle.refusal.specs.Verdict.{Verdict, passed, refused}
use Rattle.packet.specs.Header.{packets, passes}
use Rattle.packet.specs.declared.header.Header.{Header}
use Rattle.measured.specs.declared.header.PacketHeader.{PacketHeader}

-- ---- one packet
abbrev pub ticks_of : Option Ticks27 → ℕ
ticks_of None = 0
ticks_of (Some ticks) = ticks.0

-- number 0 says that nothing was refused; without a PCR «pcr_present» is false and pcr 0, without a payload
-- «has_payload» is false and payload 0
abbrev pub fields_answer : Header → PacketHeader
fields_answer h =
    record {
      number = 0;
      place = 0;
      pid = h.pid;
      start = h.start;
      counter = h.counter;
      discontinuity = h.discontinuity;
      pcr_present = is_some h.pcr;
      pcr = ticks_of h.pcr;
      has_payload = is_some h.payload;
      payload = unwrap_or h.payload 0;
    }

-- in a refusal every field but number and place is 0 or false
abbrev pub header_answer : Verdict Header → PacketHeader
header_answer (passed h) = fields_answer h
header_answer (refused number place) =
    record {
      number = number;
      place = place;
      pid = 0;
      start = false;
      counter = 0;
      discontinuity = false;
      pcr_present = false;
      pcr = 0;
      has_payload = false;
      payload = 0;
    }

-- ---- the packets of a segment
-- how many of its whole packets pass
abbrev pub headers_passed : Bytes → ℕ
headers_passed s = length (those passes (packets s))
