-- "Where the queued bytes of the store stand as the operations left them, 01's check accepts what send writes and,
-- given long enough buffers, returns the same units and times.": the statements, which are proved in proofs/. Assumes
-- nothing.
use Rattle.std.specs.Prelude.{ℕ, suc, ◌+◌, ◌*◌, ◌≤◌, true, ◌≡◌, leb, length}
use mathlib.Core.List.{List, [], ◌∷◌, ◌++◌, map, flatten}
use Rattle.lists.specs.Lists.{Bytes, over, all}
use Rattle.refusal.specs.Verdict.{passed}
use Rattle.descriptor.specs.Descriptor.{fields_of}
use Rattle.descriptor.specs.Edition.{current}
use Rattle.comparison.specs.Comparison.{sequence_headers, first_from}
use Rattle.ticks.specs.declared.Ticks27.{Ticks27}
use Rattle.packet.specs.Writing.{most}
use Rattle.pmt.specs.Writing.{map_for}
use Rattle.pes.specs.Pes.{stamps}
use Rattle.queue.specs.declared.records.Queue.{Queue}
use Rattle.queue.specs.Queue.{TimedUnit, queued_bytes, QueueIs}
use Rattle.segment_rules.specs.State.{AccessUnit}
use Rattle.segment_rules.specs.Rules.{Rooms}
use Rattle.segment_rules.specs.Check.{Accepted, Outputs, rooms_of, outputs_after, check_segment}
use Rattle.segment_rules.specs.Comparison.{Answered, check_compared}
use Rattle.mux_rules.specs.declared.Channel.{Channel}
use Rattle.mux_rules.specs.declared.Written.{Written}
use Rattle.mux_rules.specs.Packets.{pes, first_most, packets_for, packets_for_units, segment, next_channel}
use Rattle.mux_rules.specs.Sending.{sending}

-- ---- one send
-- "the same units and times": in the check's terms, of which the first begins in packet `first`
unfoldable pub access_units : ℕ → List TimedUnit → List AccessUnit
access_units first [] = []
access_units first (u ∷ us) =
    record { first = first; carried = u.carried; times = stamps u.pts u.dts } ∷ access_units
    (first + packets_for u) us

-- what the check gives: the caller's program number, the map with the caller's AV1 PID and descriptor, the same units,
-- and the packets in their classes
abbrev pub accepted_as : Channel → Bytes → List TimedUnit → Accepted
accepted_as c descriptor units =
    record {
      program = c.program;
      map = map_for c.av1_pid descriptor;
      units = access_units 3 units;
      totals = record { null = 0; section = 2; av1 = 1 + packets_for_units units; other_listed = 0; unlisted = 0 };
    }

-- "given long enough buffers"
pub record LongEnough (units : List TimedUnit) (rooms : Rooms) : Type 0 where
  pub bytes : length (queued_bytes units) ≤ rooms.bytes
  pub lens : length units ≤ rooms.lens
  pub times : 2 * length units ≤ rooms.times

-- the check's three outputs then hold the units back to back, their lengths, and PTS and DTS in turn
abbrev pub unit_lengths : List TimedUnit → List ℕ
unit_lengths units = map (λ u. length u.carried) units

abbrev pub unit_times : List TimedUnit → List ℕ
unit_times units = flatten (map (λ u. u.pts.0 ∷ u.dts.0 ∷ []) units)

abbrev pub handed_back : List TimedUnit → Outputs → Outputs
handed_back units o =
    record {
      bytes = over (queued_bytes units) o.bytes;
      lens = over (unit_lengths units) o.lens;
      times = over (unit_times units) o.times;
    }

-- 2026-04: "In an accepted segment with a descriptor, each sequence header is compared": those of the queued units with
-- the caller's descriptor. It answers "the unit of the first header .. that disagrees or is cut short", with the first
-- unit of these as 0, "with its first differing field .., or none"
abbrev pub answered_as : Channel → Bytes → List TimedUnit → Answered
answered_as c descriptor units =
    record {
      accepted = accepted_as c descriptor units;
      disagreement =
          first_from 0 (fields_of descriptor) (map sequence_headers (map (λ u. u.carried) (access_units 3 units)));
    }

abbrev pub Claim : Type 0
Claim =
    (c : Channel) (descriptor : Bytes) (room : ℕ) (queue : Queue) (store : Bytes) (units : List TimedUnit)
    (written : Written)
    (o : Outputs) → QueueIs queue store units → sending c descriptor room units ≡ passed written
    → LongEnough units (rooms_of o)
    → (check_segment current (rooms_of o) (segment c descriptor units) ≡ passed (accepted_as c descriptor units))
    × (outputs_after (check_segment current (rooms_of o) (segment c descriptor units)) o ≡ handed_back units o)
    × (check_compared 0 (rooms_of o) (segment c descriptor units) ≡ passed (answered_as c descriptor units))

-- ---- two sends one after the other
-- the channel of the second: the one that the first hands back, with a PCR
abbrev pub channel_then : Channel → List TimedUnit → Ticks27 → Channel
channel_then c units pcr =
    record {
      program = c.program;
      map_pid = c.map_pid;
      av1_pid = c.av1_pid;
      pcr = pcr;
      pat_counter = (next_channel c units).pat_counter;
      map_counter = (next_channel c units).map_counter;
      av1_counter = (next_channel c units).av1_counter;
    }

abbrev pub accepted_twice : Channel → Bytes → List TimedUnit → List TimedUnit → Accepted
accepted_twice c descriptor units more =
    record {
      program = c.program;
      map = map_for c.av1_pid descriptor;
      units = access_units 3 units ++ access_units (6 + packets_for_units units) more;
      totals =
          record {
            null = 0;
            section = 4;
            av1 = 2 + packets_for_units units + packets_for_units more;
            other_listed = 0;
            unlisted = 0;
          };
    }

-- and the comparison of the units of both with the caller's descriptor
abbrev pub answered_twice : Channel → Bytes → List TimedUnit → List TimedUnit → Answered
answered_twice c descriptor units more =
    record {
      accepted = accepted_twice c descriptor units more;
      disagreement =
          first_from 0 (fields_of descriptor)
          (map sequence_headers
          (map (λ u. u.carried) (access_units 3 units ++ access_units (6 + packets_for_units units) more)));
    }

-- they are accepted as one segment, where both together have no more packets than a segment may have
abbrev pub TwoSends : Type 0
TwoSends =
    (c : Channel) (descriptor : Bytes) (pcr : Ticks27) (room room' : ℕ) (queue queue' : Queue) (store store' : Bytes)
    (units more : List TimedUnit) (written written' : Written) (rooms : Rooms)
    → QueueIs queue store units → QueueIs queue' store' more
    → sending c descriptor room units ≡ passed written
    → sending (channel_then c units pcr) descriptor room' more ≡ passed written'
    → written.packets + written'.packets ≤ 65535 → LongEnough (units ++ more) rooms
    → (check_segment current rooms (segment c descriptor units ++ segment (channel_then c units pcr) descriptor more)
    ≡ passed (accepted_twice c descriptor units more))
    × (check_compared 0 rooms (segment c descriptor units ++ segment (channel_then c units pcr) descriptor more)
    ≡ passed (answered_twice c descriptor units more))

-- ---- "in as few packets as possible": a unit's PES in other parts, of which the first has at most as many bytes as
-- the mark leaves, and each other at most 184, takes no fewer packets
abbrev pub Fewest : Type 0
Fewest =
    (u : TimedUnit) (first : Bytes) (more : List Bytes) → length first ≤ first_most u.marked
    → all (λ p. leb (length p) most) more ≡ true → first ++ flatten more ≡ pes u → packets_for u ≤ suc (length more)
