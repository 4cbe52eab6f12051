-- Send's refusals, and what it leaves. The words of document 02, request 2026-01, stand over each definition. Assumes
-- nothing.
use Rattle.refusal.specs.declared.Refused.{Refused}
use Rattle.std.specs.Prelude.{ℕ, ◌*◌, ◌^◌, Bool, ◌≡◌, List, [], ◌∷◌, eqb, leb, ltb, length, Result}
use Rattle.lists.specs.Lists.{Bytes, any}
use Rattle.refusal.specs.Verdict.{Verdict, passed, refused, ◌>>◌, given}
use Rattle.refusal.specs.Verdict as verdict
use Rattle.refusal.specs.Number.{says}
use Rattle.descriptor.specs.Descriptor.{wrong}
use Rattle.queue.specs.declared.records.Queue.{Queue}
use Rattle.queue.specs.Queue.{TimedUnit, queue_of}
use Rattle.segment_rules.specs.Check.{most_packets}
use Rattle.mux_rules.specs.declared.Channel.{Channel}
use Rattle.mux_rules.specs.declared.Written.{Written}
use Rattle.mux_rules.specs.Packets.{segment_packets, segment, next_channel}

-- ---- 52 "descriptor, PID, program number, counter or PCR not allowed by 01"
abbrev pub any_of : List Bool → Bool
any_of tests = any (λ (wrong : Bool). wrong) tests

-- 01: "map PID 0x0010 to 0x1FFE"
abbrev pub map_pid_wrong : Channel → Bool
map_pid_wrong c = any_of (ltb c.map_pid 0x0010 ∷ ltb 0x1FFE c.map_pid ∷ [])

-- 01: "none equal to 0, 0x1FFF or the map PID"; a PID has 13 bits
abbrev pub av1_pid_wrong : Channel → Bool
av1_pid_wrong c =
    any_of (eqb c.av1_pid 0 ∷ ltb 0x1FFE c.av1_pid ∷ eqb c.av1_pid c.map_pid ∷ [])

-- 01: "exactly one program not 0"; a program number has 16 bits
abbrev pub program_wrong : Channel → Bool
program_wrong c = any_of (eqb c.program 0 ∷ ltb 0xFFFF c.program ∷ [])

-- a counter has four bits
abbrev pub counters_wrong : Channel → Bool
counters_wrong c = any (ltb 15) (c.pat_counter ∷ c.map_counter ∷ c.av1_counter ∷ [])

-- 01: "PCR extension above 299"; the base has 33 bits
abbrev pub pcr_wrong : Channel → Bool
pcr_wrong c = leb (2 ^ 33 * 300) c.pcr.0

unfoldable pub channel_wrong : Channel → Bytes → Bool
channel_wrong c descriptor =
    any_of
    (wrong descriptor
    ∷ map_pid_wrong c
    ∷ av1_pid_wrong c
    ∷ program_wrong c
    ∷ counters_wrong c
    ∷ pcr_wrong c
    ∷ [])

-- ---- send: "52 .., 53 more than 65,535 packets to send, then 8 for .. output". How many bytes and packets are written
unfoldable pub sending : Channel → Bytes → ℕ → List TimedUnit → Verdict Written
sending c descriptor room units = do
  given 52 (channel_wrong c descriptor)
  given 53 (ltb most_packets (length (segment_packets c descriptor units)))
  given 8 (ltb room (length (segment c descriptor units)))
  passed (record { bytes = length (segment c descriptor units); packets = length (segment_packets c descriptor units) })

-- "a send, which empties the queue"; "a refusal changes neither queue, store, counters nor output"
unfoldable pub units_left : Verdict Written → List TimedUnit → List TimedUnit
units_left (passed written) units = []
units_left (refused number place) units = units

unfoldable pub channel_left : Verdict Written → Channel → List TimedUnit → Channel
channel_left (passed written) c units = next_channel c units
channel_left (refused number place) c units = c

-- what send returned, and the channel and the queue then
pub record Sent : Type 0 where
  pub answer : Result Written Refused
  pub next : Channel
  pub queue : Queue

-- send of these units to an output: its answer, the channel and the queue given back, and the output after it
pub record Sends (c : Channel) (descriptor : Bytes) (units : List TimedUnit) (out : Bytes) (r : Sent) (after : Bytes)
    : Type 0 where
  pub answers : says r.answer ≡ sending c descriptor (length out) units
  pub next : r.next ≡ channel_left (sending c descriptor (length out) units) c units
  pub queue : r.queue ≡ queue_of (units_left (sending c descriptor (length out) units) units)
  pub leaves : after ≡ verdict.leaves (sending c descriptor (length out) units) (segment c descriptor units) out
