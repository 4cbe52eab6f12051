-- Runs of packets that ask nothing of a segment's tables: null packets, packets of one PID whose counters go on, and
-- those of them that go on with a PES.
-- No rule is said here: what the rules say of such packets is proved of them (crate segment_run). Assumes nothing.
use Rattle.std.specs.Prelude.{ℕ, suc, ◌+◌, ◌-◌, ◌%◌, Bool, not, ◌&&◌, eqb, ltb, take}
use mathlib.Core.List.{List, [], ◌∷◌, map, flatten}
use Rattle.lists.specs.Lists.{Bytes, pick}
use Rattle.packet.specs.Header.{sync_lost, transport_error_indicator, payload_unit_start_indicator, pid, null_pid}
use Rattle.packet.specs.Header.{transport_scrambling_control, adaptation_field_control, continuity_counter, payload}

-- a null packet that passes 21 and 22; 23 is "not on PID 0x1FFF"
abbrev pub is_null : Bytes → Bool
is_null p = not (sync_lost p) && (not (transport_error_indicator p) && eqb (pid p) null_pid)

-- how many of these packets from the first on are null packets
unfoldable pub nulls_in : List Bytes → ℕ
nulls_in [] = 0
nulls_in (p ∷ ps) = pick (is_null p) (suc (nulls_in ps)) 0

-- "one more modulo 16"
abbrev pub next_counter : ℕ → ℕ
next_counter last = (last + 1) % 16

-- a packet of a PID after one with this counter: it has payload and no adaptation field, nothing in its header is
-- refused, and its counter is the next
abbrev pub counts_on : ℕ → ℕ → Bytes → Bool
counts_on n last p =
    not (sync_lost p)
    && (not (transport_error_indicator p)
    && (eqb (pid p) n
    && (eqb (transport_scrambling_control p) 0
    && (eqb (adaptation_field_control p) 0b01
    && eqb (continuity_counter p) (next_counter last)))))

-- how many of these packets from the first on do so one after the other
unfoldable pub counting_on : ℕ → ℕ → List Bytes → ℕ
counting_on n last [] = 0
counting_on n last (p ∷ ps) = pick (counts_on n last p) (suc (counting_on n (next_counter last) ps)) 0

-- one that starts no PES either
abbrev pub goes_on : ℕ → ℕ → Bytes → Bool
goes_on n last p = not (payload_unit_start_indicator p) && counts_on n last p

-- how many bytes of payload such a packet has
abbrev pub payload_length : ℕ
payload_length = 184

-- how many of these packets from the first on do so one after the other, whose payloads have room in so many bytes
unfoldable pub going_on : ℕ → ℕ → ℕ → List Bytes → ℕ
going_on room n last [] = 0
going_on room n last (p ∷ ps) =
    pick (not (ltb room payload_length) && goes_on n last p)
    (suc (going_on (room - payload_length) n (next_counter last) ps)) 0

-- the payloads of the first so many packets, one behind the other
abbrev pub payloads : ℕ → List Bytes → Bytes
payloads count ps = flatten (map payload (take count ps))
