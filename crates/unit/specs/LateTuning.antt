-- Request 2026-13, "Show that late tuning works. A receiver joins in the middle of a unit." Assumes nothing.
use Rattle.std.specs.Prelude.{ℕ, ◌+◌, ◌-◌, ◌≤◌, ◌≡◌, ◌↔◌, List, [], ◌∷◌, map, leb, length, drop}
use Rattle.std.specs.Borrow.{Bor}
use Rattle.lists.specs.Lists.{Bytes, those}
use Rattle.refusal.specs.Verdict.{passed}
use Rattle.emulation.specs.Payload.{escape}
use Rattle.tsobu.specs.StartCodes.{start_codes}
use Rattle.unit.specs.Unit.{Accepted, carried}
use Rattle.tsobu.specs.Walk.{starting, Walks, fresh, ReaderWalks}

-- a tsOBU of the writer's string: where its start code begins, and its payload
pub record Sent : Type 0 where
  pub place : ℕ
  pub payload : Bytes

-- "Writing gives 00 00 01 and the escaped OBU, for each in turn": the tsOBUs of which the first begins at `place`, and
-- each later one behind the start code and the escaped OBU before it
unfoldable pub sent_from : ℕ → List Bytes → List Sent
sent_from place [] = []
sent_from place (obu ∷ l) =
    record { place = place; payload = escape obu } ∷ sent_from (place + 3 + length (escape obu)) l

-- those "that begin at or after" an offset of the writer's string
abbrev pub heard : List Bytes → ℕ → List Sent
heard l offset = those (λ t. leb offset t.place) (sent_from 0 l)

-- the walk over these bytes starts, and its steps to the end give exactly these payloads, in order; the same by a
-- reader
pub record WalkGives (s : Bytes) (ps : List Bytes) : Type 0 where
  pub starts : starting s ≡ passed 0
  pub steps : (qs : List Bytes) → Walks s 0 qs ↔ (qs ≡ ps)
  pub by_reader : (unit : Bor Bytes) → unit.now ≡ s → (qs : List Bytes) → ReaderWalks (fresh unit) qs ↔ (qs ≡ ps)

-- of a list, the writer's string and an offset:
pub record TunesIn (l : List Bytes) (offset : ℕ) : Type 0 where
  -- "the bytes from that offset on hold 00 00 01 exactly at the start codes that begin at or after it" (none, where
  -- none does): their places, which are counted from the offset
  pub codes : start_codes (drop offset (carried l)) ≡ map (λ t. t.place - offset) (heard l offset)
  -- "and the walk from the first of these gives exactly the payloads of the OBUs that begin there, in order"
  pub walk : (first : Sent) (later : List Sent) → heard l offset ≡ first ∷ later
      → WalkGives (drop (first.place - offset) (drop offset (carried l))) (map (λ t. t.payload) (first ∷ later))

-- "Prove for each accepted list, the writer's string, and any offset from 0 to its length" (proofs/LateTuning.antt,
-- `late_tuning`)
abbrev pub LateTuning : Type 0
LateTuning = (l : List Bytes) → Accepted l → (offset : ℕ) → offset ≤ length (carried l) → TunesIn l offset
