-- "Stepping: a walk over an access unit hands out one payload at a time, as a part of the lent bytes, and at the end
-- says so. It checks 9 at the start and 3 and 10 at each step, and stays at a step that refused." Assumes nothing.
use Rattle.refusal.specs.declared.Refused.{Refused}
use Rattle.std.specs.Prelude.{ℕ, ◌+◌, Bool, true, false, not, ◌&&◌, ◌≡◌, ◌⊎◌, List, [], ◌∷◌, leb, ltb, eqb, length}
use Rattle.std.specs.Prelude.{Option, Some, None, Result, Ok, Err}
use Rattle.std.specs.Prelude.{take, drop}
use Rattle.std.specs.Borrow.{Bor}
use Rattle.lists.specs.Lists.{Bytes, those}
use Rattle.refusal.specs.Verdict.{Verdict, passed, refused, ◌>>◌, given, at_place}
use Rattle.refusal.specs.Number.{refused_by}
use Rattle.emulation.specs.Payload.{legal}
use Rattle.tsobu.specs.StartCodes.{at_start_code, start_codes, split}
use Rattle.tsobu.specs.declared.walking.Part.{Part}
use Rattle.tsobu.specs.declared.reader.Walk.{Walk}

-- The state of a walk is its place. The valid places: 0, where every walk starts; the unit's length; and wherever a
-- start code stands. It is proved that every step keeps this.
abbrev pub WalkPlace : Bytes → ℕ → Type 0
WalkPlace unit at = (at ≡ 0) ⊎ (at ≡ length unit) ⊎ (at_start_code (drop at unit) ≡ true)

-- "It checks 9 at the start", apart from a step: the first place
unfoldable pub starting : Bytes → Verdict ℕ
starting unit = do
  given 9 (not (at_start_code unit))
  passed 0

-- the payload behind the start code at a place: it "runs to the next start code or the end"
abbrev pub payload_from : Bytes → ℕ → Bytes
payload_from unit at = (split (drop (at + 3) unit)).before

-- the OBU index of a place: how many start codes stand before it
abbrev pub obu_index : Bytes → ℕ → ℕ
obu_index unit at = length (those (λ code. ltb code at) (start_codes unit))

-- what a step finds: a payload, as a part of the lent bytes (where it begins and how many bytes it has) with the place
-- of the next step, or the end
pub data Found : Type 0 where
  payload : Part → Found
  end : Found

-- the part that is the payload behind the start code at a place
abbrev pub part_at : Bytes → ℕ → Part
part_at unit at =
    record {
      start = at + 3;
      bytes = length (payload_from unit at);
      next = at + 3 + length (payload_from unit at);
    }

-- the step at a start code: 3, 10
unfoldable pub payload_step : Bytes → ℕ → Verdict Found
payload_step unit at = do
  at_place (obu_index unit at) (given 3 (eqb (length (payload_from unit at)) 0))
  at_place (obu_index unit at) (given 10 (not (legal (payload_from unit at))))
  passed (payload (part_at unit at))

-- a walk is at its end from the unit's length on, but not at 0: there it starts, in the empty string too
abbrev pub at_end : Bytes → ℕ → Bool
at_end unit at = ltb 0 at && leb (length unit) at

-- the step at a place: "at the end says so"; 9 where no start code stands; 3, 10. A valid place other than 0 is the end
-- or has a start code, so 9 is checked at the start alone. A place that no walk over these bytes reaches has its answer
-- too: from the length on the end; where no start code stands 9, at place 0; where one stands the step at it.
unfoldable pub stepping : Bytes → ℕ → Verdict Found
stepping unit at =
    elim (at_end unit at) [
      | true ↦ passed end
      | false ↦ given 9 (not (at_start_code (drop at unit))) >> payload_step unit at
    ]

-- the place after a step at a place: "and stays at a step that refused"; it stays at the end too
abbrev pub place_after_step : ℕ → Verdict Found → ℕ
place_after_step at (passed (payload p)) = p.next
place_after_step at (passed end) = at
place_after_step at (refused number place) = at

abbrev pub place_after : Bytes → ℕ → ℕ
place_after unit at = place_after_step at (stepping unit at)

-- the bytes of the part that a step hands out: none where it hands out no payload
abbrev pub handed_out : Bytes → Verdict Found → Bytes
handed_out unit (passed (payload p)) = take p.bytes (drop p.start unit)
handed_out unit (passed end) = []
handed_out unit (refused number place) = []

-- what an answer of the code says: the part, the end, or the refusal that it holds
abbrev pub step_says : Result (Option Part) Refused → Verdict Found
step_says (Ok (Some p)) = passed (payload p)
step_says (Ok None) = passed end
step_says (Err r) = refused_by r

-- ---- a walk as a reader, which holds the carried bytes and the place of its next step
abbrev pub fresh : Bor Bytes → Walk
fresh unit = record { src = unit; at = 0 }

-- what its next step says, and the bytes of the part that this step hands out
abbrev pub step_of : Walk → Verdict Found
step_of walk = stepping walk.src.now walk.at

abbrev pub handed_by : Walk → Bytes
handed_by walk = handed_out walk.src.now (step_of walk)

-- the reader behind that step
abbrev pub behind : Walk → Walk
behind walk = record { src = walk.src; at = place_after walk.src.now walk.at }

-- the valid readers: those at a valid place. A fresh reader is valid, whatever its bytes are, and every step keeps
-- this.
abbrev pub ValidWalk : Walk → Type 0
ValidWalk walk = WalkPlace walk.src.now walk.at

-- ---- a whole walk
-- the steps from a place hand out these payloads, in order, and come to another place
pub data HandsOut (unit : Bytes) : ℕ → List Bytes → ℕ → Type 0 where
  none : {at : ℕ} → HandsOut unit at [] at
  first : {at at' : ℕ} {ps : List Bytes} (p : Part) → stepping unit at ≡ passed (payload p)
      → HandsOut unit p.next ps at' → HandsOut unit at (take p.bytes (drop p.start unit) ∷ ps) at'

-- and the step after them says this
abbrev pub WalkSays : Bytes → ℕ → List Bytes → Verdict Found → Type 0
WalkSays unit at ps says = (at' : ℕ) × HandsOut unit at ps at' × (stepping unit at' ≡ says)

-- the steps from a place to the end hand out these payloads, in order
abbrev pub Walks : Bytes → ℕ → List Bytes → Type 0
Walks unit at ps = WalkSays unit at ps (passed end)

-- the same by a reader
pub data ReaderHandsOut : Walk → List Bytes → Walk → Type 0 where
  reader_none : {walk : Walk} → ReaderHandsOut walk [] walk
  reader_first : {walk walk' : Walk} {ps : List Bytes} (p : Part) → step_of walk ≡ passed (payload p)
      → ReaderHandsOut (behind walk) ps walk' → ReaderHandsOut walk (handed_by walk ∷ ps) walk'

abbrev pub ReaderSays : Walk → List Bytes → Verdict Found → Type 0
ReaderSays walk ps says = (walk' : Walk) × ReaderHandsOut walk ps walk' × (step_of walk' ≡ says)

abbrev pub ReaderWalks : Walk → List Bytes → Type 0
ReaderWalks walk ps = ReaderSays walk ps (passed end)
