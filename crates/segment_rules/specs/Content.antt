-- Where the OBUs of an accepted segment's units stand: with the map's entries and the units themselves, what the sheet
-- of request 2026-09 is made of. Its words stand over each definition. Assumes nothing.
use Rattle.std.specs.Prelude.{ℕ, suc, ◌+◌, List, [], ◌∷◌, ◌++◌, length}
use Rattle.lists.specs.Lists.{Bytes}
use Rattle.lists.specs.Bytes.{byte}
use Rattle.emulation.specs.Payload.{unescape}
use Rattle.obu.specs.Header.{type_bits}
use Rattle.tsobu.specs.StartCodes.{payloads}
use Rattle.segment_rules.specs.State.{AccessUnit}

-- "OBUs (unit, type, carried payload offset in its unit, payload length)"
pub record ObuPlace : Type 0 where
  pub unit : ℕ
  pub obu_type : ℕ
  pub offset : ℕ
  pub size : ℕ

-- an OBU whose start code, of three bytes, stands here, and whose payload this is
abbrev pub place_of : ℕ → ℕ → Bytes → ObuPlace
place_of unit at payload =
    record { unit = unit; obu_type = type_bits (byte (unescape payload) 0); offset = at + 3; size = length payload }

-- the OBUs of a unit with these payloads, of which the first has its start code here
unfoldable pub places_from : ℕ → ℕ → List Bytes → List ObuPlace
places_from unit at [] = []
places_from unit at (w ∷ ws) = place_of unit at w ∷ places_from unit (at + 3 + length w) ws

-- of a carried unit
abbrev pub places_in : ℕ → Bytes → List ObuPlace
places_in unit carried = places_from unit 0 (payloads carried)

-- "in .. unit and OBU order": of these units, of which the first has this index
unfoldable pub places_of : ℕ → List AccessUnit → List ObuPlace
places_of unit [] = []
places_of unit (u ∷ units) = places_in unit u.carried ++ places_of (suc unit) units
