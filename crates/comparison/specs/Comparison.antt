-- The sequence headers of carried units compared with a descriptor's fields. The words of document 02, request 2026-04,
-- stand over each definition; the comparison of one header is that of crates/sequence. Assumes nothing.
use Rattle.std.specs.Prelude.{ℕ, suc, Bool, ◌||◌, eqb, drop, Option}
use Rattle.std.specs.Prelude.{Option as Found, Some, None}
use mathlib.Core.List.{List, [], ◌∷◌, map, flatten}
use Rattle.lists.specs.Lists.{Bytes, pick}
use Rattle.lists.specs.Bytes.{byte}
use Rattle.refusal.specs.Verdict.{Verdict, passed, refused}
use Rattle.obu.specs.declared.header.Header.{Header}
use Rattle.obu.specs.Header.{type_bits, header_of}
use Rattle.unit.specs.Unit.{obus_in}
use Rattle.descriptor.specs.declared.fields.Fields.{Fields}
use Rattle.sequence.specs.Comparison.{comparing}
use Rattle.comparison.specs.declared.Disagreement.{Disagreement}

-- ---- the sequence headers
-- the content of an OBU of type 1, which stands behind its header; of another OBU nothing
unfoldable pub sequence_content : Verdict Header → Bytes → List Bytes
sequence_content (passed header) obu = pick (eqb header.obu_type 1) (drop header.content obu ∷ []) []
sequence_content (refused number place) obu = []

-- of these OBUs, in order
abbrev pub headers_of : List Bytes → List Bytes
headers_of obus = flatten (map (λ obu. sequence_content (header_of obu) obu) obus)

-- "each sequence header": the contents of those of a unit
abbrev pub sequence_headers : Bytes → List Bytes
sequence_headers carried = headers_of (obus_in carried)

-- ---- those before the frame
-- an OBU with this first byte has type 3 or 6
abbrev pub frame_type : ℕ → Bool
frame_type first = eqb (type_bits first) 3 || eqb (type_bits first) 6

abbrev pub is_frame : Bytes → Bool
is_frame obu = frame_type (byte obu 0)

-- the OBUs before the first of these types
unfoldable pub until_frame : List Bytes → List Bytes
until_frame [] = []
until_frame (obu ∷ obus) = pick (is_frame obu) [] (obu ∷ until_frame obus)

-- the sequence headers among them: all those of a unit that reading accepts, since the order has the frame last
-- (proofs/Frames.antt, `all_before_frame`)
abbrev pub headers_before_frame : Bytes → List Bytes
headers_before_frame carried = headers_of (until_frame (obus_in carried))

-- ---- the first that disagrees
-- "its first differing field in descriptor order, or none" (seq_profile is field 0); "43 in place of the field where
-- that header is cut short, whatever differs before"
abbrev pub field_of : Verdict (Found ℕ) → Option ℕ
field_of (passed (Some n)) = Some n
field_of (passed None) = None
field_of (refused number place) = Some number

-- "the unit of the first header .. that disagrees or is cut short, with its first differing field" (the struct in
-- src/lib.rt)
abbrev pub in_unit : ℕ → Option ℕ → Option Disagreement
in_unit unit None = None
in_unit unit (Some field) = Some (record { unit = unit; field = field })

-- the first of two that is there
abbrev pub or_else : {A : Type 0} → Option A → Option A → Option A
or_else None later = later
or_else (Some d) later = Some d

-- "the first header in stream order": of the headers of a unit
unfoldable pub first_of : Fields → List Bytes → Option ℕ
first_of d [] = None
first_of d (content ∷ headers) = or_else (field_of (comparing content d)) (first_of d headers)

-- of units by their headers, of which the first unit has this index
unfoldable pub first_from : ℕ → Fields → List (List Bytes) → Option Disagreement
first_from unit d [] = None
first_from unit d (headers ∷ units) = or_else (in_unit unit (first_of d headers)) (first_from (suc unit) d units)
