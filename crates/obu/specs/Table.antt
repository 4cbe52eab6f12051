-- The order rule as a table. Request 2026-07: "one table of type, with type 3 twice by 2026-02's flag, against the
-- position reached, and prove each entry to be what the order rule says". The table stands in src/ordering.rt; here
-- stands what its entries say, in terms of the sentence of document 01 (`OrderLegal`). Assumes nothing.
use Rattle.std.specs.Prelude.{ℕ, ◌<◌, ◌↔◌, Option, Some, None, List, [], ◌∷◌, ◌++◌, get_or}
use Rattle.obu.specs.declared.ordering.Kind.TheVariants as code
use Rattle.obu.specs.declared.ordering.Kind as code_kind
use Rattle.obu.specs.declared.ordering.Position.TheVariants as at
use Rattle.obu.specs.declared.ordering.Position as code_position
use Rattle.obu.specs.Order.{Kind, sequence_header, temporal_delimiter, frame_header, shown_again, tile_group, metadata}
use Rattle.obu.specs.Order.{frame}
use Rattle.obu.specs.Order.{redundant_frame_header, tile_list, padding, reserved, kind_of_number, OrderLegal}

-- the position reached: nothing yet; the front, where the frame may begin; a frame header, the last OBU being no tile
-- group; a frame header, the last OBU being a tile group; the whole frame; or the order is broken
pub data Position : Type 0 where
  start front tiles ended whole broken : Position

-- the kind that a value of the code's `Kind` (src/ordering.rt) means
abbrev pub kind_meant : code_kind.Kind → Kind
kind_meant code.Reserved = reserved
kind_meant code.SequenceHeader = sequence_header
kind_meant code.TemporalDelimiter = temporal_delimiter
kind_meant code.FrameHeader = frame_header
kind_meant code.TileGroup = tile_group
kind_meant code.Metadata = metadata
kind_meant code.Frame = frame
kind_meant code.RedundantFrameHeader = redundant_frame_header
kind_meant code.TileList = tile_list
kind_meant code.Padding = padding
kind_meant code.ShownAgain = shown_again

-- the position that an entry of the table means
abbrev pub position_meant : Option code_position.Position → Position
position_meant (Some at.Start) = start
position_meant (Some at.Front) = front
position_meant (Some at.Tiles) = tiles
position_meant (Some at.Ended) = ended
position_meant (Some at.Whole) = whole
position_meant None = broken

-- What a position means: which lists may follow there. They are those that make a legal unit behind no OBU, behind a 2,
-- behind a 3, behind a 3 and a 4, behind a 6; where the order is broken, none.
unfoldable pub MayFollow : Position → List Kind → Type 0
MayFollow start rest = OrderLegal rest
MayFollow front rest = OrderLegal (temporal_delimiter ∷ rest)
MayFollow tiles rest = OrderLegal (frame_header ∷ rest)
MayFollow ended rest = OrderLegal (frame_header ∷ tile_group ∷ rest)
MayFollow whole rest = OrderLegal (frame ∷ rest)
MayFollow broken rest = ⊥

-- OBUs of these kinds reach a position: what may follow them is what may follow there
abbrev pub Reach : List Kind → Position → Type 0
Reach kinds position = (rest : List Kind) → OrderLegal (kinds ++ rest) ↔ MayFollow position rest

-- an OBU of a kind leads from a position to the next: what may follow behind it is what may follow there
unfoldable pub LeadsTo : Position → Kind → Position → Type 0
LeadsTo position kind next = (rest : List Kind) → MayFollow position (kind ∷ rest) ↔ MayFollow next rest

-- the column of a position in the table
abbrev pub column_of : code_position.Position → ℕ
column_of at.Start = 0
column_of at.Front = 1
column_of at.Tiles = 2
column_of at.Ended = 3
column_of at.Whole = 4

-- "each entry to be what the order rule says": in the row of a kind's number and the column of a position stands the
-- position that an OBU of the kind leads to
unfoldable pub IsOrderTable : List (List (Option code_position.Position)) → Type 0
IsOrderTable table =
    (kind : ℕ) (position : code_position.Position) → kind < 17
    → LeadsTo (position_meant (Some position)) (kind_of_number kind)
    (position_meant (get_or (get_or table kind []) (column_of position) None))
