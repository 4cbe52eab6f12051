-- What the lister prints for a carried unit. The words of document 01, "Cases to prove (one table) and to run", and of
-- request 2026-03 stand over each definition. Assumes nothing.
use Rattle.std.specs.Prelude.{ℕ, suc, List, [], ◌∷◌, ◌++◌, ltb, length}
use Rattle.lists.specs.Lists.{Bytes}
use Rattle.refusal.specs.Verdict.{Verdict, passed, refused, ◌>>◌, given}
use Rattle.emulation.specs.Payload.{unescape}
use Rattle.obu.specs.Header.{size_bytes}
use Rattle.tsobu.specs.StartCodes.{payloads}
use Rattle.unit.specs.Answer.{checking}
use Rattle.tsobu.specs.TsObu.{tsobu_figures}
use Rattle.tsobu.specs.declared.judging.Figures.{Figures}
use Rattle.unit.specs.declared.reading.Counts.{Counts}
use Rattle.listing.specs.Text.{ascii, decimal}

-- ---- lines; every line ends with a newline
-- "A refusal prints `refused`, number, place."
unfoldable pub refusal_line : ℕ → ℕ → Bytes
refusal_line number place = ascii "refused " ++ decimal number ++ ascii " " ++ decimal place ++ ascii "\n"

-- "Header: OBU count, bytes dropped in all"
unfoldable pub header_line : ℕ → ℕ → Bytes
header_line obus removed = ascii "obus " ++ decimal obus ++ ascii " removed " ++ decimal removed ++ ascii "\n"

-- "then index, type, OBU length, bytes dropped"; 2026-03: "The lister's OBU lines gain ` width w` at the end"
unfoldable pub obu_line : ℕ → ℕ → ℕ → ℕ → ℕ → Bytes
obu_line index type size removed width =
    decimal index ++ ascii " type " ++ decimal type ++ ascii " size " ++ decimal size ++ ascii " removed "
    ++ decimal removed
    ++ ascii " width " ++ decimal width ++ ascii "\n"

-- the line of the OBU that a payload carries, by the verdict on the payload, which has the header with the type and the
-- width (one that is refused has no line; no payload of a listed unit is)
abbrev pub line_said : ℕ → Bytes → Verdict Figures → Bytes
line_said index payload (passed figures) =
    obu_line index figures.header.obu_type (length (unescape payload)) figures.dropped
    (size_bytes figures.header.size)
line_said index payload (refused number place) = []

abbrev pub payload_line : ℕ → Bytes → Bytes
payload_line index payload = line_said index payload (tsobu_figures payload)

-- the lines of payloads, of which the first has this index
unfoldable pub payload_lines : ℕ → List Bytes → Bytes
payload_lines index [] = []
payload_lines index (payload ∷ rest) = payload_line index payload ++ payload_lines (suc index) rest

-- ---- the text
-- "The lister program reads a carried unit of at most 65,536 bytes"
abbrev pub most_listed : ℕ
most_listed = 65536

-- "more prints `refused 2 0`"; then the refusals of reading, or the figures of the unit
unfoldable pub judging_listed : Bytes → Verdict Counts
judging_listed unit = do
  given 2 (ltb most_listed (length unit))
  checking unit

-- the text for a unit with these payloads
abbrev pub text_saying : Verdict Counts → List Bytes → Bytes
text_saying (refused number place) payloads = refusal_line number place
text_saying (passed counts) payloads = header_line counts.obus counts.dropped ++ payload_lines 0 payloads

unfoldable pub list_text : Bytes → Bytes
list_text unit = text_saying (judging_listed unit) (payloads unit)

-- the most bytes that a text has: a header and 64 lines of at most 129 bytes each. It is promised that no text is
-- longer.
abbrev pub most_text : ℕ
most_text = 8385

-- the text into an output of so many bytes: "8: output too short"; the answer is how many bytes were written
unfoldable pub listing : Bytes → ℕ → Verdict ℕ
listing unit room = do
  given 8 (ltb room (length (list_text unit)))
  passed (length (list_text unit))
