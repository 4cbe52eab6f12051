-- The verdict on one tsOBU, by its payload. The words of document 01, "One access unit", stand over each definition,
-- and of requests 2026-02 and 2026-03 where they amend them. Assumes nothing.
use Rattle.std.specs.Prelude.{not, eqb, length}
use Rattle.lists.specs.Lists.{Bytes}
use Rattle.refusal.specs.Verdict.{Verdict, passed, ◌>>=◌, ◌>>◌, NoValue, given}
use Rattle.emulation.specs.Payload.{legal, unescape, dropped}
use Rattle.obu.specs.Header.{header_of, obu_refusal}
use Rattle.tsobu.specs.declared.judging.Figures.{Figures}

-- "for each tsOBU .. 3, 10, 4, 5, 6", and 2026-02: "42 .. after 6 for that OBU, in reading and in writing"
unfoldable pub tsobu_refusal : Bytes → Verdict NoValue
tsobu_refusal payload = do
  given 3 (eqb (length payload) 0)
  given 10 (not (legal payload))
  obu_refusal (unescape payload)

-- the verdict on one payload: 3, 10, 4, 5, 6, 42; the header of its OBU, which has the width of the size, and the bytes
-- dropped
unfoldable pub tsobu_figures : Bytes → Verdict Figures
tsobu_figures payload = do
  tsobu_refusal payload
  header ← header_of (unescape payload)
  passed (record { header = header; dropped = dropped payload })
