-- Request 2026-10, "Salvage a damaged unit. After line errors the archive wants the good OBUs back." The words of the
-- request stand over each definition. Assumes nothing.
use Rattle.std.specs.Prelude.{ℕ, Bool, false, ◌||◌, List, [], ◌∷◌, map, ltb, length}
use Rattle.lists.specs.Lists.{Bytes, pick, those}
use Rattle.refusal.specs.Verdict.{Verdict, passed, refused, ◌>>◌, NoValue, given, passes}
use Rattle.emulation.specs.Payload.{unescape, marked3}
use Rattle.unit.specs.Unit.{most_obus, most_obu_bytes, most_carried, read_unit, carried}
use Rattle.tsobu.specs.StartCodes.{split, payloads}
use Rattle.tsobu.specs.TsObu.{tsobu_refusal}
use Rattle.salvage.specs.declared.Figures.{Figures}

-- ---- one tsOBU, by its payload
-- "pass 3, 10, 4, 5, 6, 42 and then 2 for an OBU above 1,048,576 bytes"
unfoldable pub salvage_refusal : Bytes → Verdict NoValue
salvage_refusal payload = do
  tsobu_refusal payload
  given 2 (ltb most_obu_bytes (length (unescape payload)))

abbrev pub keeps : Bytes → Bool
keeps payload = passes (salvage_refusal payload)

-- "a closing 03": the payload ends in 00 00 03
unfoldable pub closes : Bytes → Bool
closes [] = false
closes (a ∷ []) = false
closes (a ∷ b ∷ []) = false
closes (a ∷ b ∷ c ∷ []) = marked3 a b c
closes (a ∷ b ∷ c ∷ d ∷ s) = closes (b ∷ c ∷ d ∷ s)

-- "list each original tsOBU as kept, kept with a closing 03 removed, or dropped with its number": 0, 1, or the number,
-- which is neither (it is one of 3, 10, 4, 5, 6, 42, 2)
abbrev pub mark_by : Bool → Verdict NoValue → ℕ
mark_by closing (passed _) = pick closing 1 0
mark_by closing (refused number place) = number

abbrev pub mark : Bytes → ℕ
mark payload = mark_by (closes payload) (salvage_refusal payload)

-- ---- a unit
-- "Split the input at each 00 00 01, drop what precedes the first (everything, where there is none), keep exactly the
-- tsOBUs that pass": their payloads, in order
abbrev pub kept_payloads : Bytes → List Bytes
kept_payloads s = those keeps (payloads s)

-- "the good OBUs"
abbrev pub kept : Bytes → List Bytes
kept s = map unescape (kept_payloads s)

-- "rewrite each in the writer's form": the result
abbrev pub salvaged : Bytes → Bytes
salvaged s = carried (kept s)

-- the marks, one for "each original tsOBU"
abbrev pub marks : Bytes → List ℕ
marks s = map mark (payloads s)

-- "also the count of leading bytes dropped"
abbrev pub leading : Bytes → ℕ
leading s = length (split s).before

-- "The answer says whether reading accepts the result."
abbrev pub accepted : Bytes → Bool
accepted s = passes (read_unit (salvaged s))

-- what the answer has: the bytes written, the tsOBUs of the input, how many of them were kept, the leading bytes
-- dropped, and whether reading accepts the result
abbrev pub figures : Bytes → Figures
figures s =
    record {
      bytes = length (salvaged s);
      tsobus = length (payloads s);
      kept = length (kept s);
      leading = leading s;
      accepted = accepted s;
    }

-- "Refusals: 2 for carried length, 1 for more than 64 tsOBUs, 8 last": into outputs of so many bytes and so many marks
unfoldable pub salvaging : Bytes → ℕ → ℕ → Verdict Figures
salvaging s bytes room = do
  given 2 (ltb most_carried (length s))
  given 1 (ltb most_obus (length (payloads s)))
  given 8 (ltb bytes (length (salvaged s)) || ltb room (length (payloads s)))
  passed (figures s)
