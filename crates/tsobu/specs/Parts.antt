-- What the promises of private functions cite; no public promise does. Assumes nothing.
use Rattle.std.specs.Prelude.{ℕ, ◌+◌, ◌/◌, ◌%◌, ◌≤◌, ◌<◌, Bool, true, not, ◌≡◌, ◌⊎◌, length, drop}
use Rattle.lists.specs.Lists.{Bytes}
use Rattle.lists.specs.Bytes.{byte}
use Rattle.refusal.specs.Verdict.{Verdict, passed, ◌>>=◌}
use Rattle.emulation.specs.Payload.{legal, unescape, dropped}
use Rattle.emulation.specs.Blocks.{free_of}
use Rattle.obu.specs.Header.{judged}
use Rattle.tsobu.specs.StartCodes.{at_start_code, split, code_from}
use Rattle.tsobu.specs.declared.start_codes.Scanned.{Scanned}
use Rattle.tsobu.specs.declared.judging.Figures.{Figures}

-- a start code stands at one of the places of a block, or two bytes do not come after it
unfoldable pub coded : Bytes → Bool
coded s = not (free_of at_start_code s)

-- a place where a start code stands, or the end
abbrev pub Place : Bytes → ℕ → Type 0
Place s at = (at ≡ length s) ⊎ (at_start_code (drop at s) ≡ true)

-- where the payload from a place on ends, whether it is legal, and how many bytes of a legal one are dropped
pub record ScannedAt (s : Bytes) (start : ℕ) (r : Scanned) : Type 0 where
  pub ends : r.end ≡ code_from s start
  pub lawful : r.legal ≡ legal (split (drop start s)).before
  pub drops : r.legal ≡ true → r.dropped ≡ dropped (split (drop start s)).before

-- the first bytes of a payload say that its OBU, of n bytes, has a header without extension, a size of one byte, which
-- is right, and content, and that it is a frame header or of a type above that, but no tile list
pub record Short (payload : Bytes) (n : ℕ) : Type 0 where
  pub long : 3 ≤ length payload
  pub fields : byte payload 0 / 2 % 4 ≡ 1
  pub above : 24 ≤ byte payload 0
  pub below : byte payload 0 < 128
  pub no_list : byte payload 0 / 8 ≡ 8 → ⊥
  pub some : byte payload 1 ≡ 0 → ⊥
  pub one_byte : byte payload 1 < 128
  pub whole : byte payload 1 + 2 ≡ n

-- an OBU of so many bytes, by its first ones, of whose payload so many bytes were dropped: 4, 5, 6, 42
unfoldable pub first_figures : Bytes → ℕ → ℕ → Verdict Figures
first_figures first length dropped = do
  header ← judged first length
  passed (record { header = header; dropped = dropped })

-- a legal payload that is not empty: 4, 5, 6, 42
abbrev pub legal_figures : Bytes → Verdict Figures
legal_figures payload = first_figures (unescape payload) (length (unescape payload)) (dropped payload)
