-- What the check's answer says. Assumes nothing.
use Rattle.refusal.specs.declared.Refused.{Refused}
use Rattle.std.specs.Prelude.{ℕ, ◌≡◌, List, length, Result, Ok, Err, Option, None}
use Rattle.lists.specs.Lists.{Bytes}
use Rattle.refusal.specs.Verdict.{Verdict, passed, refused, ◌>>=◌}
use Rattle.refusal.specs.Number.{says}
use Rattle.descriptor.specs.Edition.{Edition, edition_of}
use Rattle.comparison.specs.declared.Disagreement.{Disagreement}
use Rattle.pmt.specs.Answer.{map_of, no_map}
use Rattle.pmt.specs.declared.section.ProgramMap.{ProgramMap}
use Rattle.segment_rules.specs.Rules.{Rooms}
use Rattle.segment_rules.specs.Check.{Accepted, Outputs, check_segment, check_in, rooms_of, outputs_after, firsts_after}
use Rattle.segment_rules.specs.Comparison.{Answered, check_compared}
use Rattle.segment.specs.declared.checking.Summary.{Summary}
use Rattle.segment.specs.declared.checking.Accepted.{Accepted as AcceptedSegment}
use Rattle.segment.specs.declared.comparing.Compared.{Compared}

-- "Acceptance gives program number, AV1 PID, unit count and packet totals in five classes"
abbrev pub summary_of : Accepted → Summary
summary_of a = record { program = a.program; pid = a.map.av1.pid; units = length a.units; totals = a.totals }

-- the answer of the check of a segment, whose outputs have these lengths: a summary, or the refusal
unfoldable pub summarised : Verdict Accepted → Verdict Summary
summarised v = do
  a ← v
  passed (summary_of a)

-- in the edition of this number
abbrev pub checking : ℕ → Rooms → Bytes → Verdict Summary
checking n rooms segment = summarised (check_in n rooms segment)

-- the map beside the answer: that of the accepted segment, or none
unfoldable pub map_after : Edition → Verdict Accepted → ProgramMap
map_after edition (passed a) = map_of edition a.map
map_after edition (refused number place) = no_map

unfoldable pub map_in : Verdict Edition → Rooms → Bytes → ProgramMap
map_in (passed edition) rooms segment = map_after edition (check_segment edition rooms segment)
map_in (refused number place) rooms segment = no_map

abbrev pub map_checked : ℕ → Rooms → Bytes → ProgramMap
map_checked n rooms segment = map_in (edition_of n) rooms segment

-- the disagreement beside the answer: that of the accepted segment, or none
abbrev pub disagreement_of : Verdict Answered → Option Disagreement
disagreement_of (passed a) = a.disagreement
disagreement_of (refused number place) = None

-- ---- what the code returns
-- the answer, and beside it the map of an accepted segment; of a refused one, no map
pub record Checked : Type 0 where
  pub answer : Result Summary Refused
  pub map : ProgramMap

abbrev pub checked : Result AcceptedSegment Refused → Checked
checked (Ok a) = record { answer = Ok a.summary; map = a.map }
checked (Err q) = record { answer = Err q; map = no_map }

-- the answer, and of an accepted segment the first disagreement of a sequence header with the video descriptor; none
-- where the segment is refused
pub record AnsweredBeside : Type 0 where
  pub answer : Result Summary Refused
  pub disagreement : Option Disagreement

abbrev pub answered : Result Compared Refused → AnsweredBeside
answered (Ok c) = record { answer = Ok c.summary; disagreement = c.disagreement }
answered (Err q) = record { answer = Err q; disagreement = None }

-- ---- what the check promises, of outputs that held `before` and a list of first packets that held `firsts`
-- the answer, the map beside it, and what the outputs and the list then hold, where this is the verdict
pub record Checks (v : Verdict Accepted) (m : ProgramMap) (before : Outputs) (firsts : List ℕ) (r : Checked)
    (after : Outputs) (firsts' : List ℕ) : Type 0 where
  pub answers : says r.answer ≡ summarised v
  pub beside : r.map ≡ m
  pub leaves : after ≡ outputs_after v before
  pub began : firsts' ≡ firsts_after v firsts

-- in the edition of this number
abbrev pub ChecksIn : ℕ → Bytes → Outputs → List ℕ → Checked → Outputs → List ℕ → Type 0
ChecksIn n segment before firsts r after firsts' =
    Checks (check_in n (rooms_of before) segment) (map_checked n (rooms_of before) segment) before firsts r after
    firsts'

-- and with the comparison of 2026-04 beside it
pub record ChecksCompared (n : ℕ) (segment : Bytes) (before : Outputs) (r : AnsweredBeside) (after : Outputs)
    : Type 0 where
  pub answers : says r.answer ≡ checking n (rooms_of before) segment
  pub compared : r.disagreement ≡ disagreement_of (check_compared n (rooms_of before) segment)
  pub leaves : after ≡ outputs_after (check_in n (rooms_of before) segment) before
