-- The check of a segment: the answer, and what the three outputs then hold. Assumes nothing.
use Rattle.std.specs.Prelude.{ℕ, ◌≡◌}
use Rattle.lists.specs.Lists.{Bytes}
use Rattle.segment_rules.specs.Check.{Outputs, rooms_of, outputs_after, check_in}
use Rattle.segment_rules.specs.Comparison.{check_compared}
use Rattle.segment.specs.Answer.{checking, disagreement_of}
use Rattle.answers.specs.declared.segments.SegmentAnswer.{SegmentAnswer}
use Rattle.answers.specs.Answers.{segment_answer}

-- in the edition of this number
pub record ChecksSegment (edition : ℕ) (segment : Bytes) (before : Outputs) (r : SegmentAnswer) (after : Outputs)
    : Type 0 where
  pub answers : r
      ≡ segment_answer (checking edition (rooms_of before) segment)
      (disagreement_of (check_compared edition (rooms_of before) segment))
  pub leaves : after ≡ outputs_after (check_in edition (rooms_of before) segment) before
