-- The C structs, for each verdict. Number 0 says that nothing was refused; in a refusal every field but number and
-- place is 0, but that of a walk's step says that it stays. Assumes nothing.
use Rattle.std.specs.Prelude.{ℕ, List, [], ◌∷◌, Option, Some, None}
use Rattle.lists.specs.Lists.{Bytes}
use Rattle.lists.specs.Bytes.{byte}
use Rattle.refusal.specs.Verdict.{Verdict, passed, refused}
use Rattle.emulation.specs.declared.unescaping.Counts.{Counts as UnescapedCounts}
use Rattle.unit.specs.declared.reading.Counts.{Counts as UnitCounts}
use Rattle.tsobu.specs.Walk.{Found, payload, end}
use Rattle.descriptor.specs.declared.fields.Fields.{Fields}
use Rattle.descriptor.specs.declared.fields.Video.{Video}
use Rattle.comparison.specs.declared.Disagreement.{Disagreement}
use Rattle.segment.specs.declared.checking.Summary.{Summary}
use Rattle.answers.specs.declared.answer.Answer.{Answer}
use Rattle.answers.specs.declared.segments.Comparison.{Comparison}
use Rattle.answers.specs.declared.segments.SegmentAnswer.{SegmentAnswer}
use Rattle.answers.specs.declared.video_descriptor.VideoDescriptor.{VideoDescriptor}
use Rattle.answers.specs.declared.walk.WalkStep.{WalkStep}

abbrev pub refusal_answer : ℕ → ℕ → Answer
refusal_answer number place = record { number = number; place = place; count = 0; bytes = 0; dropped = 0 }

-- escaping, and writing a unit. count: the bytes written
abbrev pub count_answer : Verdict ℕ → Answer
count_answer (passed n) = record { number = 0; place = 0; count = n; bytes = 0; dropped = 0 }
count_answer (refused number place) = refusal_answer number place

-- count: the bytes written; dropped: the bytes dropped
abbrev pub unescape_answer : Verdict UnescapedCounts → Answer
unescape_answer (passed n) = record { number = 0; place = 0; count = n.written; bytes = 0; dropped = n.dropped }
unescape_answer (refused number place) = refusal_answer number place

-- count: the OBUs; bytes: their bytes together; dropped: the bytes dropped in all
abbrev pub unit_answer : Verdict UnitCounts → Answer
unit_answer (passed n) = record { number = 0; place = 0; count = n.obus; bytes = n.bytes; dropped = n.dropped }
unit_answer (refused number place) = refusal_answer number place

-- ---- the walk
abbrev pub no_payload : ℕ → ℕ → ℕ → ℕ → WalkStep
no_payload number place ended at =
    record { number = number; place = place; end = ended; start = 0; length = 0; next_at = at }

-- «next_at»: the place of the first step
abbrev pub start_answer : Verdict ℕ → WalkStep
start_answer (passed at) = no_payload 0 0 0 at
start_answer (refused number place) = no_payload number place 0 0

-- a payload's start, length and the place of the next step; at the end, and where a step refused, the walk stays at its
-- place
abbrev pub step_answer : ℕ → Verdict Found → WalkStep
step_answer at (passed (payload p)) =
    record { number = 0; place = 0; end = 0; start = p.start; length = p.bytes; next_at = p.next }
step_answer at (passed end) = no_payload 0 0 1 at
step_answer at (refused number place) = no_payload number place 0 at

-- ---- the video descriptor
-- the ten fields, in descriptor order
abbrev pub field_list : Fields → List ℕ
field_list f =
    f.seq_profile
    ∷ f.seq_level_idx_0
    ∷ f.seq_tier_0
    ∷ f.high_bitdepth
    ∷ f.twelve_bit
    ∷ f.monochrome
    ∷ f.chroma_subsampling_x
    ∷ f.chroma_subsampling_y
    ∷ f.chroma_sample_position
    ∷ f.hdr_wcg_idc
    ∷ []

-- the fields; «delay_present» 1 and the delay, or 0 and 0
abbrev pub video_answer : Fields → (Option ℕ) → VideoDescriptor
video_answer f None = record { number = 0; place = 0; field = field_list f; delay_present = 0; delay = 0 }
video_answer f (Some n) = record { number = 0; place = 0; field = field_list f; delay_present = 1; delay = n }

abbrev pub descriptor_answer : Verdict Video → VideoDescriptor
descriptor_answer (passed v) = video_answer v.fields v.delay
descriptor_answer (refused number place) =
    record {
      number = number;
      place = place;
      field = 0 ∷ 0 ∷ 0 ∷ 0 ∷ 0 ∷ 0 ∷ 0 ∷ 0 ∷ 0 ∷ 0 ∷ [];
      delay_present = 0;
      delay = 0;
    }

-- what is handed in for writing: the fields in descriptor order
abbrev pub fields_from : Bytes → Fields
fields_from field =
    record {
      seq_profile = byte field 0;
      seq_level_idx_0 = byte field 1;
      seq_tier_0 = byte field 2;
      high_bitdepth = byte field 3;
      twelve_bit = byte field 4;
      monochrome = byte field 5;
      chroma_subsampling_x = byte field 6;
      chroma_subsampling_y = byte field 7;
      chroma_sample_position = byte field 8;
      hdr_wcg_idc = byte field 9;
    }

-- ---- a segment
-- 2026-04: "the answer gains the unit of the first header in stream order that disagrees or is cut short .., with its
-- first differing field in descriptor order, or none", and "43 in place of the field": compared is 1 where there is one
abbrev pub comparison_answer : Option Disagreement → Comparison
comparison_answer None = record { compared = 0; unit = 0; field = 0 }
comparison_answer (Some d) = record { compared = 1; unit = d.unit; field = d.field }

-- what acceptance gives
abbrev pub accepted_with : Comparison → Summary → SegmentAnswer
accepted_with c s =
    record {
      number = 0;
      place = 0;
      program = s.program;
      pid = s.pid;
      units = s.units;
      null_packets = s.totals.null;
      section = s.totals.section;
      av1 = s.totals.av1;
      other_listed = s.totals.other_listed;
      unlisted = s.totals.unlisted;
      compared = c.compared;
      unit = c.unit;
      field = c.field;
    }

abbrev pub accepted_answer : Summary → Option Disagreement → SegmentAnswer
accepted_answer s d = accepted_with (comparison_answer d) s

-- "A refused segment returns number and place, all else 0"
abbrev pub refused_answer : ℕ → ℕ → SegmentAnswer
refused_answer number place =
    record {
      number = number;
      place = place;
      program = 0;
      pid = 0;
      units = 0;
      null_packets = 0;
      section = 0;
      av1 = 0;
      other_listed = 0;
      unlisted = 0;
      compared = 0;
      unit = 0;
      field = 0;
    }

abbrev pub segment_answer : Verdict Summary → Option Disagreement → SegmentAnswer
segment_answer (passed s) d = accepted_answer s d
segment_answer (refused number place) d = refused_answer number place
