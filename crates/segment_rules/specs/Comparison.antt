-- The descriptor of an accepted segment compared with its sequence headers. The words of document 02, request 2026-04,
-- stand over each definition; the comparison of carried units is that of crates/comparison. Assumes nothing.
use Rattle.std.specs.Prelude.{ℕ, List, [], ◌∷◌, map, Option, None}
use Rattle.lists.specs.Lists.{Bytes}
use Rattle.refusal.specs.Verdict.{Verdict, passed, ◌>>=◌}
use Rattle.descriptor.specs.Descriptor.{fields_of}
use Rattle.descriptor.specs.Edition.{Edition, edition_of}
use Rattle.comparison.specs.declared.Disagreement.{Disagreement}
use Rattle.comparison.specs.Comparison.{sequence_headers, first_from}
use Rattle.pmt.specs.Pmt.{MapContent, video_descriptors}
use Rattle.segment_rules.specs.State.{AccessUnit}
use Rattle.segment_rules.specs.Rules.{Rooms}
use Rattle.segment_rules.specs.Check.{Accepted, check_segment}

-- "In an accepted segment with a descriptor, each sequence header is compared": of its video descriptors, of which 28
-- allows one
unfoldable pub compared_with : List Bytes → List AccessUnit → Option Disagreement
compared_with [] units = None
compared_with (d ∷ more) units = first_from 0 (fields_of d) (map sequence_headers (map (λ u. u.carried) units))

-- 2026-08: "tag 0x80 is not interpreted (2026-04 answers none)"
abbrev pub compared : Edition → MapContent → List AccessUnit → Option Disagreement
compared edition m units = compared_with (video_descriptors edition m.av1.descriptors) units

-- "the answer gains" it; "the segment stays accepted"
pub record Answered : Type 0 where
  pub accepted : Accepted
  pub disagreement : Option Disagreement

unfoldable pub check_compared : ℕ → Rooms → Bytes → Verdict Answered
check_compared n rooms s = do
  edition ← edition_of n
  a ← check_segment edition rooms s
  passed (record { accepted = a; disagreement = compared edition a.map a.units })
