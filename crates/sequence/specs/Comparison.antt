-- The comparison of a sequence header with a descriptor. `Fields` is the descriptor's (crates/descriptor). The words of
-- document 02, request 2026-04, stand over each definition. Assumes nothing.
use Rattle.std.specs.Prelude.{ℕ, suc, true, false, Option, Some, None, List, [], ◌∷◌, eqb}
use Rattle.lists.specs.Lists.{Bytes}
use Rattle.refusal.specs.Verdict.{Verdict, passed, refused, ◌>>=◌}
use Rattle.descriptor.specs.declared.fields.Fields.{Fields}
use Rattle.sequence.specs.Bits.{Outcome, read, cut_short}
use Rattle.sequence.specs.Header.{header_of}
use Rattle.sequence.specs.declared.fields.Sequence.{Sequence}

-- "the nine fields from seq_profile to chroma_sample_position", of a header and of a descriptor
unfoldable pub of_header : Sequence → List ℕ
of_header h =
    h.seq_profile ∷ h.seq_level_idx_0 ∷ h.seq_tier_0 ∷ h.high_bitdepth ∷ h.twelve_bit ∷ h.monochrome
    ∷ h.chroma_subsampling_x ∷ h.chroma_subsampling_y ∷ h.chroma_sample_position ∷ []

unfoldable pub of_descriptor : Fields → List ℕ
of_descriptor d =
    d.seq_profile ∷ d.seq_level_idx_0 ∷ d.seq_tier_0 ∷ d.high_bitdepth ∷ d.twelve_bit ∷ d.monochrome
    ∷ d.chroma_subsampling_x ∷ d.chroma_subsampling_y ∷ d.chroma_sample_position ∷ []

-- "its first differing field in descriptor order, or none": its index, seq_profile's being 0; of these fields, of which
-- the first has this index
unfoldable pub first_differing : ℕ → List ℕ → List ℕ → Option ℕ
first_differing index [] t = None
first_differing index (a ∷ s) [] = None
first_differing index (a ∷ s) (b ∷ t) =
    elim (eqb a b) [ true ↦ first_differing (suc index) s t | false ↦ Some index ]

abbrev pub differing : Sequence → Fields → Option ℕ
differing h d = first_differing 0 (of_header h) (of_descriptor d)

-- "43 in place of the field where that header is cut short, whatever differs before"
abbrev pub or_cut_short : {A : Type 0} → Outcome A → Verdict A
or_cut_short (read a left) = passed a
or_cut_short cut_short = refused 43 0

-- what the header of a content says
unfoldable pub reading : Bytes → Verdict Sequence
reading content = or_cut_short (header_of content)

unfoldable pub comparing : Bytes → Fields → Verdict (Option ℕ)
comparing content d = do
  h ← reading content
  passed (differing h d)
