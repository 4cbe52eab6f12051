-- The bound of each field that is not past its width. Assumes nothing.
use Prim.Native.Nat.{◌<◌}
use mathlib.Core.Bool.{false}
use mathlib.Core.Path.{◌≡◌}
use borrow.Author.Tests.{leb-false}
use Rattle.lists.proofs.Tests.{or_neither}
use Rattle.descriptor.specs.declared.fields.Fields.{Fields}
use Rattle.descriptor.specs.Descriptor.{profile_level_past, tier_to_chroma_past, hdr_past, past_width}

pub profile_level_within : (f : Fields) → profile_level_past f ≡ false
    → (f.seq_profile < 8) × (f.seq_level_idx_0 < 32)
unfolding profile_level_past
profile_level_within f e = let h = or_neither _ _ e in (leb-false 8 _ h.0, leb-false 32 _ h.1)

pub record TierToChroma (f : Fields) : Type 0 where
  pub tier : f.seq_tier_0 < 2
  pub high : f.high_bitdepth < 2
  pub twelve : f.twelve_bit < 2
  pub mono : f.monochrome < 2
  pub x : f.chroma_subsampling_x < 2
  pub y : f.chroma_subsampling_y < 2
  pub position : f.chroma_sample_position < 4

pub tier_to_chroma_within : (f : Fields) → tier_to_chroma_past f ≡ false → TierToChroma f
unfolding tier_to_chroma_past
tier_to_chroma_within f e =
    let position = or_neither _ _ e in
    let y = or_neither _ _ position.0 in
    let x = or_neither _ _ y.0 in
    let mono = or_neither _ _ x.0 in
    let twelve = or_neither _ _ mono.0 in
    let high = or_neither _ _ twelve.0 in
    record {
      tier = leb-false 2 _ high.0;
      high = leb-false 2 _ high.1;
      twelve = leb-false 2 _ twelve.1;
      mono = leb-false 2 _ mono.1;
      x = leb-false 2 _ x.1;
      y = leb-false 2 _ y.1;
      position = leb-false 4 _ position.1;
    }

pub hdr_within : (f : Fields) → hdr_past f ≡ false → f.hdr_wcg_idc < 4
hdr_within f e = leb-false 4 _ e

-- no byte has a field past its width
pub each_within : (f : Fields) → past_width f ≡ false
    → (profile_level_past f ≡ false) × (tier_to_chroma_past f ≡ false) × (hdr_past f ≡ false)
unfolding past_width
each_within f e = let h = or_neither _ _ e in let k = or_neither _ _ h.0 in (k.0, k.1, h.1)
