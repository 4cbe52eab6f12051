-- "Proved about the definitions, by a single statement over the table" (document 01): the table, and what each case
-- says. Assumes nothing.
use Rattle.std.specs.Prelude.{ℕ, ◌≡◌, List, [], ◌∷◌, length, None}
use Rattle.lists.specs.Lists.{Bytes}
use Rattle.refusal.specs.Verdict.{passed, refused}
use Rattle.obu.specs.Header.{obu_refusal}
use Rattle.descriptor.specs.declared.fields.Video.{Video}
use Rattle.descriptor.specs.Descriptor.{reading}
use Rattle.emulation.specs.Payload.{escape, unescape}
use Rattle.emulation.specs.Answer.{unescaping}

pub data Case : Type 0 where
  -- "escape: .. gives .."
  escapes : Bytes → Bytes → Case
  -- "Unescape: .. gives .., one dropped"
  unescapes : Bytes → Bytes → ℕ → Case
  -- ".. is 10 at .."
  illegal : Bytes → ℕ → Case
  -- "Descriptor: .. is .."
  describes : Bytes → Video → Case
  -- "OBU .. passes"
  passes : Bytes → Case
  -- "OBU .. is .."
  refuses : Bytes → ℕ → Case

abbrev pub Holds : Case → Type 0
Holds (escapes obu w) = escape obu ≡ w
Holds (unescapes payload w d) =
    (unescaping payload (length w) ≡ passed (record { written = length w; dropped = d })) × (unescape payload ≡ w)
Holds (illegal payload place) = unescaping payload (length payload) ≡ refused 10 place
Holds (describes d video) = reading d ≡ passed video
Holds (passes obu) = obu_refusal obu ≡ passed tt
Holds (refuses obu number) = obu_refusal obu ≡ refused number 0

-- "profile 0, level 8, subsampling 1 and 1, hdr_wcg 3, all else 0, no delay"
abbrev pub level8 : Video
level8 =
    record {
      fields =
          record {
            seq_profile = 0;
            seq_level_idx_0 = 8;
            seq_tier_0 = 0;
            high_bitdepth = 0;
            twelve_bit = 0;
            monochrome = 0;
            chroma_subsampling_x = 1;
            chroma_subsampling_y = 1;
            chroma_sample_position = 0;
            hdr_wcg_idc = 3;
          };
      delay = None;
    }

unfoldable pub cases : List Case
cases =
    escapes [] []
    ∷ escapes (0 ∷ 0 ∷ []) (0 ∷ 0 ∷ [])
    ∷ escapes (0 ∷ 0 ∷ 0 ∷ []) (0 ∷ 0 ∷ 3 ∷ 0 ∷ [])
    ∷ escapes (0 ∷ 0 ∷ 3 ∷ []) (0 ∷ 0 ∷ 3 ∷ 3 ∷ [])
    ∷ escapes (0 ∷ 0 ∷ 4 ∷ []) (0 ∷ 0 ∷ 4 ∷ [])
    ∷ escapes (0 ∷ 0 ∷ 0 ∷ 0 ∷ 0 ∷ []) (0 ∷ 0 ∷ 3 ∷ 0 ∷ 0 ∷ 3 ∷ 0 ∷ [])
    ∷ unescapes (0 ∷ 0 ∷ 3 ∷ []) (0 ∷ 0 ∷ []) 1
    ∷ illegal (0 ∷ 0 ∷ 3 ∷ 4 ∷ []) 0
    ∷ illegal (0x41 ∷ 0 ∷ 0 ∷ 0 ∷ []) 1
    ∷ describes (0x80 ∷ 0x04 ∷ 0x81 ∷ 0x08 ∷ 0x0C ∷ 0xC0 ∷ []) level8
    ∷ passes (0x32 ∷ 0x82 ∷ 0x00 ∷ 0xAA ∷ 0xBB ∷ [])
    ∷ refuses (0x32 ∷ 0x02 ∷ 0xAA ∷ []) 5
    ∷ []
