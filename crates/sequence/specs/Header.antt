-- The sequence header (AV1 5.5) up to chroma_sample_position, in the order of its syntax; a comment behind a read says
-- which element it is. `Sequence` (src/fields.rt) has the nine fields of document 02, request 2026-04, "inferred values
-- as 000 2.2.2 has them". Assumes nothing.
use Rattle.std.specs.Prelude.{ℕ, ◌+◌, Bool, not, ◌&&◌, eqb, ltb}
use Rattle.lists.specs.Lists.{Bytes, pick}
use Rattle.refusal.specs.Verdict.{NoValue}
use Rattle.sequence.specs.Bits.{Reader, Outcome, ◌>>=◌, ◌>>◌, return, f, flag, skip, when, times, uvlc, bits_of}
use Rattle.sequence.specs.declared.fields.Sequence.{Sequence}
use Rattle.sequence.specs.declared.points.Point.{Point}
use Rattle.sequence.specs.declared.color.Color.{Color}
use Rattle.sequence.specs.declared.color.Description.{Description}

-- ---- timing_info (5.5.3)
unfoldable pub timing_info : Reader NoValue
timing_info = do
  skip 32  -- num_units_in_display_tick
  skip 32  -- time_scale
  equal ← flag  -- equal_picture_interval
  when equal uvlc  -- num_ticks_per_picture_minus_1

-- ---- decoder_model_info (5.5.4): how many bits a buffer delay has
unfoldable pub decoder_model_info : Reader ℕ
decoder_model_info = do
  minus_one ← f 5  -- buffer_delay_length_minus_1
  skip 32  -- num_units_in_decoding_tick
  skip 5  -- buffer_removal_time_length_minus_1
  skip 5  -- frame_presentation_time_length_minus_1
  return (minus_one + 1)

-- the two of them: how many bits a buffer delay has, 0 where decoder_model_info_present_flag is 0
unfoldable pub timed_model : Reader ℕ
timed_model = do
  timing_info
  present ← flag  -- decoder_model_info_present_flag
  pick present decoder_model_info (return 0)

unfoldable pub delay_length : Reader ℕ
delay_length = do
  present ← flag  -- timing_info_present_flag
  pick present timed_model (return 0)

-- ---- an operating point; `Point` (src/points.rt) is its seq_level_idx and seq_tier
-- operating_parameters_info (5.5.5)
unfoldable pub operating_parameters : ℕ → Reader NoValue
operating_parameters length = do
  skip length  -- decoder_buffer_delay
  skip length  -- encoder_buffer_delay
  skip 1  -- low_delay_mode_flag

unfoldable pub decoder_model : ℕ → Reader NoValue
decoder_model length = do
  present ← flag  -- decoder_model_present_for_this_op[i]
  when present (operating_parameters length)

unfoldable pub display_delay : Reader NoValue
display_delay = do
  present ← flag  -- initial_display_delay_present_for_this_op[i]
  when present (skip 4)  -- initial_display_delay_minus_1[i]

unfoldable pub operating_point : ℕ → Bool → Reader Point
operating_point length delay_present = do
  skip 12  -- operating_point_idc[i]
  level ← f 5  -- seq_level_idx[i]
  tier ← pick (ltb 7 level) (f 1) (return 0)  -- seq_tier[i]
  when (ltb 0 length) (decoder_model length)
  when delay_present display_delay
  return (record { level = level; tier = tier })

-- the operating points: of which the first is operating point 0
unfoldable pub operating_points : Reader Point
operating_points = do
  length ← delay_length
  delay_present ← flag  -- initial_display_delay_present_flag
  minus_one ← f 5  -- operating_points_cnt_minus_1
  first ← operating_point length delay_present
  times minus_one (operating_point length delay_present)
  return first

-- under reduced_still_picture_header
unfoldable pub reduced_point : Reader Point
reduced_point = do
  level ← f 5  -- seq_level_idx[0]
  return (record { level = level; tier = 0 })

-- ---- frame sizes and tools
unfoldable pub frame_size : Reader NoValue
frame_size = do
  width ← f 4  -- frame_width_bits_minus_1
  height ← f 4  -- frame_height_bits_minus_1
  skip (width + 1)  -- max_frame_width_minus_1
  skip (height + 1)  -- max_frame_height_minus_1

abbrev pub id_lengths : Reader NoValue
id_lengths = do
  skip 4  -- delta_frame_id_length_minus_2
  skip 3  -- additional_frame_id_length_minus_1

unfoldable pub frame_ids : Reader NoValue
frame_ids = do
  present ← flag  -- frame_id_numbers_present_flag
  when present id_lengths

unfoldable pub integer_mv : Reader NoValue
integer_mv = do
  choose ← flag  -- seq_choose_integer_mv
  when (not choose) (skip 1)  -- seq_force_integer_mv

unfoldable pub order_tools : Reader NoValue
order_tools = do
  skip 1  -- enable_jnt_comp
  skip 1  -- enable_ref_frame_mvs

-- SELECT_SCREEN_CONTENT_TOOLS is 2
unfoldable pub screen_tools : Reader ℕ
screen_tools = do
  choose ← flag  -- seq_choose_screen_content_tools
  pick choose (return 2) (f 1)  -- seq_force_screen_content_tools

unfoldable pub inter_tools : Reader NoValue
inter_tools = do
  skip 1  -- enable_interintra_compound
  skip 1  -- enable_masked_compound
  skip 1  -- enable_warped_motion
  skip 1  -- enable_dual_filter
  order_hint ← flag  -- enable_order_hint
  when order_hint order_tools
  tools ← screen_tools
  when (ltb 0 tools) integer_mv
  when order_hint (skip 3)  -- order_hint_bits_minus_1

-- ---- color_config (5.5.2); `Color` and `Description` are in src/color.rt
abbrev pub described_color : Reader Description
described_color = do
  primaries ← f 8  -- color_primaries
  transfer ← f 8  -- transfer_characteristics
  matrix ← f 8  -- matrix_coefficients
  return (record { primaries = primaries; transfer = transfer; matrix = matrix })

-- CP_UNSPECIFIED, TC_UNSPECIFIED, MC_UNSPECIFIED
abbrev pub unspecified : Description
unspecified = record { primaries = 2; transfer = 2; matrix = 2 }

unfoldable pub color_description : Reader Description
color_description = do
  present ← flag  -- color_description_present_flag
  pick present described_color (return unspecified)

-- CP_BT_709, TC_SRGB and MC_IDENTITY
unfoldable pub is_srgb : Description → Bool
is_srgb d = eqb d.primaries 1 && eqb d.transfer 13 && eqb d.matrix 0

-- subsampling_x and subsampling_y, then "chroma_sample_position not coded counts as 0"
abbrev pub chroma : ℕ → ℕ → ℕ → Color
chroma x y position = record { x = x; y = y; position = position }

-- subsampling_y where subsampling_x is 1
unfoldable pub coded_subsampling : Reader Color
coded_subsampling = do
  x ← f 1  -- subsampling_x
  y ← pick (eqb x 1) (f 1) (return 0)  -- subsampling_y
  return (chroma x y 0)

-- by profile; BitDepth is 12 where twelve_bit is 1
unfoldable pub subsampling : ℕ → ℕ → Reader Color
subsampling profile twelve_bit =
    pick (eqb profile 0) (return (chroma 1 1 0))
    (pick (eqb profile 1) (return (chroma 0 0 0))
    (pick (eqb twelve_bit 1) coded_subsampling (return (chroma 1 0 0))))

unfoldable pub positioned : Color → Reader Color
positioned c = do
  position ← pick (eqb c.x 1 && eqb c.y 1) (f 2) (return 0)  -- chroma_sample_position
  return (chroma c.x c.y position)

unfoldable pub grey : Reader Color
grey = do
  skip 1  -- color_range
  return (chroma 1 1 0)

unfoldable pub other_color : ℕ → ℕ → Reader Color
other_color profile twelve_bit = do
  skip 1  -- color_range
  c ← subsampling profile twelve_bit
  positioned c

unfoldable pub chroma_format : ℕ → ℕ → ℕ → Description → Reader Color
chroma_format profile twelve_bit monochrome d =
    pick (eqb monochrome 1) grey (pick (is_srgb d) (return (chroma 0 0 0)) (other_color profile twelve_bit))

-- ---- the nine fields
abbrev pub nine : ℕ → Point → ℕ → ℕ → ℕ → Color → Sequence
nine profile p high_bitdepth twelve_bit monochrome c =
    record {
      seq_profile = profile;
      seq_level_idx_0 = p.level;
      seq_tier_0 = p.tier;
      high_bitdepth = high_bitdepth;
      twelve_bit = twelve_bit;
      monochrome = monochrome;
      chroma_subsampling_x = c.x;
      chroma_subsampling_y = c.y;
      chroma_sample_position = c.position;
    }

-- color_config, behind what the header said of its profile and of operating point 0. "twelve_bit .. not coded counts as
-- 0"
unfoldable pub color_config : ℕ → Point → Reader Sequence
color_config profile p = do
  high_bitdepth ← f 1  -- high_bitdepth
  twelve_bit ← pick (eqb profile 2 && eqb high_bitdepth 1) (f 1) (return 0)  -- twelve_bit
  monochrome ← pick (not (eqb profile 1)) (f 1) (return 0)  -- mono_chrome
  d ← color_description
  c ← chroma_format profile twelve_bit monochrome d
  return (nine profile p high_bitdepth twelve_bit monochrome c)

-- ---- sequence_header_obu (5.5.1), from the frame sizes to the tools
unfoldable pub frames_and_tools : Bool → Reader NoValue
frames_and_tools reduced = do
  frame_size
  when (not reduced) frame_ids
  skip 1  -- use_128x128_superblock
  skip 1  -- enable_filter_intra
  skip 1  -- enable_intra_edge_filter
  when (not reduced) inter_tools
  skip 1  -- enable_superres
  skip 1  -- enable_cdef
  skip 1  -- enable_restoration

unfoldable pub sequence_header : Reader Sequence
sequence_header = do
  profile ← f 3  -- seq_profile
  skip 1  -- still_picture
  reduced ← flag  -- reduced_still_picture_header
  point ← pick reduced reduced_point operating_points
  frames_and_tools reduced
  color_config profile point

-- the header of a content: its nine fields, or it "ends before AV1 5.5 has read or passed by chroma_sample_position"
abbrev pub header_of : Bytes → Outcome Sequence
header_of content = sequence_header (bits_of content)
