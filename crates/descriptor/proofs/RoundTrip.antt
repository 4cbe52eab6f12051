-- Writing and reading: what is written reads as its fields, and what is read writes as its bytes exactly where no delay was
-- present; and what a rewrite tries and says. Assumes nothing.
use Rattle.std.specs.Prelude.{Option, None}
use Prim.Native.Nat.{ℕ, ◌+◌, ◌*◌, ◌/◌, ◌%◌, ◌^◌, ◌<◌, ◌≤◌}
use mathlib.Core.Bool.{Bool, true, false, ◌||◌}
use mathlib.Core.Path.{◌≡◌, refl, sym, ap, ap₂, ◌∙◌}
use mathlib.Core.List.{[], ◌∷◌}
use native.Mathlib.Omega.{arith}
use borrow.Author.Tests.{lt-leb, le-ltb, eqb-true, not-false}
use native.Mathlib.Nat.{mod-lt}
use lib.Pow.{pow_pos}
use lib.Dec.{eqb, ltb}
use lib.ListN.{length, drop_of_length-le}
use Rattle.lists.specs.Lists.{Bytes, pick}
use Rattle.lists.specs.Bytes.{byte, bits}
use Rattle.lists.proofs.Tables.{all_below, below}
use Rattle.lists.proofs.Parts.{next3}
use Rattle.lists.proofs.Tests.{case, or_neither}
use Rattle.refusal.specs.Verdict.{passed, ◌>>=◌, ◌>>◌, given}
use Rattle.refusal.proofs.Verdicts.{pass_on, passed_after, given_passed, passed_same}
use Rattle.descriptor.specs.declared.fields.Fields.{Fields}
use Rattle.descriptor.specs.declared.fields.Video.{Video}
use Rattle.descriptor.specs.Descriptor.{video_tag, video_length, marker_version, fields_of, delay_of, delay_present}
use Rattle.descriptor.specs.Descriptor.{version_wrong, zeros_wrong, wrong, reading, writing, is_present, rewriting}
use Rattle.descriptor.specs.Descriptor.{past, profile_level_past, tier_to_chroma_past, past_width}
use Rattle.descriptor.specs.Descriptor.{profile_level, tier_to_chroma, no_delay, hdr_no_delay, descriptor_of}
use Rattle.descriptor.proofs.Widths.{profile_level_within, tier_to_chroma_within, hdr_within, each_within}

-- ---- what is written, read
fields_back : (f : Fields) → past_width f ≡ false → fields_of (descriptor_of f) ≡ f
unfolding fields_of descriptor_of
fields_back f e =
    let parts = each_within f e in
    let p = profile_level_within f parts.0 in
    let t = tier_to_chroma_within f parts.1 in
    let h = hdr_within f parts.2 in
    let profile : bits 7 5 (profile_level f) ≡ f.seq_profile = omega arith in
    let level : bits 4 0 (profile_level f) ≡ f.seq_level_idx_0 = omega arith in
    let tier : bits 7 7 (tier_to_chroma f) ≡ f.seq_tier_0 = omega arith in
    let high : bits 6 6 (tier_to_chroma f) ≡ f.high_bitdepth = omega arith in
    let twelve : bits 5 5 (tier_to_chroma f) ≡ f.twelve_bit = omega arith in
    let mono : bits 4 4 (tier_to_chroma f) ≡ f.monochrome = omega arith in
    let x : bits 3 3 (tier_to_chroma f) ≡ f.chroma_subsampling_x = omega arith in
    let y : bits 2 2 (tier_to_chroma f) ≡ f.chroma_subsampling_y = omega arith in
    let position : bits 1 0 (tier_to_chroma f) ≡ f.chroma_sample_position = omega arith in
    let hdr : bits 7 6 (hdr_no_delay f) ≡ f.hdr_wcg_idc = omega arith in
    rw (profile, level, tier, high, twelve, mono, x, y, position, hdr)

-- the bits behind hdr_wcg_idc are 0: no delay
module _ (f : Fields) where
  delay_absent : delay_of (hdr_no_delay f) ≡ None
  unfolding delay_of pick
  delay_absent = let present : bits 4 4 (hdr_no_delay f) ≡ 0 = omega arith in rw present

  right : wrong (descriptor_of f) ≡ false
  unfolding wrong descriptor_of version_wrong zeros_wrong
  right =
      let reserved : bits 5 5 (hdr_no_delay f) ≡ 0 = omega arith in
      let present : bits 4 4 (hdr_no_delay f) ≡ 0 = omega arith in
      let low : bits 3 0 (hdr_no_delay f) ≡ 0 = omega arith in
      rw (reserved, present, low)

  within_read : past_width f ≡ false → reading (descriptor_of f) ≡ passed (record { fields = f; delay = None })
  unfolding reading descriptor_of
  within_read e =
      sym
      (pass_on 40 right
      (sym (ap₂ (λ (x : Fields) (y : Option ℕ). passed (record { fields = x; delay = y })) (fields_back f e) delay_absent)))

  -- "Writing then reading gives all fields back": and no delay
  pub written_read : (room n : ℕ) → writing f room ≡ passed n
      → reading (descriptor_of f) ≡ passed (record { fields = f; delay = None })
  unfolding writing
  written_read room n e = within_read (given_passed 41 (past_width f) (passed_after _ _ n e).0)

-- ---- what is read, written
-- a string of six bytes, byte by byte
six : (d : Bytes) → length d ≡ 6 → d ≡ byte d 0 ∷ byte d 1 ∷ byte d 2 ∷ byte d 3 ∷ byte d 4 ∷ byte d 5 ∷ []
six d e =
    next3 d 0 (omega arith) ∙ ap (λ (l : Bytes). byte d 0 ∷ byte d 1 ∷ byte d 2 ∷ l)
    (next3 d 3 (omega arith) ∙ ap (λ (l : Bytes). byte d 3 ∷ byte d 4 ∷ byte d 5 ∷ l) (drop_of_length-le d {i = 6} (omega arith)))

-- what a descriptor is that is not refused
pub record Right (d : Bytes) : Type 0 where
  pub long : length d ≡ 6
  pub tag : byte d 0 ≡ video_tag
  pub size : byte d 1 ≡ video_length
  pub first : version_wrong (byte d 2) ≡ false
  pub last : zeros_wrong (byte d 5) ≡ false

not_wrong : (d : Bytes) → wrong d ≡ false → Right d
unfolding wrong
not_wrong d e =
    let last = or_neither _ _ e in
    let first = or_neither _ _ last.0 in
    let size = or_neither _ _ first.0 in
    let tag = or_neither _ _ size.0 in
    record {
      long = eqb-true _ _ (not-false _ tag.0);
      tag = eqb-true _ _ (not-false _ tag.1);
      size = eqb-true _ _ (not-false _ size.1);
      first = first.1;
      last = last.1;
    }

first_back : (b : ℕ) → b < 256 → version_wrong b ≡ false → b ≡ marker_version
unfolding version_wrong
first_back b h e =
    let parts = or_neither _ _ e in
    let m : bits 7 7 b ≡ 1 = eqb-true _ _ (not-false _ parts.0) in
    let v : bits 6 0 b ≡ 1 = eqb-true _ _ (not-false _ parts.1) in
    omega arith

second_back : (b : ℕ) → b < 256 → bits 7 5 b * 2 ^ 5 + bits 4 0 b ≡ b
second_back b h = omega arith

-- the fifth byte and the last, by a test of every byte
abbrev third : ℕ → ℕ
third b =
    bits 7 7 b * 2 ^ 7
    + bits 6 6 b * 2 ^ 6
    + bits 5 5 b * 2 ^ 5
    + bits 4 4 b * 2 ^ 4
    + bits 3 3 b * 2 ^ 3
    + bits 2 2 b * 2 ^ 2
    + bits 1 0 b

third_tested : all_below (λ b. eqb (third b) b) 256 ≡ true
unfolding all_below
third_tested = refl

third_back : (b : ℕ) → b < 256 → third b ≡ b
third_back b h = eqb-true (third b) b (below (λ x. eqb (third x) x) 256 third_tested b h)

-- the last byte with no delay
last_tested : all_below (λ b. zeros_wrong b || (delay_present b || eqb (bits 7 6 b * 2 ^ 6 + no_delay) b)) 256 ≡ true
unfolding all_below zeros_wrong
last_tested = refl

or_second : (x y : Bool) → x ≡ false → (x || y) ≡ true → y ≡ true
or_second x y e h = rw e at h

last_back : (b : ℕ) → b < 256 → zeros_wrong b ≡ false → delay_present b ≡ false → bits 7 6 b * 2 ^ 6 + no_delay ≡ b
last_back b h e k =
    let all = below (λ x. zeros_wrong x || (delay_present x || eqb (bits 7 6 x * 2 ^ 6 + no_delay) x)) 256 last_tested b h in
    eqb-true _ b (or_second (delay_present b) _ k (or_second (zeros_wrong b) _ e all))

-- a number of so many bits is not past its width
narrow : (width x : ℕ) → past width (x % 2 ^ width) ≡ false
narrow width x = lt-leb (2 ^ width) (x % 2 ^ width) (mod-lt x (pow_pos width))

read_within : (d : Bytes) → past_width (fields_of d) ≡ false
unfolding past_width profile_level_past tier_to_chroma_past fields_of
read_within d =
    let b3 = byte d 3 in
    let b4 = byte d 4 in
    rw (narrow 3 (b3 / 32), narrow 5 (b3 / 1), narrow 1 (b4 / 128), narrow 1 (b4 / 64), narrow 1 (b4 / 32))
    (rw (narrow 1 (b4 / 16), narrow 1 (b4 / 8), narrow 1 (b4 / 4), narrow 2 (b4 / 1), narrow 2 (byte d 5 / 64)))

-- the delay is present exactly where its bit is set
present_bit : (b : ℕ) → is_present (delay_of b) ≡ delay_present b
unfolding delay_of pick
present_bit b = case (delay_present b) (λ e. rw e) (λ e. rw e)

-- what reading passes, it passes as these fields and this delay
module _ (d : Bytes) (v : Video) (e : reading d ≡ passed v) where
  read_right : Right d
  unfolding reading
  read_right = not_wrong d (given_passed 40 (wrong d) (passed_after _ _ v e).0)

  pub read_as : v ≡ record { fields = fields_of d; delay = delay_of (byte d 5) }
  unfolding reading
  read_as = sym (passed_same _ v (passed_after _ _ v e).1)

  -- a rewrite's bytes read as the same fields, and no delay
  pub rewritten_read : reading (descriptor_of v.fields) ≡ passed (record { fields = v.fields; delay = None })
  rewritten_read = within_read v.fields (ap (λ (w : Video). past_width w.fields) read_as ∙ read_within d)

  back : ((i : ℕ) → byte d i < 256) → delay_present (byte d 5) ≡ false → descriptor_of (fields_of d) ≡ d
  unfolding descriptor_of fields_of
  back h k =
      let r = read_right in
      let first = first_back (byte d 2) (h 2) r.first in
      let last = last_back (byte d 5) (h 5) r.last k in
      rw (second_back (byte d 3) (h 3), third_back (byte d 4) (h 4), last)
      (sym (six d r.long ∙ rw (r.tag, r.size, first)))

  -- "reading then writing gives the bytes back exactly where no delay was present"
  pub read_written : (room : ℕ) → ((i : ℕ) → byte d i < 256) → 6 ≤ room
      → (writing v.fields room ≡ passed 6)
      × (v.delay ≡ None → descriptor_of v.fields ≡ d)
      × (descriptor_of v.fields ≡ d → v.delay ≡ None)
  unfolding writing descriptor_of
  read_written room h k = (
    sym (pass_on 41 (ap (λ (w : Video). past_width w.fields) read_as ∙ read_within d) (pass_on 8 (le-ltb room 6 k) refl)),
    λ absent.
        let no = sym (present_bit (byte d 5)) ∙ ap is_present (sym (ap (λ (w : Video). w.delay) read_as) ∙ absent) in
        ap (λ (w : Video). descriptor_of w.fields) read_as ∙ back h no,
    λ same. ap (λ (w : Video). w.delay) (passed_same _ _ (sym e ∙ ap reading (sym same) ∙ rewritten_read)),
  )

-- "a rewrite says that it dropped one exactly where one was present": 40, then 8, and then whether the bit was set
pub rewriting_tries : (d : Bytes) (room : ℕ)
    → rewriting d room
    ≡ (given 40 (wrong d)
    >> (given 8 (ltb room 6) >> passed (record { bytes = 6; dropped_delay = delay_present (byte d 5) })))
unfolding rewriting reading writing descriptor_of ◌>>=◌ ◌>>◌ given pick
rewriting_tries d room =
    case (wrong d) (λ e. rw e)
    (λ e. rw (e, read_within d, present_bit (byte d 5)) (case (ltb room 6) (λ short. rw short) (λ long. rw long)))
