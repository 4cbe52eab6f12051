-- Every case of the table holds: a test that antt computes over the whole table, and that the test is sound at each case. Assumes nothing.
use Rattle.std.specs.Prelude.{Option, Some, None}
use Prim.Native.Nat.{ℕ, ◌<◌}
use mathlib.Core.Bool.{Bool, true, false, ◌&&◌}
use mathlib.Core.Path.{◌≡◌, refl, ap, ap₂}
use mathlib.Core.List.{[], ◌∷◌}
use borrow.Author.Tests.{eqb-true}
use lib.Dec.{eqb}
use lib.ListN.{length, get_or}
use Rattle.lists.specs.Lists.{Bytes, pick, same, all}
use Rattle.lists.specs.Bytes.{byte}
use Rattle.lists.proofs.Tests.{and_both, clash, same_bytes}
use Rattle.lists.proofs.Tables.{each}
use Rattle.refusal.specs.Verdict.{Verdict, passed, refused, ◌>>=◌, ◌>>◌, given, at_place, passes as is_passed}
use Rattle.emulation.specs.Payload.{escape, escape_after, unescape, dropped, legal, forbidden, above3, first_forbidden}
use Rattle.emulation.specs.Answer.{unescaping}
use Rattle.emulation.specs.declared.unescaping.Counts.{Counts}
use Rattle.obu.specs.Leb128.{leb128, leb_within, low_first, in_range}
use Rattle.obu.specs.Header.{obu_refusal, judged, header_of, sized_header, size_of, header_with, fixed_bytes}
use Rattle.descriptor.specs.declared.fields.Fields.{Fields}
use Rattle.descriptor.specs.declared.fields.Video.{Video}
use Rattle.descriptor.specs.Descriptor.{fields_of, delay_of, version_wrong, zeros_wrong, wrong, reading}
use Rattle.refusal.proofs.Verdicts.{passes_passed}
use Rattle.cases.specs.Cases.{Case, escapes, unescapes, illegal, describes, passes, refuses, Holds, cases}

is_refused : {A : Type 0} → ℕ → ℕ → Verdict A → Bool
is_refused number place (passed _) = false
is_refused number place (refused n p) = eqb n number && eqb p place

is_unescaped : ℕ → ℕ → Verdict Counts → Bool
is_unescaped written dropped (passed c) = eqb c.written written && eqb c.dropped dropped
is_unescaped written dropped (refused number place) = false

-- the ten fields in order, and back
numbers : Fields → Bytes
numbers f =
    f.seq_profile
    ∷ f.seq_level_idx_0
    ∷ f.seq_tier_0
    ∷ f.high_bitdepth
    ∷ f.twelve_bit
    ∷ f.monochrome
    ∷ f.chroma_subsampling_x
    ∷ f.chroma_subsampling_y
    ∷ f.chroma_sample_position
    ∷ f.hdr_wcg_idc
    ∷ []

named : Bytes → Fields
named s =
    record {
      seq_profile = byte s 0;
      seq_level_idx_0 = byte s 1;
      seq_tier_0 = byte s 2;
      high_bitdepth = byte s 3;
      twelve_bit = byte s 4;
      monochrome = byte s 5;
      chroma_subsampling_x = byte s 6;
      chroma_subsampling_y = byte s 7;
      chroma_sample_position = byte s 8;
      hdr_wcg_idc = byte s 9;
    }

same_delay : (Option ℕ) → (Option ℕ) → Bool
same_delay None None = true
same_delay None (Some n) = false
same_delay (Some m) None = false
same_delay (Some m) (Some n) = eqb m n

is_video : Video → Verdict Video → Bool
is_video video (passed v) = same (numbers v.fields) (numbers video.fields) && same_delay v.delay video.delay
is_video video (refused number place) = false

test : Case → Bool
test (escapes obu w) = same (escape obu) w
test (unescapes payload w d) = is_unescaped (length w) d (unescaping payload (length w)) && same (unescape payload) w
test (describes d video) = is_video video (reading d)
test (passes obu) = is_passed (obu_refusal obu)
test (refuses obu number) = is_refused number 0 (obu_refusal obu)
test (illegal payload place) = is_refused 10 place (unescaping payload (length payload))

is_refused_lem : {A : Type 0} (number place : ℕ) (v : Verdict A) → is_refused number place v ≡ true → v ≡ refused number place
unfolding is_refused
is_refused_lem number place (passed _) e = clash e refl
is_refused_lem number place (refused n p) e =
    let h = and_both (eqb n number) (eqb p place) e in
    ap₂ refused (eqb-true n number h.0) (eqb-true p place h.1)

is_unescaped_lem : (written dropped : ℕ) (v : Verdict Counts) → is_unescaped written dropped v ≡ true
    → v ≡ passed (record { written = written; dropped = dropped })
unfolding is_unescaped
is_unescaped_lem written dropped (passed c) e =
    let h = and_both (eqb c.written written) (eqb c.dropped dropped) e in
    ap₂ (λ (w d : ℕ). passed (record { written = w; dropped = d })) (eqb-true c.written written h.0)
    (eqb-true c.dropped dropped h.1)
is_unescaped_lem written dropped (refused number place) e = clash e refl

same_fields : (f g : Fields) → same (numbers f) (numbers g) ≡ true → f ≡ g
unfolding numbers named
same_fields f g e = ap named (same_bytes (numbers f) (numbers g) e)

same_delay_lem : (a b : Option ℕ) → same_delay a b ≡ true → a ≡ b
unfolding same_delay
same_delay_lem None None e = refl
same_delay_lem None (Some n) e = clash e refl
same_delay_lem (Some m) None e = clash e refl
same_delay_lem (Some m) (Some n) e = ap Some (eqb-true m n e)

is_video_lem : (video : Video) (v : Verdict Video) → is_video video v ≡ true → v ≡ passed video
unfolding is_video
is_video_lem video (passed v) e =
    let h = and_both (same (numbers v.fields) (numbers video.fields)) (same_delay v.delay video.delay) e in
    ap₂ (λ (f : Fields) (d : Option ℕ). passed (record { fields = f; delay = d })) (same_fields v.fields video.fields h.0)
    (same_delay_lem v.delay video.delay h.1)
is_video_lem video (refused number place) e = clash e refl

sound : (c : Case) → test c ≡ true → Holds c
unfolding test
sound (escapes obu w) e = same_bytes (escape obu) w e
sound (unescapes payload w d) e =
    let h = and_both (is_unescaped (length w) d (unescaping payload (length w))) (same (unescape payload) w) e in
    (is_unescaped_lem (length w) d (unescaping payload (length w)) h.0, same_bytes (unescape payload) w h.1)
sound (describes d video) e = is_video_lem video (reading d) e
sound (passes obu) e = passes_passed (obu_refusal obu) e
sound (refuses obu number) e = is_refused_lem number 0 (obu_refusal obu) e
sound (illegal payload place) e = is_refused_lem 10 place (unescaping payload (length payload)) e

-- the table passes, by computation
tested : all test cases ≡ true
unfolding all test same cases escape_after unescape dropped legal forbidden above3 first_forbidden unescaping at_place is_refused
    is_unescaped is_video numbers same_delay reading wrong version_wrong zeros_wrong fields_of delay_of judged header_of sized_header
    size_of
    header_with fixed_bytes leb128 leb_within low_first in_range given pick ◌>>◌ ◌>>=◌
tested = refl

-- the one statement: every case of the table holds of the definitions
pub cases_hold : (k : ℕ) → k < length cases → Holds (get_or cases k (escapes [] []))
cases_hold k h = sound (get_or cases k (escapes [] [])) (each test (escapes [] []) cases tested k h)
