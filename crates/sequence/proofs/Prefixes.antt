-- A read looks at no bit behind those that it takes. So bytes behind a header that is not cut short change nothing of it. Assumes nothing.
use Prim.Native.Nat.{ℕ, zero, suc, ◌+◌, ◌*◌}
use mathlib.Core.Bool.{Bool, true, false, not, ◌&&◌}
use mathlib.Core.Path.{◌≡◌, refl, sym, ap, subst}
use mathlib.Core.List.{List, [], ◌∷◌, ◌++◌}
use lib.Dec.{eqb, ltb}
use Rattle.lists.specs.Lists.{Bytes, pick}
use Rattle.lists.specs.Bytes.{bits}
use Rattle.refusal.specs.Verdict.{NoValue}
use Rattle.sequence.specs.Bits.{bits_of, Reader, Outcome, read, cut_short, after, ◌>>=◌, ◌>>◌, return}
use Rattle.sequence.specs.Bits.{f, f_from, flag, skip, when, times, zeros_from, uvlc}
use Rattle.sequence.specs.Header.{timing_info, decoder_model_info, timed_model, delay_length, operating_parameters, decoder_model}
use Rattle.sequence.specs.Header.{display_delay, operating_point, operating_points, reduced_point, frame_size, id_lengths, frame_ids}
use Rattle.sequence.specs.Header.{integer_mv, order_tools, screen_tools, inter_tools, frames_and_tools, described_color, color_description}
use Rattle.sequence.specs.Header.{is_srgb, coded_subsampling, subsampling, positioned, grey, other_color, chroma_format, color_config}
use Rattle.sequence.specs.Header.{sequence_header, header_of}
use Rattle.sequence.specs.declared.color.Color.{Color}
use Rattle.sequence.specs.declared.color.Description.{Description}
use Rattle.sequence.specs.declared.points.Point.{Point}

-- o says what p says, with these bits more left over; where p is cut short nothing is said of o
abbrev pub Extends : {A : Type 0} → List ℕ → Outcome A → Outcome A → Type 0
Extends more (read v left) o = o ≡ read v (left ++ more)
Extends more cut_short o = Unit {0}

-- with more bits behind, the same is read
pub record Local {A : Type 0} (m : Reader A) : Type 0 where
  pub extends : (l more : List ℕ) → Extends more (m l) (m (l ++ more))

-- ---- the reads
local_return : {A : Type 0} (v : A) → Local (return v)
unfolding return
local_return v = record { extends = λ l more. refl }

from_extends : (x n : ℕ) (l more : List ℕ) → Extends more (f_from x n l) (f_from x n (l ++ more))
unfolding f_from
from_extends x zero l more = refl
from_extends x (suc n) [] more = tt
from_extends x (suc n) (b ∷ l) more = from_extends (2 * x + b) n l more

local_f : (n : ℕ) → Local (f n)
local_f n = record { extends = from_extends 0 n }

zeros_extend : (n : ℕ) (l more : List ℕ) → Extends more (zeros_from n l) (zeros_from n (l ++ more))
unfolding zeros_from
zeros_extend n [] more = tt
zeros_extend n (zero ∷ l) more = zeros_extend (suc n) l more
zeros_extend n (suc b ∷ l) more = refl

on_after : {A B : Type 0} (next : A → Reader B) (more : List ℕ) (p o : Outcome A)
    → ((v : A) → Local (next v)) → Extends more p o → Extends more (after next p) (after next o)
on_after next more (read v left) o h e = subst (λ x. Extends more (next v left) (after next x)) (sym e) ((h v).extends left more)
on_after next more cut_short o h e = tt

local_bind : {A B : Type 0} {m : Reader A} (next : A → Reader B) → Local m → ((v : A) → Local (next v)) → Local (m >>= next)
unfolding ◌>>=◌
local_bind {m = m} next p h = record { extends = λ l more. on_after next more (m l) (m (l ++ more)) h (p.extends l more) }

local_then : {A B : Type 0} {m : Reader A} {n : Reader B} → Local m → Local n → Local (m >> n)
unfolding ◌>>◌
local_then {m = m} {n = n} p q = record { extends = λ l more. on_after (λ _. n) more (m l) (m (l ++ more)) (λ _. q) (p.extends l more) }

local_pick : {A : Type 0} {m n : Reader A} (t : Bool) → Local m → Local n → Local (pick t m n)
unfolding pick
local_pick true p q = p
local_pick false p q = q

local_when : {m : Reader NoValue} (t : Bool) → Local m → Local (when t m)
unfolding when
local_when t p = local_pick t p (local_return tt)

local_flag : Local flag
unfolding flag
local_flag = local_bind _ (local_f 1) (λ x. local_return (eqb x 1))

local_skip : (n : ℕ) → Local (skip n)
unfolding skip
local_skip n = local_then (local_f n) (local_return tt)

local_times : {A : Type 0} {m : Reader A} (n : ℕ) → Local m → Local (times n m)
unfolding times
local_times zero p = local_return tt
local_times (suc n) p = local_then p (local_times n p)

local_uvlc : Local uvlc
unfolding uvlc
local_uvlc = local_bind _ (record { extends = zeros_extend 0 }) (λ z. local_when (ltb z 32) (local_skip z))

-- ---- the header's parts
local_timing : Local timing_info
unfolding timing_info
local_timing = local_then (local_skip 32) (local_then (local_skip 32) (local_bind _ local_flag (λ t. local_when t local_uvlc)))

local_model : Local decoder_model_info
unfolding decoder_model_info
local_model =
    local_bind _ (local_f 5)
    (λ n. local_then (local_skip 32) (local_then (local_skip 5) (local_then (local_skip 5) (local_return (n + 1)))))

local_timed : Local timed_model
unfolding timed_model
local_timed = local_then local_timing (local_bind _ local_flag (λ t. local_pick t local_model (local_return 0)))

local_length : Local delay_length
unfolding delay_length
local_length = local_bind _ local_flag (λ t. local_pick t local_timed (local_return 0))

local_decoder_model : (n : ℕ) → Local (decoder_model n)
unfolding decoder_model operating_parameters
local_decoder_model n = local_bind _ local_flag (λ t. local_when t (local_then (local_skip n) (local_then (local_skip n) (local_skip 1))))

local_display : Local display_delay
unfolding display_delay
local_display = local_bind _ local_flag (λ t. local_when t (local_skip 4))

local_point : (n : ℕ) (t : Bool) → Local (operating_point n t)
unfolding operating_point
local_point n t =
    local_then (local_skip 12)
    (local_bind _ (local_f 5)
    (λ level. local_bind _ (local_pick (ltb 7 level) (local_f 1) (local_return 0))
    (λ tier. local_then (local_when (ltb 0 n) (local_decoder_model n)) (local_then (local_when t local_display) (local_return _)))))

local_points : Local operating_points
unfolding operating_points
local_points =
    local_bind _ local_length
    (λ n. local_bind _ local_flag
    (λ t. local_bind _ (local_f 5)
    (λ k. local_bind _ (local_point n t) (λ p. local_then (local_times k (local_point n t)) (local_return p)))))

local_reduced : Local reduced_point
unfolding reduced_point
local_reduced = local_bind _ (local_f 5) (λ level. local_return _)

local_size : Local frame_size
unfolding frame_size
local_size = local_bind _ (local_f 4) (λ w. local_bind _ (local_f 4) (λ h. local_then (local_skip (w + 1)) (local_skip (h + 1))))

local_ids : Local frame_ids
unfolding frame_ids id_lengths
local_ids = local_bind _ local_flag (λ t. local_when t (local_then (local_skip 4) (local_skip 3)))

local_mv : Local integer_mv
unfolding integer_mv
local_mv = local_bind _ local_flag (λ t. local_when (not t) (local_skip 1))

local_screen : Local screen_tools
unfolding screen_tools
local_screen = local_bind _ local_flag (λ t. local_pick t (local_return 2) (local_f 1))

local_tools : Local inter_tools
unfolding inter_tools order_tools
local_tools =
    local_then (local_skip 1) (local_then (local_skip 1) (local_then (local_skip 1) (local_then (local_skip 1)
    (local_bind _ local_flag
    (λ t. local_then (local_when t (local_then (local_skip 1) (local_skip 1)))
    (local_bind _ local_screen (λ n. local_then (local_when (ltb 0 n) local_mv) (local_when t (local_skip 3)))))))))

local_frames : (t : Bool) → Local (frames_and_tools t)
unfolding frames_and_tools
local_frames t =
    local_then local_size (local_then (local_when (not t) local_ids)
    (local_then (local_skip 1) (local_then (local_skip 1) (local_then (local_skip 1)
    (local_then (local_when (not t) local_tools) (local_then (local_skip 1) (local_then (local_skip 1) (local_skip 1))))))))

local_description : Local color_description
unfolding color_description described_color
local_description =
    local_bind _ local_flag
    (λ t. local_pick t
    (local_bind _ (local_f 8) (λ p. local_bind _ (local_f 8) (λ q. local_bind _ (local_f 8) (λ m. local_return _)))) (local_return _))

local_subsampling : (profile twelve : ℕ) → Local (subsampling profile twelve)
unfolding subsampling coded_subsampling
local_subsampling profile twelve =
    local_pick (eqb profile 0) (local_return _)
    (local_pick (eqb profile 1) (local_return _)
    (local_pick (eqb twelve 1)
    (local_bind _ (local_f 1) (λ x. local_bind _ (local_pick (eqb x 1) (local_f 1) (local_return 0)) (λ y. local_return _)))
    (local_return _)))

local_positioned : (c : Color) → Local (positioned c)
unfolding positioned
local_positioned c = local_bind _ (local_pick (eqb c.x 1 && eqb c.y 1) (local_f 2) (local_return 0)) (λ p. local_return _)

local_chroma : (profile twelve mono : ℕ) (d : Description) → Local (chroma_format profile twelve mono d)
unfolding chroma_format grey other_color
local_chroma profile twelve mono d =
    local_pick (eqb mono 1) (local_then (local_skip 1) (local_return _))
    (local_pick (is_srgb d) (local_return _) (local_then (local_skip 1) (local_bind _ (local_subsampling profile twelve) local_positioned)))

local_color : (profile : ℕ) (p : Point) → Local (color_config profile p)
unfolding color_config
local_color profile p =
    local_bind _ (local_f 1)
    (λ high. local_bind _ (local_pick (eqb profile 2 && eqb high 1) (local_f 1) (local_return 0))
    (λ twelve. local_bind _ (local_pick (not (eqb profile 1)) (local_f 1) (local_return 0))
    (λ mono. local_bind _ local_description (λ d. local_bind _ (local_chroma profile twelve mono d) (λ c. local_return _)))))

pub local_header : Local sequence_header
unfolding sequence_header
local_header =
    local_bind _ (local_f 3)
    (λ profile. local_then (local_skip 1)
    (local_bind _ local_flag
    (λ t. local_bind _ (local_pick t local_reduced local_points) (λ p. local_then (local_frames t) (local_color profile p)))))

-- ---- bytes behind a content
bits_append : (s more : Bytes) → bits_of (s ++ more) ≡ bits_of s ++ bits_of more
unfolding bits_of
bits_append [] more = refl
bits_append (b ∷ s) more =
    ap (λ (l : List ℕ). bits 7 7 b ∷ bits 6 6 b ∷ bits 5 5 b ∷ bits 4 4 b ∷ bits 3 3 b ∷ bits 2 2 b ∷ bits 1 1 b ∷ bits 0 0 b ∷ l)
    (bits_append s more)

-- a header that is not cut short reads the same with more bytes behind it
pub header_extends : (content more : Bytes) → Extends (bits_of more) (header_of content) (header_of (content ++ more))
header_extends content more =
    subst (λ (l : List ℕ). Extends (bits_of more) (header_of content) (sequence_header l)) (sym (bits_append content more))
    (local_header.extends (bits_of content) (bits_of more))
