-- The descriptors of a loop, one at a time: what is found in those before a place, and those from there on, are what is found in all.
-- Assumes nothing.
use Rattle.std.specs.Prelude.{None}
use Prim.Native.Nat.{ℕ, zero, suc, ◌+◌, ◌-◌, ◌≤◌, ◌<◌}
use mathlib.Core.Bool.{Bool, true, false, ◌||◌}
use mathlib.Core.Path.{◌≡◌, refl, sym, ap, ap₂, ◌∙◌}
use mathlib.Core.List.{List, [], ◌∷◌, ◌++◌, append-nil, append_assoc}
use native.Mathlib.Omega.{arith}
use borrow.Author.Tests.{lt-ltb, le-ltb, ne_eqb}
use lib.Dec.{eqb, ltb}
use lib.ListN.{length, take, drop, length-drop, drop_of_length-le}
use lib.Seq.{drop-drop, get_or-drop}
use Rattle.lists.specs.Lists.{Bytes, pick, any, those}
use Rattle.lists.specs.Bytes.{byte}
use Rattle.refusal.specs.Verdict.{Verdict, passed, refused, ◌>>=◌, ◌>>◌, given}
use Rattle.descriptor.specs.Edition.{Edition}
use Rattle.pmt.specs.Pmt.{descriptor_size, descriptors_within, descriptors, is_video, video_descriptors, video_wrong, is_registration}
use Rattle.pmt.specs.Pmt.{registration_first, registration_later}
use Rattle.pmt.specs.Answer.{video_of}
use Rattle.pmt.specs.Parts.{videos_of, another_video, with_video, found_in, with_descriptor, loop_found}
use Rattle.pmt.specs.declared.loops.Videos.{Videos}
use Rattle.pmt.specs.declared.loops.Found.{Found}

abbrev having : Bool → Bool → Videos → Found
having first later videos = record { first = first; later = later; videos = videos }

-- ---- one more descriptor than those before it
any_more : {A : Type 0} (f : A → Bool) (l : List A) (a : A) → any f (l ++ (a ∷ [])) ≡ (any f l || f a)
unfolding any
any_more f [] a = or-false (f a)
  where
    or-false : (t : Bool) → (t || false) ≡ t
    or-false true = refl
    or-false false = refl
any_more f (b ∷ l) a = ap (λ (t : Bool). f b || t) (any_more f l a) ∙ sym (or_assoc (f b) (any f l) (f a))
  where
    or_assoc : (x y z : Bool) → ((x || y) || z) ≡ (x || (y || z))
    or_assoc true y z = refl
    or_assoc false y z = refl

those_by : {A : Type 0} (t : Bool) (b : A) (l m : List A)
    → elim t [ true ↦ b ∷ (l ++ m) | false ↦ l ++ m ] ≡ elim t [ true ↦ b ∷ l | false ↦ l ] ++ m
those_by true b l m = refl
those_by false b l m = refl

pub those_append : {A : Type 0} (f : A → Bool) (l m : List A) → those f (l ++ m) ≡ those f l ++ those f m
unfolding those
those_append f [] m = refl
those_append {A} f (b ∷ l) m =
    ap (λ (k : List A). elim (f b) [ true ↦ b ∷ k | false ↦ k ]) (those_append f l m) ∙ those_by (f b) b (those f l) (those f m)

another : (ds : List Bytes) (d : Bytes) → another_video (video_of ds) d ≡ videos_of (ds ++ (d ∷ []))
unfolding video_of video_wrong
another [] d = refl
another (e ∷ []) d = refl
another (e ∷ e' ∷ ds) d = refl

videos_by : (t : Bool) (ds : List Bytes) (d : Bytes) → pick t (another_video (video_of ds) d) (videos_of ds)
    ≡ videos_of (ds ++ elim t [ true ↦ d ∷ [] | false ↦ [] ])
unfolding pick
videos_by true ds d = another ds d
videos_by false ds d = ap videos_of (sym (append-nil ds))

videos_more : (edition : Edition) (ds : List Bytes) (d : Bytes)
    → with_video edition (videos_of (video_descriptors edition ds)) d ≡ videos_of (video_descriptors edition (ds ++ (d ∷ [])))
unfolding with_video those
videos_more edition ds d =
    videos_by (is_video edition d) (video_descriptors edition ds) d
    ∙ ap videos_of (sym (those_append (is_video edition) ds (d ∷ [])))

-- there is none
unfoldable pub is_empty : List Bytes → Bool
is_empty [] = true
is_empty (d ∷ ds) = false

pub found_more : (edition : Edition) (ds : List Bytes) (d : Bytes)
    → with_descriptor edition (found_in edition ds) (is_empty ds) d ≡ found_in edition (ds ++ (d ∷ []))
unfolding with_descriptor is_empty pick registration_first registration_later any
found_more edition [] d = ap (having (is_registration edition d) false) (videos_more edition [] d)
found_more edition (e ∷ ds) d =
    ap₂ (having (is_registration edition e)) (sym (any_more (is_registration edition) ds d)) (videos_more edition (e ∷ ds) d)

-- ---- the loop from a place on
-- the descriptors before the place, what is found in them, and how many may still come
pub record Walked (edition : Edition) (s : Bytes) (found : Found) (at : ℕ) : Type 0 where
  pub within : at ≤ length s
  pub before : List Bytes
  pub start : eqb at 0 ≡ is_empty before
  pub has : found ≡ found_in edition before
  pub spare : ℕ
  pub enough : length s ≤ at + spare
  pub rest : descriptors s ≡ (descriptors_within spare (drop at s) >>= λ more. passed (before ++ more))

bind_passed : {A : Type 0} (v : Verdict A) → v ≡ (v >>= λ a. passed a)
unfolding ◌>>=◌
bind_passed (passed a) = refl
bind_passed (refused number place) = refl

abbrev nothing : Found
nothing = having false false (record { first = None; wrong = false })

pub walk_start : {edition : Edition} (s : Bytes) → Walked edition s nothing 0
unfolding is_empty registration_first registration_later those video_of video_wrong
walk_start s =
    record {
      within = omega arith;
      before = [];
      start = refl;
      has = refl;
      spare = length s;
      enough = omega arith;
      rest = bind_passed (descriptors s);
    }

-- nothing is left
no_more : (n : ℕ) → descriptors_within n [] ≡ passed []
unfolding descriptors_within
no_more zero = refl
no_more (suc n) = refl

pub walk_end : {edition : Edition} {s : Bytes} {found : Found} {at : ℕ} → Walked edition s found at → length s ≤ at
    → passed found ≡ loop_found edition s
unfolding loop_found ◌>>=◌
walk_end {edition} {s} {found} {at} w h =
    let e : descriptors_within w.spare (drop at s) ≡ passed [] =
    ap (descriptors_within w.spare) (drop_of_length-le s {i = at} h) ∙ no_more w.spare in
    let f : descriptors s ≡ passed w.before =
    w.rest ∙ ap (λ (v : Verdict (List Bytes)). v >>= λ more. passed (w.before ++ more)) e ∙ ap passed (append-nil w.before) in
    rw f (ap passed w.has)

-- a string of so many bytes, of which the first so many are a descriptor, and what is behind them
abbrev split : ℕ → ℕ → ℕ → Bytes → Verdict (List Bytes)
split n most size s = given 26 (ltb most size) >> (descriptors_within n (drop size s) >>= λ rest. passed (take size s ∷ rest))

some_more : (n : ℕ) (s : Bytes) → 0 < length s → descriptors_within (suc n) s ≡ split n (length s) (descriptor_size s) s
unfolding descriptors_within
some_more n [] h = absurd (omega arith)
some_more n (b ∷ s) h = refl

behind : (v : Verdict (List Bytes)) (before : List Bytes) (d : Bytes)
    → ((v >>= λ rest. passed (d ∷ rest)) >>= λ more. passed (before ++ more)) ≡ (v >>= λ more. passed ((before ++ (d ∷ [])) ++ more))
unfolding ◌>>=◌
behind (passed ds) before d = ap passed (sym (append_assoc before (d ∷ []) ds))
behind (refused number place) before d = refl

not_empty : (ds : List Bytes) (d : Bytes) → is_empty (ds ++ (d ∷ [])) ≡ false
unfolding is_empty
not_empty [] d = refl
not_empty (e ∷ ds) d = refl

spared : {edition : Edition} {s : Bytes} {found : Found} {at : ℕ} (w : Walked edition s found at) → at < length s
    → (n : ℕ) × (w.spare ≡ suc n)
spared {edition} {s} {found} {at} w h = go w.spare w.enough
  where
    go : (n : ℕ) → length s ≤ at + n → (m : ℕ) × (n ≡ suc m)
    go zero e = absurd (omega arith)
    go (suc m) e = (m, refl)

module _ {edition : Edition} {s : Bytes} {found : Found} {at : ℕ} (w : Walked edition s found at) (h : at < length s) (size : ℕ)
    (e : size ≡ 2 + byte s (at + 1)) where
  left : length (drop at s) ≡ length s - at
  left = length-drop at s

  size_is : descriptor_size (drop at s) ≡ size
  size_is = let f = get_or-drop at s 1 0 in omega arith

  step : descriptors s ≡ (split (spared w h).0 (length s - at) size (drop at s) >>= λ more. passed (w.before ++ more))
  step =
      let n = (spared w h).0 in
      let one : descriptors_within w.spare (drop at s) ≡ split n (length s - at) size (drop at s) =
      ap (λ (k : ℕ). descriptors_within k (drop at s)) (spared w h).1 ∙ some_more n (drop at s) (let l = left in omega arith)
      ∙ ap₂ (λ (a b : ℕ). split n a b (drop at s)) left size_is in
      w.rest ∙ ap (λ (v : Verdict (List Bytes)). v >>= λ more. passed (w.before ++ more)) one

  -- the descriptor runs past the end
  pub walk_short : length s - at < size → refused 26 0 ≡ loop_found edition s
  unfolding loop_found ◌>>=◌ ◌>>◌ given pick
  walk_short k =
      let f : descriptors s ≡ refused 26 0 =
      step
      ∙ ap
      (λ (t : Bool). (given 26 t >> (descriptors_within (spared w h).0 (drop size (drop at s))
      >>= λ rest. passed (take size (drop at s) ∷ rest))) >>= λ more. passed (w.before ++ more))
      (lt-ltb _ _ k) in
      rw f

  -- it does not
  pub walk_next : size ≤ length s - at → (next : Found) → next ≡ with_descriptor edition found (eqb at 0)
      (take (at + size - at) (drop at s))
      → Walked edition s next (at + size)
  unfolding ◌>>◌ given pick
  walk_next k next p =
      let d = take size (drop at s) in
      let part : at + size - at ≡ size = omega arith in
      let n = (spared w h).0 in
      let m : w.spare ≡ suc n = (spared w h).1 in
      let v : Verdict (List Bytes) = descriptors_within n (drop size (drop at s)) in
      let f : descriptors s ≡ ((v >>= λ rest. passed (d ∷ rest)) >>= λ more. passed (w.before ++ more)) =
      step ∙ ap (λ (t : Bool). (given 26 t >> (v >>= λ rest. passed (d ∷ rest))) >>= λ more. passed (w.before ++ more)) (le-ltb _ _ k) in
      record {
        within = omega arith;
        before = w.before ++ (d ∷ []);
        start = ne_eqb (at + size) 0 (λ z. omega arith) ∙ sym (not_empty w.before d);
        has =
            p ∙ ap (λ (k : ℕ). with_descriptor edition found (eqb at 0) (take k (drop at s))) part
            ∙ ap₂ (λ (x : Found) (t : Bool). with_descriptor edition x t d) w.has w.start ∙ found_more edition w.before d;
        spare = n;
        enough = let g = w.enough in omega arith;
        rest =
            f ∙ behind v w.before d
            ∙ ap (λ (l : Bytes). descriptors_within n l >>= λ more. passed ((w.before ++ (d ∷ [])) ++ more)) (drop-drop size at s);
      }
