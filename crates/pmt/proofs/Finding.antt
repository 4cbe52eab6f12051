-- The entries' kinds, taken in one after the other, give the AV1 entry that the definition finds among all of them, or its 28. Assumes
-- nothing.
use Rattle.std.specs.Prelude.{Option}
use Prim.Native.Nat.{ℕ, suc, ◌+◌}
use mathlib.Core.Bool.{Bool, true, false, not, ◌&&◌, ◌||◌}
use mathlib.Core.Path.{◌≡◌, refl, sym, ap, ap₂, ◌∙◌}
use mathlib.Core.List.{List, [], ◌∷◌}
use native.Mathlib.Omega.{arith}
use lib.Dec.{eqb}
use Rattle.lists.specs.Lists.{Bytes, pick, any, those}
use Rattle.lists.proofs.Elements.{those_first, those_others, any_now, any_later}
use Rattle.lists.proofs.Picks.{by_true, either}
use Rattle.lists.proofs.Tests.{case}
use Rattle.refusal.specs.Verdict.{Verdict, passed, refused, ◌>>=◌, ◌>>◌, given}
use Rattle.descriptor.specs.Edition.{Edition}
use Rattle.pmt.specs.Pmt.{MapEntry, video_descriptors, video_wrong, registration_first, registration_later, is_av1, misplaced_registration}
use Rattle.pmt.specs.Pmt.{one_av1, av1_entry}
use Rattle.pmt.specs.Answer.{first_of, video_of, map_of}
use Rattle.pmt.specs.Parts.{kind_from, kind_of, with_kind, with_all, list_of, map_from, listed_map}
use Rattle.pmt.specs.declared.entries.Kind.{Kind}
use Rattle.pmt.specs.declared.entries.Kind.TheVariants.{Other, Right, Misplaced}
use Rattle.pmt.specs.declared.entries.Av1.{Av1}
use Rattle.pmt.specs.declared.entries.Av1.TheVariants.{Missing, One, Wrong}
use Rattle.pmt.specs.declared.entries.Listed.{Listed}
use Rattle.pmt.specs.declared.section.ProgramMap.{ProgramMap}

-- ---- one entry's kind, as the code takes it in
module _ (k : Kind) (slot : ℕ) (a : Av1) where
  pub take_other : k ≡ Other → a ≡ with_kind k slot a
  take_other e = rw e

  pub take_misplaced : k ≡ Misplaced → Wrong ≡ with_kind k slot a
  take_misplaced e = rw e

  pub take_first : (v : Option Bytes) → k ≡ Right v → a ≡ Missing → One slot v ≡ with_kind k slot a
  take_first v e f = rw (e, f)

-- ---- a list's first element, by a test of it
module _ {A : Type 0} (f : A → Bool) (a : A) (s : List A) where
  pub first_in : f a ≡ true → first_of f (a ∷ s) ≡ 0
  unfolding first_of
  first_in e = ap (λ (t : Bool). elim t as (λ x. ℕ) [ true ↦ 0 | false ↦ suc (first_of f s) ]) e

  pub first_out : f a ≡ false → first_of f (a ∷ s) ≡ suc (first_of f s)
  unfolding first_of
  first_out e = ap (λ (t : Bool). elim t as (λ x. ℕ) [ true ↦ 0 | false ↦ suc (first_of f s) ]) e

-- ---- in this edition
module _ (edition : Edition) where
  -- ---- an entry's kind, by the two tests of the definition
  abbrev misplaced : MapEntry → Bool
  misplaced e = misplaced_registration edition e

  abbrev av1 : MapEntry → Bool
  av1 e = is_av1 edition e

  ruled : Bool → Bool → Bool → Option Bytes → Kind
  ruled elsewhere first wrong v = pick elsewhere Misplaced (pick first (pick wrong Misplaced (Right v)) Other)

  tests : (later first six wrong : Bool) (v : Option Bytes)
      → pick later Misplaced (pick (not first) Other (pick (not six) Misplaced (pick wrong Misplaced (Right v))))
      ≡ ruled (later || (first && not six)) (six && first) wrong v
  unfolding pick ruled
  tests true first six wrong v = refl
  tests false true true wrong v = refl
  tests false true false wrong v = refl
  tests false false true wrong v = refl
  tests false false false wrong v = refl

  abbrev video_in : MapEntry → Option Bytes
  video_in e = video_of (video_descriptors edition e.descriptors)

  abbrev videos_wrong : MapEntry → Bool
  videos_wrong e = video_wrong (video_descriptors edition e.descriptors)

  kind_ruled : (e : MapEntry) → kind_of edition e ≡ ruled (misplaced e) (av1 e) (videos_wrong e) (video_in e)
  unfolding kind_from misplaced_registration is_av1
  kind_ruled e =
      tests (registration_later edition e.descriptors) (registration_first edition e.descriptors) (eqb e.stream_type 6)
      (videos_wrong e) (video_in e)

  module _ (e : MapEntry) where
    kind_misplaced : misplaced e ≡ true → kind_of edition e ≡ Misplaced
    unfolding ruled pick
    kind_misplaced p = kind_ruled e ∙ rw p

    kind_other : misplaced e ≡ false → av1 e ≡ false → kind_of edition e ≡ Other
    unfolding ruled pick
    kind_other p q = kind_ruled e ∙ rw (p, q)

    kind_wrong : misplaced e ≡ false → av1 e ≡ true → videos_wrong e ≡ true → kind_of edition e ≡ Misplaced
    unfolding ruled pick
    kind_wrong p q r = kind_ruled e ∙ rw (p, q, r)

    kind_right : misplaced e ≡ false → av1 e ≡ true → videos_wrong e ≡ false → kind_of edition e ≡ Right (video_in e)
    unfolding ruled pick
    kind_right p q r = kind_ruled e ∙ rw (p, q, r)

  -- ---- what is against the rule stays so
  wrong_kind : (k : Kind) (slot : ℕ) → with_kind k slot Wrong ≡ Wrong
  wrong_kind Other slot = refl
  wrong_kind (Right v) slot = refl
  wrong_kind Misplaced slot = refl

  wrong_stays : (es : List MapEntry) (slot : ℕ) → with_all edition es slot Wrong ≡ Wrong
  unfolding with_all
  wrong_stays [] slot = refl
  wrong_stays (e ∷ es) slot = ap (with_all edition es (suc slot)) (wrong_kind (kind_of edition e) slot) ∙ wrong_stays es (suc slot)

  -- ---- after an AV1 entry none may come
  unfoldable alone : List MapEntry → Av1 → Av1
  alone [] a = a
  alone (e ∷ es) a = Wrong

  abbrev misplaced_in : List MapEntry → Bool
  misplaced_in es = any misplaced es

  abbrev av1_in : List MapEntry → List MapEntry
  av1_in es = those av1 es

  -- a second one is against the rule, whatever its video descriptors
  second : (e : MapEntry) (slot at : ℕ) (v : Option Bytes) → misplaced e ≡ false → av1 e ≡ true
      → with_kind (kind_of edition e) slot (One at v) ≡ Wrong
  second e slot at v p q =
      case (videos_wrong e)
      (λ r. ap (λ (k : Kind). with_kind k slot (One at v)) (kind_wrong e p q r))
      (λ r. ap (λ (k : Kind). with_kind k slot (One at v)) (kind_right e p q r))

  one_then : (es : List MapEntry) (slot at : ℕ) (v : Option Bytes)
      → with_all edition es slot (One at v) ≡ pick (misplaced_in es) Wrong (alone (av1_in es) (One at v))
  unfolding with_all any those alone pick
  one_then [] slot at v = refl
  one_then (e ∷ es) slot at v =
      case (misplaced e)
      (λ p. ap (λ (k : Kind). with_all edition es (suc slot) (with_kind k slot (One at v))) (kind_misplaced e p) ∙ wrong_stays es (suc slot)
      ∙ by_true (alone (av1_in (e ∷ es)) (One at v)) (sym (any_now misplaced e es p)) refl)
      (λ p. case (av1 e)
      (λ q. ap (with_all edition es (suc slot)) (second e slot at v p q) ∙ wrong_stays es (suc slot)
      ∙ sym (either (misplaced_in (e ∷ es)) Wrong)
      ∙ ap (λ (l : List MapEntry). pick (misplaced_in (e ∷ es)) Wrong (alone l (One at v))) (sym (those_first av1 e es q)))
      (λ q. ap (λ (k : Kind). with_all edition es (suc slot) (with_kind k slot (One at v))) (kind_other e p q) ∙ one_then es (suc slot) at v
      ∙ ap₂ (λ (b : Bool) (l : List MapEntry). pick b Wrong (alone l (One at v))) (any_later misplaced e es p)
      (sym (those_others av1 e es q))))

  -- ---- the map of the entries, with the one AV1 entry
  module _ (pcr_pid : ℕ) (l : Listed) where
    abbrev map_with : ℕ → Option Bytes → ProgramMap
    map_with slot v = record { pcr_pid = pcr_pid; count = l.entries.count; entries = l.entries.slots; av1 = slot; video = v }

    -- the definition's verdict, by its two tests: whether a registration is astray, and which are AV1 entries
    abbrev judged : Bool → List MapEntry → ℕ → Verdict ProgramMap
    judged misplaced those-av1 slot = (given 28 misplaced >> one_av1 edition those-av1) >>= λ e. passed (map_with slot (video_in e))

    never_right : (e : MapEntry) (misplaced : Bool) (others : List MapEntry) (slot : ℕ) → videos_wrong e ≡ true
        → refused 28 0 ≡ judged misplaced (e ∷ others) slot
    unfolding ◌>>=◌ ◌>>◌ given pick one_av1
    never_right e true others slot p = refl
    never_right e false [] slot p = rw p
    never_right e false (x ∷ xs) slot p = refl

    only_one : (e : MapEntry) (misplaced : Bool) (others : List MapEntry) (slot : ℕ) → videos_wrong e ≡ false
        → map_from (pick misplaced Wrong (alone others (One slot (video_in e)))) pcr_pid l ≡ judged misplaced (e ∷ others) slot
    unfolding ◌>>=◌ ◌>>◌ given pick one_av1 alone
    only_one e true others slot p = refl
    only_one e false [] slot p = rw p
    only_one e false (x ∷ xs) slot p = refl

    against : (misplaced : Bool) (others : List MapEntry) (slot : ℕ) → misplaced ≡ true → refused 28 0 ≡ judged misplaced others slot
    unfolding ◌>>=◌ ◌>>◌ given pick
    against misplaced others slot e = rw e

    none_found : (slot : ℕ) → refused 28 0 ≡ judged (misplaced_in []) (av1_in []) slot
    unfolding ◌>>=◌ ◌>>◌ given pick one_av1 any those
    none_found slot = refl

    -- of entries of which the first stands in this slot: the definition's verdict, and the code's after an entry of this kind
    abbrev verdict : List MapEntry → ℕ → Verdict ProgramMap
    verdict es slot = judged (misplaced_in es) (av1_in es) (slot + first_of av1 es)

    abbrev taking : List MapEntry → ℕ → Kind → Verdict ProgramMap
    taking es slot k = map_from (with_all edition es (suc slot) (with_kind k slot Missing)) pcr_pid l

    module _ (e : MapEntry) (es : List MapEntry) (slot : ℕ) (p : misplaced e ≡ false) where
      -- the entry is another
      passing : av1 e ≡ false → verdict es (suc slot) ≡ verdict (e ∷ es) slot
      passing q =
          let n : suc slot + first_of av1 es ≡ slot + first_of av1 (e ∷ es) = omega (arith, first_out av1 e es q) in
          ap₂ (λ (b : Bool) (s : List MapEntry). judged b s (suc slot + first_of av1 es)) (any_later misplaced e es p)
          (sym (those_others av1 e es q))
          ∙ ap (judged (misplaced_in (e ∷ es)) (av1_in (e ∷ es))) n

      -- the entry is an AV1 entry
      module _ (q : av1 e ≡ true) where
        here : judged (misplaced_in es) (e ∷ av1_in es) slot ≡ verdict (e ∷ es) slot
        here =
            let n : slot ≡ slot + first_of av1 (e ∷ es) = omega (arith, first_in av1 e es q) in
            ap₂ (λ (b : Bool) (s : List MapEntry). judged b s slot) (any_later misplaced e es p) (sym (those_first av1 e es q))
            ∙ ap (judged (misplaced_in (e ∷ es)) (av1_in (e ∷ es))) n

        taken : taking es slot (kind_of edition e) ≡ verdict (e ∷ es) slot
        taken =
            case (videos_wrong e)
            (λ r. ap (taking es slot) (kind_wrong e p q r) ∙ ap (λ (a : Av1). map_from a pcr_pid l) (wrong_stays es (suc slot))
            ∙ never_right e (misplaced_in es) (av1_in es) slot r ∙ here)
            (λ r. ap (taking es slot) (kind_right e p q r) ∙ ap (λ (a : Av1). map_from a pcr_pid l)
            (one_then es (suc slot) slot (video_in e))
            ∙ only_one e (misplaced_in es) (av1_in es) slot r ∙ here)

    found : (es : List MapEntry) (slot : ℕ) → map_from (with_all edition es slot Missing) pcr_pid l ≡ verdict es slot
    unfolding with_all
    found [] slot = none_found (slot + first_of av1 [])
    found (e ∷ es) slot =
        case (misplaced e)
        (λ p. ap (taking es slot) (kind_misplaced e p) ∙ ap (λ (a : Av1). map_from a pcr_pid l) (wrong_stays es (suc slot))
        ∙ against (misplaced_in (e ∷ es)) (av1_in (e ∷ es)) (slot + first_of av1 (e ∷ es)) (sym (any_now misplaced e es p)))
        (λ p. case (av1 e)
        (λ q. taken e es slot p q)
        (λ q. ap (taking es slot) (kind_other e p q) ∙ found es (suc slot) ∙ passing e es slot p q))

  -- the map of the listed entries is the one that the definition has, or its 28
  pub listed_map_lem : (pcr_pid : ℕ) (es : List MapEntry)
      → listed_map pcr_pid (list_of edition es) ≡ (av1_entry edition es
      >>= λ e. passed (map_of edition (record { pcr_pid = pcr_pid; entries = es; av1 = e })))
  unfolding av1_entry
  listed_map_lem pcr_pid es =
      let n : 0 + first_of av1 es ≡ first_of av1 es = omega arith in
      found pcr_pid (list_of edition es) es 0 ∙ ap (judged pcr_pid (list_of edition es) (misplaced_in es) (av1_in es)) n
