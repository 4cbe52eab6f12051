-- A loop that looks for the first place of a block at which a test holds (`Searched`). Assumes nothing.
use Prim.Native.Nat.{ℕ, ◌+◌, ◌≤◌, ◌<◌}
use mathlib.Core.Bool.{Bool, true, false}
use mathlib.Core.Path.{◌≡◌, refl, sym, subst, ◌∙◌}
use mathlib.Core.List.{[]}
use native.Mathlib.Omega.{arith}
use lib.Dec.{ltb}
use lib.ListN.{drop}
use borrow.Author.Tests.{ltb-true, ltb-false}
use Rattle.lists.specs.Lists.{Bytes}
use Rattle.lists.proofs.Tests.{case}
use Rattle.emulation.specs.Blocks.{hits, block}
use Rattle.emulation.proofs.Hits.{hits_at}
use Rattle.escaping.specs.Parts.{First}

-- a loop has looked at the first k places of the block at i: `first` is the first of them at which the test holds, or the block's length
pub record Searched (test : Bytes → Bool) (s : Bytes) (i k first : ℕ) : Type 0 where
  pub within : k ≤ block
  pub most : first ≤ block
  pub sooner : first < block → first < k
  pub found : first < block → First test s i block first
  pub none : first ≡ block → hits test k (drop i s) ≡ 0

module _ (test : Bytes → Bool) where
  -- a search begins, looks at a place, at which it finds k or nothing, and has come to the end of the block
  pub searched_start : (s : Bytes) (i : ℕ) → Searched test s i 0 block
  unfolding hits
  searched_start s i =
      record {
        within = omega arith;
        most = omega arith;
        sooner = λ h. absurd (omega arith);
        found = λ h. absurd (omega arith);
        none = λ e. refl;
      }

  -- it has found a place already
  searched_found : {s : Bytes} {i k first : ℕ} → Searched test s i k first → k < block → first < block → Searched test s i (k + 1) first
  searched_found a h l =
      record {
        within = omega arith;
        most = a.most;
        sooner = λ m. omega (arith, a.sooner l);
        found = a.found;
        none = λ e. absurd (omega arith);
      }

  searched_yes : {s : Bytes} {i k first : ℕ} → Searched test s i k first → k < block → first ≡ block → test (drop (i + k) s) ≡ true
      → Searched test s i (k + 1) k
  searched_yes a h l t =
      record {
        within = omega arith;
        most = omega arith;
        sooner = λ m. omega arith;
        found = λ m. record { within = omega arith; none = a.none l; there = λ r. t };
        none = λ e. absurd (omega arith);
      }

  searched_no : test [] ≡ false → {s : Bytes} {i k first : ℕ} → Searched test s i k first → k < block → first ≡ block
      → test (drop (i + k) s) ≡ false
      → Searched test s i (k + 1) block
  searched_no none {s} {i} {k} a h l t =
      record {
        within = omega arith;
        most = omega arith;
        sooner = λ m. absurd (omega arith);
        found = λ m. absurd (omega arith);
        none = λ e. omega (arith, hits_at test none s i k false t, a.none l);
      }

  pub searched_next : test [] ≡ false → {s : Bytes} {i k first found least : ℕ} → Searched test s i k first → k < block
      → (test (drop (i + k) s) ≡ true → found ≡ k)
      → (test (drop (i + k) s) ≡ false → found ≡ block)
      → (first < found → least ≡ first) × (found ≤ first → least ≡ found)
      → Searched test s i (k + 1) least
  searched_next none {s} {i} {k} {first} {found} {least} a h hit miss small =
      let Goal : ℕ → Type 0 = λ x. Searched test s i (k + 1) x in
      case (ltb first block)
      (λ t.
      let l = ltb-true first block t in
      let before = a.sooner l in
      let e : least ≡ first =
      case (test (drop (i + k) s))
      (λ u. small.0 (omega (arith, hit u, before)))
      (λ u. small.0 (omega (arith, miss u, l))) in
      subst Goal (sym e) (searched_found a h l))
      (λ t.
      let l : first ≡ block = omega (arith, ltb-false first block t, a.most) in
      case (test (drop (i + k) s))
      (λ u. let e : least ≡ k = small.1 (omega (arith, hit u, l)) ∙ hit u in subst Goal (sym e) (searched_yes a h l u))
      (λ u. let e : least ≡ block = small.1 (omega (arith, miss u, l)) ∙ miss u in subst Goal (sym e) (searched_no none a h l u)))

  pub searched_all : {s : Bytes} {i k first : ℕ} → Searched test s i k first → block ≤ k → First test s i block first
  searched_all {s} {i} {k} {first} a h =
      case (ltb first block)
      (λ t. a.found (ltb-true first block t))
      (λ t.
      let l : first ≡ block = omega (arith, ltb-false first block t, a.most) in
      let e : k ≡ first = omega (arith, a.within, l) in
      record { within = a.most; none = rw e at (a.none l); there = λ m. absurd (omega arith) })
