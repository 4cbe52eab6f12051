-- What reading says, from what stands in the content. Assumes nothing.
use Prim.Native.Nat.{ℕ, ◌+◌, ◌*◌}
use mathlib.Core.Bool.{true, false}
use mathlib.Core.Path.{◌≡◌, ap, ◌∙◌}
use native.Mathlib.Omega.{arith}
use lib.ListN.{drop}
use borrow.Author.Tests.{eq-eqb, ne_eqb}
use Rattle.lists.specs.Lists.{Bytes, pick}
use Rattle.lists.specs.Bytes.{byte, word}
use Rattle.refusal.specs.Verdict.{passed, refused, given, ◌>>◌, ◌>>=◌}
use Rattle.obu.specs.Leb128.{leb128}
use Rattle.obu.specs.declared.leb128.Leb128.{Leb128}
use Rattle.std.specs.Prelude.{Some, None}
use Rattle.mastering.specs.Content.{bits16, bits32, body_wrong, numbers_of, numbers_in}
use Rattle.mastering.specs.Figures.{figures_of, reading}

-- a number of 32 bits is two of 16
pub two_halves : (s : Bytes) (i : ℕ) → bits16 s i * 65536 + bits16 s (i + 2) ≡ bits32 s i
two_halves s i =
    let third : i + 2 + 1 ≡ i + 3 = omega arith in
    ap (λ (j : ℕ). bits16 s i * 65536 + word (byte s (i + 2)) (byte s j)) third ∙ omega arith

module _ (content : Bytes) where
  pub no_type : leb128 content ≡ None → refused 48 0 ≡ reading content
  unfolding reading numbers_in ◌>>=◌
  no_type e = rw e

  module _ (l : Leb128) (e : leb128 content ≡ Some l) where
    pub other_type : (l.value ≡ 2 → ⊥) → refused 48 0 ≡ reading content
    unfolding reading numbers_in ◌>>=◌ ◌>>◌ given pick
    other_type n = rw (e, ne_eqb l.value 2 n)

    pub other_body : l.value ≡ 2 → body_wrong (drop l.width content) ≡ true → refused 48 0 ≡ reading content
    unfolding reading numbers_in ◌>>=◌ ◌>>◌ given pick
    other_body n w = rw (e, eq-eqb l.value 2 n, w)

    pub numbers : l.value ≡ 2 → body_wrong (drop l.width content) ≡ false → numbers_in content ≡ passed (numbers_of (drop l.width content))
    unfolding numbers_in ◌>>=◌ ◌>>◌ given pick
    numbers n w = rw (e, eq-eqb l.value 2 n, w)

    pub figures : l.value ≡ 2 → body_wrong (drop l.width content) ≡ false
        → passed (figures_of (numbers_of (drop l.width content))) ≡ reading
        content
    unfolding reading ◌>>=◌
    figures n w = rw (numbers n w)
