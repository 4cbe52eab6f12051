-- What gives each byte as it is where a test does not hold (`KeepsWithout`) gives a block as it is in which it holds nowhere, and the last
-- two bytes, since the test asks for three. Assumes nothing.
use Prim.Native.Nat.{ℕ, zero, suc, ◌+◌, ◌-◌, ◌≤◌, ◌<◌}
use mathlib.Core.Bool.{Bool, true, false}
use mathlib.Core.Path.{◌≡◌, refl, ap, ◌∙◌}
use mathlib.Core.List.{[], ◌∷◌, ◌++◌}
use native.Mathlib.Omega.{arith}
use lib.ListN.{length, take, drop, length-drop}
use lib.Seq.{drop-drop}
use Rattle.lists.specs.Lists.{Bytes}
use Rattle.lists.proofs.Threes.{AsksThree}
use Rattle.emulation.specs.Payload.{unescape}
use Rattle.emulation.specs.Blocks.{hits, block, free_of}
use Rattle.emulation.specs.Parts.{marked}
use Rattle.emulation.proofs.Steps.{marked_three, unescape_plain}
use Rattle.emulation.proofs.Hits.{none_first, is_free}

pub record KeepsWithout (test : Bytes → Bool) (f : Bytes → Bytes) : Type 0 where
  pub three : AsksThree test
  pub nothing : f [] ≡ []
  pub byte : (a : ℕ) (s : Bytes) → test (a ∷ s) ≡ false → f (a ∷ s) ≡ a ∷ f s

pub unescape_keeps : KeepsWithout marked unescape
unfolding unescape
unescape_keeps = record { three = marked_three; nothing = refl; byte = unescape_plain }

module _ (test : Bytes → Bool) (f : Bytes → Bytes) (k : KeepsWithout test f) where
  pub passes : (n : ℕ) (s : Bytes) → n ≤ length s → hits test n s ≡ 0 → f s ≡ take n s ++ f (drop n s)
  passes zero s h e = refl
  passes (suc n) [] h e = absurd (omega arith)
  passes (suc n) (a ∷ s) h e =
      let m = none_first test n a s e in k.byte a s m.0 ∙ ap (λ (l : Bytes). a ∷ l) (passes n s (omega arith) m.1)

  pub free_passes : (s : Bytes) (i : ℕ) → free_of test (drop i s) ≡ true
      → f (drop i s) ≡ take block (drop i s) ++ f (drop (i + block) s)
  free_passes s i e =
      let h = is_free test s i e in
      passes block (drop i s) (omega (arith, h.0, length-drop i s)) h.1
      ∙ ap (λ (l : Bytes). take block (drop i s) ++ f l) (drop-drop block i s)

  short : (l : Bytes) → length l < 3 → f l ≡ l
  short [] h = k.nothing
  short (a ∷ []) h = k.byte a [] (k.three.one a) ∙ ap (λ (l : Bytes). a ∷ l) k.nothing
  short (a ∷ b ∷ []) h =
      k.byte a (b ∷ []) (k.three.two a b)
      ∙ ap (λ (l : Bytes). a ∷ l) (k.byte b [] (k.three.one b) ∙ ap (λ (l : Bytes). b ∷ l) k.nothing)
  short (a ∷ b ∷ c ∷ s) h = absurd (omega arith)

  pub last_passes : (s : Bytes) (i : ℕ) → length s - 2 ≤ i → f (drop i s) ≡ drop i s
  last_passes s i h = short (drop i s) (omega (arith, length-drop i s))
