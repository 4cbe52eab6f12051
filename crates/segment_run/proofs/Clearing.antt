-- Zeros throughout an output that is as long as another are the zeros of that one. Assumes nothing.
use Prim.Native.Nat.{ℕ}
use mathlib.Core.Path.{◌≡◌, ap, ap₂, ◌∙◌}
use mathlib.Core.List.{List}
use lib.ListN.{length, replicate}
use Rattle.lists.specs.Lists.{zeros}
use Rattle.segment_rules.specs.Check.{Outputs, outputs_of, cleared}

pub zeros_as : {out : List ℕ} (o b : List ℕ) → out ≡ zeros o → length o ≡ length b → out ≡ zeros b
zeros_as o b e h = e ∙ ap (λ (n : ℕ). replicate n 0) h

-- the three outputs
pub cleared_as : (before : Outputs) {out lens times : List ℕ} (o l t : List ℕ) → out ≡ zeros o → lens ≡ zeros l → times ≡ zeros t
    → length o ≡ length before.bytes → length l ≡ length before.lens → length t ≡ length before.times
    → outputs_of out lens times ≡ cleared before
cleared_as before {out} {lens} {times} o l t a b c la lb lc =
    ap (λ (x : List ℕ). outputs_of x lens times) (zeros_as o before.bytes a la)
    ∙ ap₂ (λ (x y : List ℕ). outputs_of (zeros before.bytes) x y) (zeros_as l before.lens b lb) (zeros_as t before.times c lc)
