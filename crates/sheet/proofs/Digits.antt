-- A number of eight bytes, as `from_be_bytes` puts it together. Assumes nothing.
use mathlib.Core.Path.{◌≡◌, sym, ap, ◌∙◌}
use mathlib.Core.List.{[], ◌∷◌}
use native.Mathlib.Omega.{arith}
use lib.ListN.{length, get_or, drop_of_length-le}
use Rattle.std.specs.Int.{w64, from_be_bytes}
use Rattle.lists.specs.Lists.{Bytes}
use Rattle.lists.proofs.Parts.{next}
use Rattle.sheet.specs.Reading.{value_from}

-- eight bytes one by one
eight : (s : Bytes) → length s ≡ 8
    → s ≡ get_or s 0 0 ∷ get_or s 1 0 ∷ get_or s 2 0 ∷ get_or s 3 0 ∷ get_or s 4 0 ∷ get_or s 5 0 ∷ get_or s 6 0 ∷ get_or s 7 0 ∷ []
eight s e =
    next s 0 (omega arith)
    ∙ ap (λ (t : Bytes). get_or s 0 0 ∷ t) (next s 1 (omega arith)
    ∙ ap (λ (t : Bytes). get_or s 1 0 ∷ t) (next s 2 (omega arith)
    ∙ ap (λ (t : Bytes). get_or s 2 0 ∷ t) (next s 3 (omega arith)
    ∙ ap (λ (t : Bytes). get_or s 3 0 ∷ t) (next s 4 (omega arith)
    ∙ ap (λ (t : Bytes). get_or s 4 0 ∷ t) (next s 5 (omega arith)
    ∙ ap (λ (t : Bytes). get_or s 5 0 ∷ t) (next s 6 (omega arith)
    ∙ ap (λ (t : Bytes). get_or s 6 0 ∷ t) (next s 7 (omega arith)
    ∙ ap (λ (t : Bytes). get_or s 7 0 ∷ t) (drop_of_length-le s {i = 8} (omega arith)))))))))

pub eight_joined : (s : Bytes) → length s ≡ 8 → from_be_bytes w64 s ≡ value_from 0 s
unfolding value_from
eight_joined s e =
    let joined : from_be_bytes w64 s ≡ value_from 0 (get_or s 0 0 ∷ get_or s 1 0 ∷ get_or s 2 0 ∷ get_or s 3 0 ∷ get_or s 4 0 ∷
    get_or s 5 0 ∷ get_or s 6 0 ∷ get_or s 7 0 ∷ []) = omega arith in
    joined ∙ ap (value_from 0) (sym (eight s e))
