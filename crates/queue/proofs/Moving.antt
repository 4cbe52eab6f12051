-- Bytes moved to the front: the next one is where it was. Assumes nothing.
use Prim.Native.Nat.{ℕ, ◌+◌, ◌≤◌, ◌<◌}
use mathlib.Core.Path.{◌≡◌, sym, ap, ◌∙◌}
use mathlib.Core.List.{List, ◌∷◌}
use native.Mathlib.Omega.{arith}
use lib.ListN.{length, take, drop, get_or, length-drop}
use lib.Seq.{get_or-drop, get_or-take, length-take-le}
use Rattle.lists.proofs.Parts.{next}
use Rattle.lists.proofs.Writing.{Part}

-- the bytes that move
abbrev pub moving : List ℕ → ℕ → ℕ → List ℕ
moving s from n = take n (drop from s)

pub moving_length : (s : List ℕ) (from n : ℕ) → from + n ≤ length s → length (moving s from n) ≡ n
moving_length s from n h = length-take-le n (drop from s) (omega (arith, length-drop from s))

pub one_moved : {s out : List ℕ} (from n i b : ℕ) → from + n ≤ length s → i < n → b ≡ get_or out (from + i) 0
    → Part s (moving s from n) i (drop i (moving s from n)) out
    → Part s (moving s from n) i (b ∷ drop (i + 1) (moving s from n)) out
one_moved {s} {out} from n i b h k e p =
    let swap : from + i ≡ i + from = omega arith in
    let here : b ≡ get_or (moving s from n) i 0 =
    e ∙ ap (λ (j : ℕ). get_or out j 0) swap ∙ sym (get_or-drop i out from 0) ∙ ap (λ (l : List ℕ). get_or l from 0) p.back
    ∙ get_or-drop i s from 0
    ∙ ap (λ (j : ℕ). get_or s j 0) (sym swap) ∙ sym (get_or-drop from s i 0) ∙ sym (get_or-take n (drop from s) i 0 k) in
    rw here (rw (next (moving s from n) i (omega (arith, moving_length s from n h))) at p)
