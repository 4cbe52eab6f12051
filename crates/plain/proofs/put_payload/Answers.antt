-- The next byte stands behind those that are written.
use native.Mathlib.Omega.{arith}
use native.Mathlib.Numerals.{add-one}
use Prim.Native.Nat.{ℕ, zero, suc, ◌<◌}
use mathlib.Core.Path.{◌≡◌, refl, sym, ap, ap₂, ◌∙◌}
use mathlib.Core.List.{List, [], ◌∷◌}
use lib.ListN.{length, take, drop, set, get_or, length-drop}
use lib.Seq.{get_or-drop}
use Rattle.lists.specs.Lists.{over}
use Rattle.plain.proofs.put_payload.Goals as goal

one_more : (w out : List ℕ) (i : ℕ) → i < length w → i < length out
    → set (over (take i w) out) i (get_or w i 0) ≡ over (take (suc i) w) out
one_more [] out i h k = absurd (omega arith)
one_more (b ∷ w) [] i h k = absurd (omega arith)
one_more (b ∷ w) (a ∷ out) zero h k = refl
one_more (b ∷ w) (a ∷ out) (suc i) h k = ap (λ (l : List ℕ). b ∷ l) (one_more w out i (omega arith) (omega arith))

pub loop-i-preserved : goal.loop-i-preserved
loop-i-preserved c =
    let p = c.args.packet.now in
    let i = c.loop-i.i in
    rw add-one (ap₂ (λ (l : List ℕ) (b : ℕ). set l i b) c.loop-i.invariant (sym (get_or-drop 4 p i 0))
    ∙ one_more (drop 4 p) c.args.out.now i (omega (arith, length-drop 4 p)) (omega arith))
