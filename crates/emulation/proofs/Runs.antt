-- A run of unescaping, byte by byte and by the bytes that came last (`unescape_after`), into an output that has room. Assumes nothing.
use Prim.Native.Nat.{ℕ, zero, suc, ◌+◌, ◌-◌, ◌≤◌, ◌<◌}
use mathlib.Core.Path.{◌≡◌, refl, sym, ap, ap₂, subst₂, ◌∙◌}
use mathlib.Core.List.{List, [], ◌∷◌}
use native.Mathlib.Omega.{arith}
use borrow.Author.Tests.{ltb-true, ltb-false}
use lib.Dec.{ltb}
use lib.ListN.{length, drop, get_or, set, drop_of_length-le}
use Rattle.lists.specs.Lists.{Bytes}
use Rattle.lists.proofs.Tests.{case}
use Rattle.lists.proofs.Parts.{next}
use Rattle.emulation.specs.Payload.{marked3, unescape}
use Rattle.emulation.specs.Parts.{Fresh, Keeps, Writes}
use Rattle.emulation.proofs.Steps.{marked_is}
use Rattle.emulation.proofs.Machine.{unescape_after, drops, gives, nothing, same, unescape_is}
use Rattle.emulation.proofs.Outputs.{writes_put, writes_then}

set_own : (l : List ℕ) (i : ℕ) → set l i (get_or l i 0) ≡ l
set_own [] i = refl
set_own (a ∷ l) zero = refl
set_own (a ∷ l) (suc i) = ap (λ (t : List ℕ). a ∷ t) (set_own l i)

-- the first byte is given
pub run_start : (s out : Bytes) (i n : ℕ) → i < length s → n < length out
    → Writes out n (unescape (drop i s)) (n + 1) (unescape_after 1 (get_or s i 0) (drop (i + 1) s)) (set out n (get_or s i 0))
run_start s out i n h k =
    let b : ℕ = get_or s i 0 in
    let e : unescape (drop i s) ≡ b ∷ unescape_after 1 b (drop (i + 1) s) =
    unescape_is (drop i s) ∙ ap (unescape_after 1 1) (next s i h) ∙ gives 1 1 b (drop (i + 1) s) refl in
    rw e (writes_put out (unescape_after 1 b (drop (i + 1) s)) n b k)

-- one byte more, which is dropped or given
pub run_step : {out whole now : Bytes} {n count : ℕ} (s : Bytes) (p q place byte step : ℕ) → place < length s → count < length now
    → Keeps p q (get_or s place 0) (get_or now count 0) byte step → Writes out n whole count (unescape_after p q (drop place s)) now
    → Writes out n whole (count + step) (unescape_after q (get_or s place 0) (drop (place + 1) s)) (set now count byte)
run_step {out} {whole} {now} {n} {count} s p q place byte step h k keeps w =
    let b : ℕ = get_or s place 0 in
    let rest : Bytes = drop (place + 1) s in
    let l : unescape_after p q (drop place s) ≡ unescape_after p q (b ∷ rest) = ap (unescape_after p q) (next s place h) in
    case (marked3 p q b)
    (λ m.
    let z = marked_is p q b m in
    let d = keeps.drops m in
    let e : unescape_after p q (drop place s) ≡ unescape_after q b rest = l ∙ drops p q b rest m
    ∙ ap₂ (λ (x y : ℕ). unescape_after x y rest) (sym z.1) (sym z.2) in
    let c : count ≡ count + step = omega (arith, d.1) in
    let o : now ≡ set now count byte = sym (set_own now count) ∙ ap (set now count) (sym d.0) in
    subst₂ (λ (m : ℕ) (after : Bytes). Writes out n whole m (unescape_after q b rest) after) c o (rw e at w))
    (λ m.
    let g = keeps.gives m in
    let e : unescape_after p q (drop place s) ≡ b ∷ unescape_after q b rest = l ∙ gives p q b rest m in
    let c : count + 1 ≡ count + step = omega (arith, g.1) in
    subst₂ (λ (m : ℕ) (x : ℕ). Writes out n whole m (unescape_after q b rest) (set now count x)) c (sym g.0)
    (writes_then (rw e at w) (writes_put now (unescape_after q b rest) count b k)))

pub keeps_step : {p q b old byte step : ℕ} → Keeps p q b old byte step → step ≤ 1
keeps_step {p} {q} {b} k = case (marked3 p q b) (λ m. omega (arith, (k.drops m).1)) (λ m. omega (arith, (k.gives m).1))

-- behind a byte that is not 00, or at the end, it goes on as from the front
pub run_end : (s : Bytes) (p q end : ℕ) → Fresh s end → q ≡ get_or s (end - 1) 0 → unescape_after p q (drop end s) ≡ unescape (drop end s)
unfolding unescape
run_end s p q end f e =
    case (ltb end (length s))
    (λ t. sym ((same (drop end s)).none p q (λ z. f (ltb-true end (length s) t) (sym e ∙ z))))
    (λ t. let d : drop end s ≡ [] = drop_of_length-le s {i = end} (ltb-false end (length s) t) in rw d (nothing p q))
