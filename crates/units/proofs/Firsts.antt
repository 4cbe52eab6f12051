-- The list of the packets that began the units: where the open PES has closed, its first packet is put behind those of the units before it,
-- and so the list holds those of all units, as many as it has room for (`notes`). Assumes nothing.
use Rattle.units.specs.declared.state.PesFound.{PesFound}
use Rattle.std.specs.Prelude.{Option, Some, None}
use Prim.Native.Nat.{ℕ, ◌≤◌, ◌<◌}
use mathlib.Core.Bool.{Bool, true, false}
use mathlib.Core.Path.{◌≡◌, refl, sym, ap, ap₂, ◌∙◌}
use mathlib.Core.List.{List, [], ◌∷◌, ◌++◌}
use native.Mathlib.Omega.{arith}
use borrow.Author.Tests.{ltb-true, ltb-false, lt-ltb, le-ltb}
use lib.Dec.{ltb}
use lib.ListN.{length, take, set, length-append, length-take, length-map}
use lib.Seq.{take_all, take-nil, take-append-le, set_out}
use Rattle.lists.specs.Lists.{Bytes, over, pick}
use Rattle.lists.proofs.Tests.{case}
use Rattle.segment_rules.specs.State as state
use Rattle.segment_rules.specs.State.{OpenPes, AccessUnit}
use Rattle.segment_rules.specs.Rules.{unit_of, open_bytes}
use Rattle.segment_rules.specs.Check.{Outputs, first_packets, holding_firsts}
use Rattle.segment_rules.proofs.Growing.{Grows, same_units, one_more}
use Rattle.units.specs.declared.units.Extraction.{Extraction}
use Rattle.units.specs.Extraction.{open_pes, pes_of, first_of, first_noted, UnitsRepresent}
use Rattle.units.proofs.Holding.{over_one, map_last}
use Rattle.lists.proofs.Writing.{length_over}

-- ---- as much of a list as there is room for
length_held : (old w : List ℕ) → length (over (take (length old) w) old) ≡ length old
length_held old w = length_over (take (length old) w) old (omega (arith, length-take (length old) w))

-- one element more, in its place if it has one
one_held : (old w : List ℕ) (a : ℕ) → set (over (take (length old) w) old) (length w) a ≡ over (take (length old) (w ++ (a ∷ []))) old
one_held old w a =
    case (ltb (length w) (length old))
    (λ t.
    let h = ltb-true (length w) (length old) t in
    ap (λ (l : List ℕ). set (over l old) (length w) a) (take_all (length old) w (omega (arith, h))) ∙ over_one w old a h
    ∙ ap (λ (l : List ℕ). over l old) (sym (take_all (length old) (w ++ (a ∷ [])) (omega (arith, h, length-append w (a ∷ []))))))
    (λ t.
    let h = ltb-false (length w) (length old) t in
    set_out _ (length w) a (omega (arith, h, length_held old w))
    ∙ ap (λ (l : List ℕ). over l old) (sym (take-append-le (length old) w (a ∷ []) h)))

-- ---- the list
-- at the start
pub none_held : (old : List ℕ) → old ≡ holding_firsts [] old
none_held old = sym (ap (λ (l : List ℕ). over l old) (take-nil (length old)))

-- it keeps its length
pub firsts_length : (old firsts : List ℕ) (units : List AccessUnit) → firsts ≡ holding_firsts units old → length firsts ≡ length old
firsts_length old firsts units h = ap length h ∙ length_held old (first_packets units)

-- ---- the code: no unit more has closed; it has no place; it stands there
module _ (e e' : Extraction) (firsts : List ℕ) where
  pub none_closed : e'.units ≤ e.units → firsts ≡ first_noted e e' firsts
  unfolding pick
  none_closed h = rw (le-ltb e.units e'.units h)

  pub no_place : length firsts ≤ e.units → firsts ≡ first_noted e e' firsts
  unfolding pick
  no_place h = either (ltb e.units e'.units)
    where
      either : (b : Bool) → firsts ≡ pick b (set firsts e.units (first_of e.pes)) firsts
      either true = sym (set_out firsts e.units (first_of e.pes) h)
      either false = refl

  pub in_place : e.units < e'.units → (first : ℕ) → first ≡ first_of e.pes → set firsts e.units first ≡ first_noted e e' firsts
  unfolding pick
  in_place h first k = rw (lt-ltb e.units e'.units h) (ap (set firsts e.units) k)

-- the code's open PES is this one
first_of_lem : (o : OpenPes) (bytes : Bytes) (p : Option PesFound) → pes_of bytes p ≡ Some o → first_of p ≡ o.first
first_of_lem o bytes None k = let z : ◌≡◌ {A = ℕ} 0 1 = cc in absurd (omega arith)
first_of_lem o bytes (Some f) k = let same : open_pes f bytes ≡ o = cc in ap (λ (q : OpenPes). q.first) same

module _ {before now now' : Outputs} {e e' : Extraction} {x x' : state.Extraction} (s : UnitsRepresent before now e x)
    (s' : UnitsRepresent before now' e' x') (old firsts : List ℕ) (h : firsts ≡ holding_firsts x.units old) where
  put : (o : OpenPes) → x.pes ≡ Some o
      → set firsts e.units (first_of e.pes) ≡ holding_firsts (x.units ++ (unit_of o ∷ [])) old
  put o at =
      ap₂ (λ (l : List ℕ) (n : ℕ). set l n (first_of e.pes)) h (s.units ∙ sym (length-map x.units (λ u. u.first)))
      ∙ ap (λ (n : ℕ). set (holding_firsts x.units old) (length (first_packets x.units)) n)
      (first_of_lem o (open_bytes x.pes) e.pes (sym s.pes ∙ at))
      ∙ one_held old (first_packets x.units) o.first
      ∙ ap (λ (l : List ℕ). over (take (length old) l) old) (sym (map_last (λ u. u.first) x.units (unit_of o)))

  pub notes : Grows x x' → first_noted e e' firsts ≡ holding_firsts x'.units old
  unfolding pick
  notes (same_units k) =
      let still : ltb e.units e'.units ≡ false =
      le-ltb e.units e'.units (omega (arith, s.units, s'.units, ap length k)) in
      rw still (h ∙ ap (λ (l : List AccessUnit). holding_firsts l old) (sym k))
  notes (one_more o at k) =
      let more : ltb e.units e'.units ≡ true =
      lt-ltb e.units e'.units (omega (arith, s.units, s'.units, ap length k, length-append x.units (unit_of o ∷ []))) in
      rw more (put o at ∙ ap (λ (l : List AccessUnit). holding_firsts l old) (sym k))
