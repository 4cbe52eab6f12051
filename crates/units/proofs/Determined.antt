-- What the code keeps of the units, and what the outputs then hold, is determined by the definitions' units and by what the outputs held
-- at first (`units_determined`): so a promise of `UnitsRepresent` determines what is handed back. Assumes nothing.
use Rattle.std.specs.Prelude.{Option, Some, None}
use Prim.Native.Nat.{ℕ}
use mathlib.Core.Path.{◌≡◌, refl, sym, ap, ◌∙◌}
use native.Mathlib.Omega.{arith}
use Rattle.lists.specs.Lists.{Bytes}
use Rattle.segment_rules.specs.State as state
use Rattle.segment_rules.specs.State.{OpenPes}
use Rattle.segment_rules.specs.Rules.{open_bytes}
use Rattle.segment_rules.specs.Check.{Outputs}
use Rattle.units.specs.declared.state.PesFound.{PesFound}
use Rattle.units.specs.declared.units.Extraction.{Extraction}
use Rattle.units.specs.Extraction.{open_pes, pes_of, UnitsRepresent}

-- the open PES as the code keeps it, of the definitions' one
pes_same : (bytes : Bytes) (p q : Option PesFound) → pes_of bytes p ≡ pes_of bytes q → p ≡ q
pes_same bytes None None e = refl
pes_same bytes None (Some g) e = let z : ◌≡◌ {A = ℕ} 0 1 = cc in absurd (omega arith)
pes_same bytes (Some f) None e = let z : ◌≡◌ {A = ℕ} 0 1 = cc in absurd (omega arith)
pes_same bytes (Some f) (Some g) e = ap Some (kept f g (within (open_pes f bytes) (open_pes g bytes) e))
  where
    within : (o u : OpenPes) → ◌≡◌ {A = Option OpenPes} (Some o) (Some u) → o ≡ u
    within o u k = cc

    kept : (f g : PesFound) → open_pes f bytes ≡ open_pes g bytes → f ≡ g
    kept f g k = ap (λ (o : OpenPes). record { first = o.first; header = o.header }) k

pub units_determined : (before now now' : Outputs) (e e' : Extraction) (x : state.Extraction) → UnitsRepresent before now e x
    → UnitsRepresent before now' e' x → (e ≡ e') × (now ≡ now')
units_determined before now now' e e' x h k = (
  whole (pes_same (open_bytes x.pes) e.pes e'.pes (sym h.pes ∙ k.pes)) (h.units ∙ sym k.units)
      (h.start ∙ sym k.start) (h.bytes ∙ sym k.bytes),
  h.outputs ∙ sym k.outputs,
)
  where
    whole : e.pes ≡ e'.pes → e.units ≡ e'.units → e.start ≡ e'.start → e.bytes ≡ e'.bytes → e ≡ e'
    whole a b c d =
        ap (λ (p : Option PesFound). record { pes = p; units = e.units; start = e.start; bytes = e.bytes }) a
        ∙ ap (λ (n : ℕ). record { pes = e'.pes; units = n; start = e.start; bytes = e.bytes }) b
        ∙ ap (λ (n : ℕ). record { pes = e'.pes; units = e'.units; start = n; bytes = e.bytes }) c
        ∙ ap (λ (n : ℕ). record { pes = e'.pes; units = e'.units; start = e'.start; bytes = n }) d
