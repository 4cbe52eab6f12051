-- What a reader owns, and what its step hands out, for the walks of functions over them. A reader is Copy: what its bytes own is had beside
-- the whole. A reader at another place is had of it. Of what a step hands out, the part is had. The laws take `Logic`; the rest assumes
-- nothing.
use mathlib.Core.Path.{◌≡◌, refl}
use Prim.Native.Nat.{ℕ, ◌<◌, ◌^◌}
use mathlib.Core.List.{[], ◌∷◌}
use lib.ListN.{length}
use seplogic.Ra.Ura.{Ura}
use mir.Syntax.{named, w64}
use mir.Val.{Val}
use base.Logic.{ent, sep}
use base.Fml.{Fml}
use types.Logic.{Logic, sem}
use types.Kit.{‵, ◌⊛◌, given, ◌$◌, ◌∵◌, !, qed, by, move, drop, use1, split, learn, done}
use denote.Laws.{Is}
use denote.Plain.{uint_Makes}
use denote.Builtin.{u8, usize}
use denote.Ref.{NamedLft}
use denote.Slice.{slice_val, ShrSlice, shr_slice_vals}
use denote.Steps.{owned}
use denote.Struct.Declared.{Declared}
use denote.Struct.Laws as LL
use denote.Struct.Rest.{all_own, field_own, rest, own_open, own_out, own_put}
use denote.Struct.Values.{Values}
use Rattle.tsobu.specs.declared.reader.Handed.{Handed}
use Rattle.tsobu.specs.declared.reader.Walk.{Walk}
use Rattle.tsobu.specs.contracts.reader.Handed as G
use Rattle.tsobu.proofs.reader.Handed.TheLaws as G'
use Rattle.tsobu.specs.contracts.reader.Walk as T
use Rattle.tsobu.proofs.reader.Walk.TheLaws as T'

-- a reader at another place
abbrev pub at_place : Walk → ℕ → Walk
at_place d n = record { src = d.src; at = n }

-- the machine value of a reader's bytes
abbrev pub bytes : Walk → Val
bytes d = slice_val d.src.ref_ptr (length d.src.now)

-- what a reader owns, and what its bytes do
abbrev pub Own : NamedLft → Walk → Fml
Own α d = (T.the_row α).own_val d (T'.lowered d ∷ [])

abbrev pub Src : NamedLft → Walk → Fml
Src α d = (ShrSlice (named 0) α.lft u8).own_val d.src (bytes d ∷ [])

module _ {M : Type 1} {𝓤 : Ura M} (𝓛 : Logic 𝓤) (α : NamedLft) (d : Walk) where
  -- the struct's type and laws, and d's fields' values
  abbrev D : Declared
  D = T.the_type α

  abbrev L : LL.Laws D
  L = T'.the_laws α

  abbrev vd : Values D.parts
  vd = (d.src, (d.at, tt))

  abbrev mach : Val
  mach = T'.lowered d

  pub src_out : ent 𝓤 (sem 𝓛 (Own α d)) (sep 𝓤 (sem 𝓛 (Src α d)) (sem 𝓛 (Own α d)))
  src_out =
      qed 𝓛 (‵ (Own α d) ∷ []) ∵
      use1 𝓛 (‵ (Own α d) ⊛ ‵ (Own α d)) ((LL.copy D (T'.the_copy α) 𝓛).twice d (mach ∷ [])) $ split ! $
      use1 𝓛 (given (mach ∷ [] ≡ mach ∷ []) (‵ (all_own D.parts L vd))) (own_open 𝓛 D L vd mach) $ learn ! (λ _.
      use1 𝓛 (‵ (field_own D.parts L 0 d.src) ⊛ ‵ (rest D.parts L 0 vd)) (own_out 𝓛 D.parts L 0 vd) $
      split ! $ move ! (1 ∷ []) $ drop ! $ done !)

  -- the facts of the new place take the place of the old one's
  pub at_put : (n : ℕ) → n < 2 ^ 64 → ent 𝓤 (sem 𝓛 (Own α d)) (sem 𝓛 (Own α (at_place d n)))
  at_put n fits =
      qed 𝓛 (‵ (Own α d) ∷ []) ∵
      owned ! usize (Is usize) (uint_Makes 𝓛 w64) n _ (refl, fits) $ move ! (1 ∷ 0 ∷ []) $ by ! (own_put 𝓛 D L 1 vd n mach)

-- the machine value of what a step hands out, and what it owns
abbrev pub handed_val : NamedLft → Handed → Val
handed_val α g = LL.val (G.the_type α) (G'.the_laws α) g

module _ {M : Type 1} {𝓤 : Ura M} (𝓛 : Logic 𝓤) (α : NamedLft) (g : Handed) where
  -- the struct's type, and g's fields' values
  abbrev F : Declared
  F = G.the_type α

  abbrev vg : Values F.parts
  vg = (g.step, (g.payload, tt))

  pub part_out : ent 𝓤 (sem 𝓛 ((G.the_row α).own_val g (handed_val α g ∷ [])))
      (sem 𝓛 ((ShrSlice (named 0) α.lft u8).own_val g.payload (shr_slice_vals g.payload)))
  part_out =
      qed 𝓛 (‵ ((G.the_row α).own_val g (handed_val α g ∷ [])) ∷ []) ∵
      use1 𝓛 (given (handed_val α g ∷ [] ≡ handed_val α g ∷ []) (‵ (all_own F.parts (G'.the_laws α) vg)))
      (own_open 𝓛 F (G'.the_laws α) vg (handed_val α g)) $ learn ! (λ _.
      use1 𝓛 (‵ (field_own F.parts (G'.the_laws α) 1 g.payload) ⊛ ‵ (rest F.parts (G'.the_laws α) 1 vg))
      (own_out 𝓛 F.parts (G'.the_laws α) 1 vg) $ split ! $ move ! (1 ∷ []) $ drop ! $ done !)
