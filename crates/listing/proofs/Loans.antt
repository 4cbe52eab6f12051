-- A lifetime for one call, inside the lifetime κ of the bytes that a reader holds: it is made of a new atom and κ, so κ outlives it.
-- `lives` makes it, with the tokens that the call takes; `Ends` takes them back. And a value in memory, put together and taken apart
-- (`lies_in`, `lies_out`). The laws take `Logic`; the rest assumes nothing.
use Prim.Native.Nat.{ℕ}
use mathlib.Core.List.{List, [], ◌∷◌}
use seplogic.Ra.Ura.{Ura}
use base.Share
use base.Fraction.{full_share}
use mir.Val.{Val}
use base.Logic.{SProp, ent, sep, ex, wand, id⊢}
use base.Fml.{Lft, Share, fsep, fdead, flft}
use types.Logic.{Logic, sem}
use contract.BorrowLft.{◌⊑◌, meet_⊑_left, meet_⊑_right}
use types.Kit.{‵, raw, ◌⊛◌, ◌$◌, ◌∵◌, !, qed, move, use1, use2, split, join, fsplit, fjoin, fpick, fpack, frame, apply, assume}
use types.Kit.{updating, now as at_once, show, done}
use types.Tokens.{lft_new, lft_end}
use denote.RattleType.{RattleType}
use denote.Memory.{cell_at, mem, part_of}

-- κ outlives the lifetime of the call
pub outlived : (ν : ℕ) (κ : Lft) → (ν ∷ κ) ⊑ κ
outlived ν κ = meet_⊑_right (ν ∷ []) κ

module _ {M : Type 1} {𝓤 : Ura M} (𝓛 : Logic 𝓤) where
  -- the tokens of the call's lifetime and of κ
  open 𝓛 use {H, A}

  abbrev pub Lives : Lft → Share → ℕ → SProp 𝓤
  Lives κ q ν = sep 𝓤 (A.lft (ν ∷ κ) (Share.left q)) (A.lft κ (Share.right q))

  -- once they are back, the call's lifetime ends, and κ's token is whole
  abbrev pub Ends : Lft → Share → ℕ → SProp 𝓤
  Ends κ q ν = wand 𝓤 (Lives κ q ν) (H.⇛ (sep 𝓤 (A.dead (ν ∷ κ)) (A.lft κ q)))

  pub lives : (κ : Lft) (q : Share) → ent 𝓤 (A.lft κ q) (H.⇛ (ex 𝓤 (λ (ν : ℕ). sep 𝓤 (Lives κ q ν) (Ends κ q ν))))
  lives κ q =
      qed 𝓛 (‵ (flft κ q) ∷ []) ∵ updating ! $ use1 𝓛 (‵ (flft κ (Share.left q)) ⊛ ‵ (flft κ (Share.right q)))
      (𝓛.lfts.lft_split κ q) $ split ! $ lft_new ! tt (λ ν.
      use1 𝓛 (‵ (flft (ν ∷ []) (Share.left q)) ⊛ raw (wand 𝓤 (A.lft (ν ∷ []) (Share.left q)) (A.lft (ν ∷ []) full_share)))
      (𝓛.lfts.lft_carve ν (Share.left q)) $ split ! $
      -- [a share of ν's token; the way back to the whole; κ's left half; its right half]
      move ! (0 ∷ 2 ∷ []) $ use2 𝓛 (‵ (flft (ν ∷ κ) (Share.left q))) (𝓛.lfts.lft_meet (ν ∷ []) κ (Share.left q)) $
      at_once ! $ show ! (λ (ν' : ℕ). sep 𝓤 (Lives κ q ν') (Ends κ q ν')) ν $ move ! (0 ∷ 2 ∷ []) $ join ! $ frame ! $
      assume {P = H.⇛ (sep 𝓤 (A.dead (ν ∷ κ)) (A.lft κ q))} !
      (‵ (flft (ν ∷ κ) (Share.left q)) ⊛ ‵ (flft κ (Share.right q))) $ updating ! $ split ! $
      use1 𝓛 (‵ (flft (ν ∷ []) (Share.left q)) ⊛ ‵ (flft κ (Share.left q)))
      (𝓛.lfts.lft_unmeet (ν ∷ []) κ (Share.left q)) $ split ! $
      -- [a share of ν's token; κ's left half; its right half; the way back to the whole]
      move ! (0 ∷ 3 ∷ []) $ apply ! $ use1 𝓛 (‵ (flft (ν ∷ []) full_share)) (id⊢ 𝓤 _) $ lft_end ! tt $
      use1 𝓛 (‵ (fdead (ν ∷ κ))) (𝓛.lfts.dead-incl (ν ∷ κ) (ν ∷ []) (meet_⊑_left (ν ∷ []) κ)) $
      move ! (1 ∷ 2 ∷ []) $ use2 𝓛 (‵ (flft κ q)) (𝓛.lfts.lft_join κ q) $ at_once ! $ move ! (1 ∷ 0 ∷ []) $ done !)

  -- a value in memory: its machine values, and what it owns at them
  pub lies_in : (R : RattleType) (x : R.Denot) (vs : List Val) (b o : ℕ)
      → ent 𝓤 (sep 𝓤 (sem 𝓛 (cell_at full_share R.mir vs b o)) (sem 𝓛 (R.own_val x vs))) (sem 𝓛 ((mem R).own_at x b o))
  unfolding part_of
  lies_in R x vs b o =
      qed 𝓛 (‵ (cell_at full_share R.mir vs b o) ∷ ‵ (R.own_val x vs) ∷ []) ∵ fjoin ! $ fpack ! (List Val)
      (λ us. fsep (cell_at full_share R.mir us b o) (R.own_val x us)) vs $ done !

  pub lies_out : (R : RattleType) (x : R.Denot) (b o : ℕ)
      → ent 𝓤 (sem 𝓛 ((mem R).own_at x b o)) (ex 𝓤 (λ (vs : List Val). sep 𝓤 (sem 𝓛 (cell_at full_share R.mir vs b o))
      (sem 𝓛 (R.own_val x vs))))
  unfolding part_of
  lies_out R x b o =
      qed 𝓛 (‵ ((mem R).own_at x b o) ∷ []) ∵ fpick ! (λ vs. fsplit ! $ show !
      (λ (us : List Val). sep 𝓤 (sem 𝓛 (cell_at full_share R.mir us b o)) (sem 𝓛 (R.own_val x us))) vs $ done !)
