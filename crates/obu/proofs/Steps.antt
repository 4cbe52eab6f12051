-- The order rule, one kind at a time. Assumes nothing.
use Prim.Native.Nat.{ℕ, suc}
use mathlib.Core.Bool.{Bool, true, false}
use mathlib.Core.Path.{◌≡◌}
use mathlib.Core.List.{List, ◌∷◌}
use Rattle.refusal.specs.Verdict.{refused}
use Rattle.obu.specs.Order.{Kind, temporal_delimiter, frame_header, tile_group, is, head_kind, tile_kind, last_kind}
use Rattle.obu.specs.Order.{after_frame, in_tiles, at_frame, before_frame, order_refusal}

module _ (i : ℕ) (k : Kind) (s : List Kind) where
  pub tiles_on : (ended : Bool) → tile_kind k ≡ true → in_tiles i ended (k ∷ s) ≡ in_tiles (suc i) (is k tile_group) s
  unfolding in_tiles
  tiles_on ended e = rw (e, in_tiles)

  pub tiles_stop : (ended : Bool) → tile_kind k ≡ false → in_tiles i ended (k ∷ s) ≡ refused 7 i
  unfolding in_tiles
  tiles_stop ended e = rw (e, in_tiles)

  pub one_frame_lem : last_kind k ≡ true → at_frame i (k ∷ s) ≡ after_frame (suc i) s
  unfolding at_frame
  one_frame_lem e = rw (e, at_frame)

  pub one_header : last_kind k ≡ false → is k frame_header ≡ true → at_frame i (k ∷ s) ≡ in_tiles (suc i) false s
  unfolding at_frame
  one_header e f = rw (e, at_frame) (rw f)

  pub no_frame : last_kind k ≡ false → is k frame_header ≡ false → at_frame i (k ∷ s) ≡ refused 7 i
  unfolding at_frame
  no_frame e f = rw (e, at_frame) (rw f)

  pub head_on : head_kind k ≡ true → before_frame i (k ∷ s) ≡ before_frame (suc i) s
  unfolding before_frame
  head_on e = rw (e, before_frame)

  pub head_stop : head_kind k ≡ false → before_frame i (k ∷ s) ≡ at_frame i (k ∷ s)
  unfolding before_frame
  head_stop e = rw (e, before_frame)

module _ (k : Kind) (s : List Kind) where
  pub delimited : is k temporal_delimiter ≡ true → order_refusal (k ∷ s) ≡ before_frame 1 s
  unfolding order_refusal
  delimited e = rw (e, order_refusal)

  pub not_delimited : is k temporal_delimiter ≡ false → order_refusal (k ∷ s) ≡ before_frame 0 (k ∷ s)
  unfolding order_refusal
  not_delimited e = rw (e, order_refusal)
