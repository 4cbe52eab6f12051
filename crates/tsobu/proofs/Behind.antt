-- The payloads of a string, by what stands behind its first start code. Assumes nothing.
use Rattle.std.proofs.Common.{◌≡◌, ◌-◌, ◌≤◌, ◌<◌, ◌⊎◌, [], ◌∷◌, length, drop, take_all, length-drop, sym, ap, ◌∙◌, inl, inr}
use Rattle.std.proofs.Common.{Bor, Option, Some, None, true, arith}
use Rattle.std.specs.Slice.{IsGetRangeResult}
use Rattle.lists.specs.Lists.{Bytes}
use Rattle.lists.proofs.Threes.{three_long}
use Rattle.tsobu.specs.StartCodes.{at_start_code, split, payloads}
use Rattle.tsobu.specs.Payloads.{payloads_behind}
use Rattle.tsobu.proofs.Places.{before, before_rest, before_ends, code_three, open_code}

module _ (s rest : Bytes) (r : rest ≡ drop (before s) s) where
  none_left : drop (before s) s ≡ [] → [] ≡ payloads s
  unfolding split
  none_left e = ap payloads (sym e) ∙ before_rest s

  opens : at_start_code (drop (before s) s) ≡ true → (split (drop 3 rest)).before ∷ payloads (drop 3 rest) ≡ payloads s
  opens e =
      sym (open_code rest (ap at_start_code r ∙ e)) ∙ ap payloads r ∙ before_rest s

  long : at_start_code (drop (before s) s) ≡ true → 3 ≤ length rest
  long e = three_long code_three rest (ap at_start_code r ∙ e)

  -- what is lent from the third byte of the rest on
  pub behind_first : (behind : Option (Bor Bytes)) → IsGetRangeResult rest 3 (length rest) behind
      → payloads_behind behind ≡ payloads s
  behind_first None h =
      elim (before_ends s) [
        | inl e ↦ none_left e
        | inr e ↦ absurd (too_short h.0 (long e))
      ]
    where
      too_short : (length rest < 3) ⊎ (length rest < length rest) → 3 ≤ length rest → ⊥
      too_short (inl k) m = omega arith
      too_short (inr k) m = omega arith
  behind_first (Some x) h =
      elim (before_ends s) [
        | inl e ↦ absurd (omega (arith, h.0.0, ap length r, ap length e))
        | inr e ↦
            let all = take_all (length rest - 3) (drop 3 rest) (omega (arith, length-drop 3 rest)) in
            ap (λ (t : Bytes). (split t).before ∷ payloads t) (h.0.2 ∙ all) ∙ opens e
      ]
