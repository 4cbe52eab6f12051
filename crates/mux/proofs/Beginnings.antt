-- The first start code of a frame, looked for place by place: at each it stands there, or it is the first of the places behind. Assumes
-- nothing.
use Rattle.std.specs.Prelude.{Option, Some}
use Prim.Native.Nat.{ℕ, suc, ◌+◌, ◌≤◌, ◌<◌}
use mathlib.Core.Bool.{Bool, true, false}
use mathlib.Core.Path.{◌≡◌, refl, sym, ap, ap₂, subst, ◌∙◌}
use mathlib.Core.List.{List, [], ◌∷◌, map}
use native.Mathlib.Omega.{arith}
use native.Mathlib.Numerals.{add-one}
use borrow.Author.Tests.{le-ltb}
use lib.ListN.{length, drop}
use lib.Seq.{get_or-drop}
use Rattle.lists.specs.Lists.{Bytes, pick}
use Rattle.lists.specs.Bytes.{byte}
use Rattle.lists.proofs.Parts.{next}
use Rattle.lists.proofs.Picks.{by_true, by_false}
use Rattle.lists.proofs.Tests.{case, clash, and_both, and_second}
use Rattle.refusal.proofs.Verdicts.{All}
use Rattle.emulation.specs.Payload.{unescape}
use Rattle.tsobu.specs.StartCodes.{at_start_code, start_codes_from, Split, payloads}
use Rattle.unit.specs.Unit.{obus_in}
use Rattle.tsobu.proofs.Splits.{code_is, split_code, split_byte, codes_yes, codes_no, second_no, third_no}
use Rattle.comparison.specs.Comparison.{frame_type, is_frame}
use Rattle.comparison.proofs.Frames.{frame_first}
use Rattle.mux_rules.specs.Packets.{first_frame, within}
use Rattle.mux.specs.Parts.{frame_at}

-- the first one of a string, whose first byte has this place
abbrev pub first_from : ℕ → Bytes → Option ℕ
first_from i t = first_frame (start_codes_from i t) (obus_in t)

-- ---- one place
-- no start code stands there
no_code : (i a : ℕ) (t : Bytes) → at_start_code (a ∷ t) ≡ false → first_from i (a ∷ t) ≡ first_from (suc i) t
no_code i a t e =
    ap₂ (λ (codes : List ℕ) (ps : List Bytes). first_frame codes (map unescape ps)) (codes_no i a t e)
    (ap (λ (r : Split). r.payloads) (split_byte a t e))

-- one stands there: the next two bytes begin none
code_payloads : (s : Bytes) → payloads (0 ∷ 1 ∷ s) ≡ payloads s
code_payloads s =
    ap (λ (r : Split). r.payloads) (split_byte 0 (1 ∷ s) (second_no s)) ∙ ap (λ (r : Split). r.payloads) (split_byte 1 s (third_no s))

with_code : (i : ℕ) (s : Bytes) → first_from i (0 ∷ 0 ∷ 1 ∷ s)
    ≡ pick (frame_type (byte s 0)) (Some i) (first_from (suc i) (0 ∷ 1 ∷ s))
unfolding first_frame at_start_code
with_code i s =
    ap₂ (λ (codes : List ℕ) (ps : List Bytes). first_frame codes (map unescape ps)) (codes_yes i 0 (0 ∷ 1 ∷ s) refl)
    (ap (λ (r : Split). r.payloads) (split_code 0 0 1 s refl))
    ∙ ap₂ (λ (b : Bool) (ps : List Bytes). pick b (Some i) (first_frame (start_codes_from (suc i) (0 ∷ 1 ∷ s)) (map unescape ps)))
    (frame_first s)
    (sym (code_payloads s))

-- the same of any string at a start code
at_code : (i : ℕ) (t : Bytes) → at_start_code t ≡ true
    → first_from i t ≡ pick (frame_type (byte t 3)) (Some i) (first_from (suc i) (drop 1 t))
unfolding at_start_code
at_code i [] e = clash e refl
at_code i (a ∷ []) e = clash e refl
at_code i (a ∷ b ∷ []) e = clash e refl
at_code i (a ∷ b ∷ c ∷ s) e = let z = code_is a b c e in rw (z.0, z.1, z.2) (with_code i s)

module _ (s : Bytes) (i : ℕ) (h : i < length s) where
  -- those behind a place
  abbrev pub behind : Option ℕ
  behind = first_from (i + 1) (drop (i + 1) s)

  abbrev here : Bool
  here = frame_type (byte s (i + 3))

  at_place : at_start_code (drop i s) ≡ true → first_from i (drop i s) ≡ pick here (Some i) behind
  at_place e =
      at_code i (drop i s) e
      ∙ ap₂ (λ (x : ℕ) (t : Bytes). pick (frame_type x) (Some i) (first_from (suc i) t)) (get_or-drop i s 3 0)
      (ap (drop 1) (next s i h))
      ∙ ap (λ (n : ℕ). pick here (Some i) (first_from n (drop (i + 1) s))) (sym (add-one i))

  -- a frame begins there
  pub found : frame_at s i ≡ true → first_from i (drop i s) ≡ Some i
  found e = let b = and_both (at_start_code (drop i s)) here e in at_place b.0 ∙ sym (by_true _ b.1 refl)

  -- none does
  pub goes_on : frame_at s i ≡ false → first_from i (drop i s) ≡ behind
  goes_on e =
      case (at_start_code (drop i s))
      (λ k. at_place k ∙ sym (by_false _ (and_second (at_start_code (drop i s)) here k e) refl))
      (λ k.
      ap (first_from i) (next s i h) ∙ no_code i (byte s i) (drop (i + 1) s) (sym (ap at_start_code (next s i h)) ∙ k)
      ∙ ap (λ (n : ℕ). first_from n (drop (i + 1) s)) (sym (add-one i)))

-- ---- the places behind
-- the first from i on is no place before i
codes_behind : (n i : ℕ) (codes : List ℕ) (obus : List Bytes) → All (λ code. i ≤ code) codes → n ≤ i
    → within n (first_frame codes obus) ≡ false
unfolding first_frame
codes_behind n i [] obus a h = refl
codes_behind n i (code ∷ codes) [] a h = refl
codes_behind n i (code ∷ codes) (obu ∷ obus) a h =
    case (is_frame obu)
    (λ e. ap (within n) (sym (by_true (first_frame codes obus) e refl)) ∙ le-ltb code n (omega (arith, a.0)))
    (λ e. ap (within n) (sym (by_false (Some code) e refl)) ∙ codes_behind n i codes obus a.1 h)

all_later : (i : ℕ) (codes : List ℕ) → All (λ code. suc i ≤ code) codes → All (λ code. i ≤ code) codes
all_later i [] a = tt
all_later i (code ∷ codes) a = (omega (arith, a.0), all_later i codes a.1)

codes_from : (i : ℕ) (t : Bytes) → All (λ code. i ≤ code) (start_codes_from i t)
unfolding start_codes_from
codes_from i [] = tt
codes_from i (a ∷ t) =
    case (at_start_code (a ∷ t))
    (λ e. subst (All (λ code. i ≤ code)) (sym (codes_yes i a t e))
    (omega arith, all_later i (start_codes_from (suc i) t) (codes_from (suc i) t)))
    (λ e. subst (All (λ code. i ≤ code)) (sym (codes_no i a t e)) (all_later i (start_codes_from (suc i) t) (codes_from (suc i) t)))

pub none_before : (n i : ℕ) (t : Bytes) → n ≤ i → within n (first_from i t) ≡ false
none_before n i t h = codes_behind n i (start_codes_from i t) (obus_in t) (codes_from i t) h
