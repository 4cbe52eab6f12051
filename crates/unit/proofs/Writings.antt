-- The carried unit, tsOBU by tsOBU: its length, and its bytes in an output. Assumes nothing.
use Rattle.std.specs.Prelude.{Result, Ok, Err}
use Rattle.std.specs.Result.{result_unwrap_or}
use Rattle.refusal.specs.Number.{says}
use Prim.Native.Nat.{ℕ, ◌+◌, ◌-◌, ◌*◌, ◌/◌, ◌≤◌, ◌<◌}
use mathlib.Core.Path.{◌≡◌, refl, sym, ap, subst, subst₂, ◌∙◌}
use mathlib.Core.List.{List, [], ◌∷◌, ◌++◌}
use native.Mathlib.Omega.{arith}
use borrow.Author.Tests.{le-ltb}
use borrow.Rule.Slice.PartMut.{mid_of, put_mid}
use lib.ListN.{length, get_or, set, length-append, length-drop, length-map}
use Rattle.lists.specs.Lists.{Bytes, over, placed}
use Rattle.lists.proofs.Parts.{tail_lent, tail_placed}
use Rattle.lists.proofs.Writing.{Part, start, counted, done, put_all}
use Rattle.refusal.specs.declared.Refused.{Refused}
use Rattle.refusal.specs.Verdict.{passed}
use Rattle.refusal.proofs.Verdicts.{pass_on, never, passed_same}
use Rattle.emulation.specs.Payload.{escape}
use Rattle.emulation.specs.Answer.{most_escaped, measuring}
use Rattle.unit.specs.Unit.{most_obus, most_obu_bytes, most_carried, sum, obus_of, carried}
use Rattle.unit.proofs.Lengths.{cut_lengths}
use Rattle.unit.proofs.Theorem.{carried_length}
use Rattle.unit.proofs.Rests.{left, next_obu, lent_obu, At, left_next, left_end, lent_obu_lem, at_next}

-- ---- the length of an escaped OBU, within the limit of escaping
measuring_is : (obu : Bytes) → length obu ≤ most_escaped → measuring obu ≡ passed (length (escape obu))
unfolding measuring
measuring_is obu h = sym (pass_on 2 (le-ltb most_escaped (length obu) h) refl)

pub measured : (obu : Bytes) → length obu ≤ most_escaped → (q : Result ℕ Refused) → says q ≡ measuring obu
    → result_unwrap_or q 0 ≡ length (escape obu)
measured obu h (Ok n) e = passed_same n (length (escape obu)) (e ∙ measuring_is obu h)
measured obu h (Err r) e = never (e ∙ measuring_is obu h)

-- ---- the carried unit: a tsOBU for each OBU in turn
abbrev ts_obu : Bytes → Bytes
ts_obu obu = 0 ∷ 0 ∷ 1 ∷ escape obu

module _ (lens : List ℕ) (bytes : Bytes) (i at : ℕ) where
  carried_next : i < length lens
      → carried (left lens bytes i at) ≡ ts_obu (next_obu lens bytes i at) ++ carried (left lens bytes (i + 1) (at + get_or lens i 0))
  unfolding carried
  carried_next h = rw (left_next lens bytes i at h)

  carried_end : length lens ≤ i → carried (left lens bytes i at) ≡ []
  unfolding carried
  carried_end h = rw (left_end lens bytes i at h)

  -- of the next one as it is lent
  carried_more : i < length lens
      → length (carried (left lens bytes i at))
      ≡ 3 + length (escape (lent_obu lens bytes i at)) + length (carried (left lens bytes (i + 1) (at + get_or lens i 0)))
  carried_more h =
      omega (
        arith,
        ap length (carried_next h),
        length-append (ts_obu (next_obu lens bytes i at))
            (carried (left lens bytes (i + 1) (at + get_or lens i 0))),
        ap (λ (s : Bytes). length (escape s)) (lent_obu_lem lens bytes i at),
      )

pub carried_most : (lens : List ℕ) (bytes : Bytes) → length lens ≤ most_obus → length bytes ≤ most_obu_bytes → sum lens ≡ length bytes
    → length (carried (obus_of lens bytes)) ≤ most_carried
carried_most lens bytes h k e =
    let c = cut_lengths lens bytes e in
    omega (arith, carried_length (obus_of lens bytes), length-map (obus_of lens bytes) length, ap length c, ap sum c)

-- a bound on its length, by the lengths alone
pub carried_bound : (lens : List ℕ) (bytes : Bytes) → sum lens ≡ length bytes
    → length (carried (obus_of lens bytes)) ≤ 3 * length lens + length bytes + length bytes / 2
carried_bound lens bytes e =
    let c = cut_lengths lens bytes e in
    omega (arith, carried_length (obus_of lens bytes), length-map (obus_of lens bytes) length, ap length c, ap sum c)

-- ---- counting: n bytes are those of i OBUs as carried
pub record Counting (lens : List ℕ) (bytes : Bytes) (n i at : ℕ) : Type 0 where
  pub place : At lens bytes i at
  pub count : n + length (carried (left lens bytes i at)) ≡ length (carried (obus_of lens bytes))

module _ (lens : List ℕ) (bytes : Bytes) where
  pub counting_start : sum lens ≡ length bytes → Counting lens bytes 0 0 0
  counting_start e = record { place = omega arith; count = omega arith }

  module _ (n i at : ℕ) (w : Counting lens bytes n i at) where
    -- the next one has m bytes, escaped
    pub counting_next : i < length lens → (m : ℕ) → m ≡ length (escape (lent_obu lens bytes i at))
        → Counting lens bytes (n + (3 + m)) (i + 1) (at + get_or lens i 0)
    counting_next h m e = record {
      place = at_next lens bytes i at w.place h;
      count = omega
          (arith, w.count, carried_more lens bytes i at h);
    }

    pub counting_end : length lens ≤ i → n ≡ length (carried (obus_of lens bytes))
    counting_end h = omega (arith, w.count, ap length (carried_end lens bytes i at h))

-- ---- one tsOBU over the front of an output: a start code, and w behind it
pub code_over : (out w : Bytes) → 3 ≤ length out → placed (set (set (set out 0 0) 1 0) 2 1) 3 w ≡ over (0 ∷ 0 ∷ 1 ∷ w) out
code_over [] w h = absurd (omega arith)
code_over (a ∷ []) w h = absurd (omega arith)
code_over (a ∷ b ∷ []) w h = absurd (omega arith)
code_over (a ∷ b ∷ c ∷ s) w h = refl

-- ---- writing: of the carried unit, n bytes, those of i OBUs, stand at the front of `out`
pub record Writing (lens : List ℕ) (bytes out₀ : Bytes) (n i at : ℕ) (out : Bytes) : Type 0 where
  pub place : At lens bytes i at
  pub part : Part out₀ (carried (obus_of lens bytes)) n (carried (left lens bytes i at)) out

module _ (lens : List ℕ) (bytes out₀ : Bytes) where
  pub writing_start : sum lens ≡ length bytes → Writing lens bytes out₀ 0 0 0 out₀
  writing_start e = record { place = omega arith; part = start out₀ (carried (obus_of lens bytes)) }

  module _ (n i at : ℕ) (out : Bytes) (w : Writing lens bytes out₀ n i at out) where
    -- what is left, in other words
    left_is : {rest : Bytes} → carried (left lens bytes i at) ≡ rest → Part out₀ (carried (obus_of lens bytes)) n rest out
    left_is e = subst (λ (l : Bytes). Part out₀ (carried (obus_of lens bytes)) n l out) e w.part

    -- the next one has room in the part from n on
    pub writing_room : length (carried (obus_of lens bytes)) ≤ length out₀ → i < length lens
        → 3 + length (escape (lent_obu lens bytes i at)) ≤ length (mid_of n (length out - n) out)
    writing_room f h =
        omega (
          arith,
          counted w.part,
          carried_more lens bytes i at h,
          w.part.long,
          ap length
              (tail_lent n out w.part.within),
          length-drop n out,
        )

    -- the next one is written there, and has r bytes
    pub writing_next : length (carried (obus_of lens bytes)) ≤ length out₀ → i < length lens → (r : ℕ)
        → r ≡ 3 + length (escape (lent_obu lens bytes i at))
        → (after : Bytes) → after ≡ over (ts_obu (lent_obu lens bytes i at)) (mid_of n (length out - n) out)
        → Writing lens bytes out₀ (n + r) (i + 1) (at + get_or lens i 0) (put_mid n (length out - n) out after)
    writing_next f h r e after k =
        let obu : Bytes = next_obu lens bytes i at in
        let lent = lent_obu_lem lens bytes i at in
        let count : n + length (ts_obu obu) ≡ n + r = omega (arith, e, ap (λ (s : Bytes). length (escape s)) lent) in
        let put = tail_placed n out (ts_obu obu) after w.part.within
        (k ∙ ap (λ (x : Bytes). over (ts_obu x) (mid_of n (length out - n) out)) lent) in
        record {
          place = at_next lens bytes i at w.place h;
          part =
              subst₂ (λ (m : ℕ) (s : Bytes). Part out₀ (carried (obus_of lens bytes)) m
              (carried (left lens bytes (i + 1) (at + get_or lens i 0))) s) count (sym put)
              (put_all (ts_obu obu) (left_is (carried_next lens bytes i at h)) f);
        }

    -- all are written
    pub writing_end : length lens ≤ i → (n ≡ length (carried (obus_of lens bytes))) × (out ≡ over (carried (obus_of lens bytes)) out₀)
    writing_end h =
        let none = carried_end lens bytes i at h in
        (omega (arith, counted w.part, ap length none), done (left_is none))
