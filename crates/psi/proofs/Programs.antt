-- The programs of a PAT, chunk by chunk of four bytes. `Seen cs found i` says: of the programs not 0, those before chunk i are `found`.
--     skip       the next entry is of program 0
--     keep       the next entry is the first that is not
--     second     it is one more: 25
--     nobody, one  the entries are at their end
-- Assumes nothing.
use Prim.Native.Nat.{ℕ, suc, ◌+◌, ◌/◌, ◌≤◌, ◌<◌}
use mathlib.Core.Bool.{true, false, not}
use Rattle.std.proofs.Common.{Option, None, Some, is_some}
use Rattle.std.proofs.lemmas.Bool.{false≢true}
use mathlib.Core.Path.{◌≡◌, refl, sym, ap, ap₂, ◌∙◌}
use mathlib.Core.List.{List, [], ◌∷◌, ◌++◌, map}
use native.Mathlib.Omega.{arith}
use borrow.Author.Tests.{eq-eqb, ne_eqb}
use lib.ListN.{length, drop, get_or, drop_of_length-le}
use lib.Seq.{drop-cons}
use Rattle.std.specs.Simd.{first_chunks}
use Rattle.lists.specs.Lists.{Bytes, those}
use Rattle.lists.specs.Bytes.{byte}
use Rattle.refusal.specs.Verdict.{refused}
use Rattle.psi.specs.declared.pat.Program.{Program}
use Rattle.psi.specs.Pat.{entry_of, programs, not_zero, map_pid_in_range, one_program}
use Rattle.lists.proofs.Elements.{those_first, those_others}

-- the entry of four bytes
abbrev pub entry_in : Bytes → Program
entry_in s = entry_of (byte s 0) (byte s 1) (byte s 2) (byte s 3)

-- the entries of the chunks of four bytes
of_chunks : (s : Bytes) → programs s ≡ map entry_in (first_chunks 4 (length s / 4) s)
unfolding programs
of_chunks [] = refl
of_chunks (a ∷ []) = refl
of_chunks (a ∷ b ∷ []) = refl
of_chunks (a ∷ b ∷ c ∷ []) = refl
of_chunks (a ∷ b ∷ c ∷ d ∷ s) =
    let more : suc (length s / 4) ≡ length (a ∷ b ∷ c ∷ d ∷ s) / 4 = omega arith in
    ap (λ (l : List Program). entry_of a b c d ∷ l) (of_chunks s)
    ∙ ap (λ (n : ℕ). map entry_in (first_chunks 4 n (a ∷ b ∷ c ∷ d ∷ s))) more

-- the programs not 0 of these chunks
abbrev pub named : List Bytes → List Program
named cs = those not_zero (map entry_in cs)

-- in a string's chunks they are the string's
pub of_all : (s : Bytes) (cs : List Bytes) → cs ≡ first_chunks 4 (length s / 4) s
    → one_program (named cs) ≡ one_program (those not_zero (programs s))
of_all s cs e = ap (λ (l : List Program). one_program (those not_zero l)) (ap (map entry_in) e ∙ sym (of_chunks s))

abbrev pub as_list : Option Program → List Program
as_list None = []
as_list (Some p) = p ∷ []

nobody_yet : (o : Option Program) → is_some o ≡ false → as_list o ≡ []
nobody_yet None e = refl
nobody_yet (Some p) e = absurd (false≢true (sym e))

two_or_more : (o : Option Program) (p : Program) (l : List Program) → is_some o ≡ true → one_program (as_list o ++ p ∷ l) ≡ refused 25 0
unfolding one_program
two_or_more None p l e = absurd (false≢true e)
two_or_more (Some q) p l e = refl

pub record Seen (cs : List Bytes) (found : Option Program) (i : ℕ) : Type 0 where
  pub within : i ≤ length cs
  pub whole : named cs ≡ as_list found ++ named (drop i cs)

module _ {cs : List Bytes} {found : Option Program} {i : ℕ} (seen : Seen cs found i) where
  -- the next entry is p
  module _ (p : Program) (d : Bytes) (h : i < length cs) (e : p ≡ entry_in (get_or cs i d)) where
    next_is : map entry_in (drop i cs) ≡ p ∷ map entry_in (drop (i + 1) cs)
    next_is =
        let more : suc i ≡ i + 1 = omega arith in
        ap (map entry_in) (drop-cons cs i d h)
        ∙ ap₂ (λ (q : Program) (l : List Program). q ∷ l) (sym e) (ap (λ (n : ℕ). map entry_in (drop n cs)) more)

    pub skip : p.number ≡ 0 → Seen cs found (i + 1)
    skip k =
        record {
          within = omega arith;
          whole =
              seen.whole
              ∙ ap (λ (l : List Program). as_list found ++ l)
              (ap (those not_zero) next_is ∙ those_others not_zero p (map entry_in (drop (i + 1) cs)) (ap not (eq-eqb p.number 0 k)));
        }

    counts : (p.number ≡ 0 → ⊥) → named (drop i cs) ≡ p ∷ named (drop (i + 1) cs)
    counts k = ap (those not_zero) next_is ∙ those_first not_zero p (map entry_in (drop (i + 1) cs)) (ap not (ne_eqb p.number 0 k))

    pub keep : is_some found ≡ false → (p.number ≡ 0 → ⊥) → Seen cs (Some p) (i + 1)
    keep f k =
        record {
          within = omega arith;
          whole = seen.whole ∙ ap (λ (l : List Program). l ++ named (drop i cs)) (nobody_yet found f) ∙ counts k;
        }

    pub second : is_some found ≡ true → (p.number ≡ 0 → ⊥) → one_program (named cs) ≡ refused 25 0
    second f k = ap one_program (seen.whole ∙ ap (λ (l : List Program). as_list found ++ l) (counts k)) ∙ two_or_more found p _ f

  -- all that was found
  ended : length cs ≤ i → (o : Option Program) → found ≡ o → named cs ≡ as_list o ++ []
  unfolding those
  ended h o f =
      seen.whole ∙ ap (λ (q : Option Program). as_list q ++ named (drop i cs)) f
      ∙ ap (λ (l : List Bytes). as_list o ++ named l) (drop_of_length-le cs h)

  pub nobody : length cs ≤ i → found ≡ None → one_program (named cs) ≡ refused 25 0
  unfolding one_program
  nobody h f = ap one_program (ended h None f)

  pub one : (q : Program) → length cs ≤ i → found ≡ Some q → one_program (named cs) ≡ map_pid_in_range q
  unfolding one_program
  one q h f = ap one_program (ended h (Some q) f)
