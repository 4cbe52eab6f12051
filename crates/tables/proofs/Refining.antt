-- Laws of `Refines`: from an outcome and the verdict to a step that is carried out, and back. Assumes nothing.
use Rattle.std.specs.Prelude.{Result, Ok, Err}
use Prim.Native.Nat.{ℕ}
use mathlib.Core.Path.{◌≡◌, sym, ap, subst}
use native.Mathlib.Omega.{arith}
use Rattle.refusal.specs.Verdict.{Verdict, passed, ◌>>=◌, at_place, NoValue}
use Rattle.refusal.specs.Number.{refused_by}
use Rattle.refusal.specs.declared.Refused.{Refused}
use Rattle.tables.specs.Tables.{Refines, placed_at}

-- it did not pass
pub never_passed : {P : Type 0} {o : (Result NoValue Refused)} (q : Refused) → o ≡ Err q → o ≡ (Ok tt) → P
never_passed q e k = let z : ◌≡◌ {A = ℕ} 0 1 = cc in absurd (omega arith)

module _ {A : Type 0} (v : Verdict A) (S : A → Type 0) where
  -- a step carried out, from its outcome
  pub refines_refused : (o : Result NoValue Refused) (q : Refused) → o ≡ Err q → refused_by q ≡ v → Refines o v S
  refines_refused o q e h = subst (λ (x : Result NoValue Refused). Refines x v S) (sym e) (sym h)

  -- what it says
  pub refused_refines : (o : Result NoValue Refused) (q : Refused) → o ≡ Err q → Refines o v S → v ≡ refused_by q
  refused_refines o q e t = subst (λ (x : Result NoValue Refused). Refines x v S) e t

  pub passed_refines : (o : Result NoValue Refused) → o ≡ (Ok tt) → Refines o v S → (a : A) × (v ≡ passed a) × S a
  passed_refines o e t = subst (λ (x : Result NoValue Refused). Refines x v S) e t

  -- with the place of a refusal
  pub refines_at : (i : ℕ) (o : Result NoValue Refused) → Refines o v S → Refines (placed_at i o) (at_place i v) S
  unfolding at_place
  refines_at i (Ok tt) t = (t.0, ap (at_place i) t.1, t.2)
  refines_at i (Err q) t = ap (at_place i) t

  -- of the same verdict
  pub refines_as : (w : Verdict A) (o : Result NoValue Refused) → v ≡ w → Refines o v S → Refines o w S
  refines_as w o e t = subst (λ (x : Verdict A). Refines o x S) e t

  -- what is handed on stands for something more
  pub refines_also : (T : A → Type 0) (o : Result NoValue Refused) → Refines o v S → ((a : A) → v ≡ passed a → S a → T a) → Refines o v T
  refines_also T (Ok tt) t f = (t.0, t.1, f t.0 t.1 t.2)
  refines_also T (Err q) t f = t

  -- and another step follows, which only hands on
  pub refines_then : {B : Type 0} (T : B → Type 0) (f : A → B) (o : Result NoValue Refused) → Refines o v S
      → ((a : A) → v ≡ passed a → S a → T (f a)) → Refines o
      (v >>= λ a. passed (f a)) T
  unfolding ◌>>=◌
  refines_then {B} T f (Ok tt) t k = (f t.0, ap (λ (w : Verdict A). w >>= λ a. passed (f a)) t.1, k t.0 t.1 t.2)
  refines_then {B} T f (Err q) t k = ap (λ (w : Verdict A). w >>= λ a. passed (f a)) t
