-- Laws of `Reads`: one read after another, a read by a test, and a payload that has been passed. Assumes nothing.
use Prim.Native.Nat.{ℕ}
use mathlib.Core.Bool.{Bool, true, false, ◌&&◌}
use mathlib.Core.Logic.{◌⊎◌, inl, inr}
use mathlib.Core.Path.{◌≡◌, refl, sym, ap, subst, ◌∙◌}
use mathlib.Core.List.{List}
use lib.Dec.{eqb}
use borrow.Author.Tests.{eq-eqb, ne_eqb}
use Rattle.lists.specs.Lists.{pick}
use Rattle.lists.proofs.Tests.{case, clash, ways}
use Rattle.refusal.specs.Verdict.{NoValue}
use Rattle.sequence.specs.Bits.{Reader, read, cut_short, after, ◌>>=◌, ◌>>◌, return, when}
use Rattle.sequence.specs.Parts.{left, said, Reads}
use Rattle.sequence.specs.declared.reader.BitReader.{BitReader}

-- ---- what a reader says
pub said_cut : {A : Type 0} (v : A) (r : BitReader) → r.cut ≡ true → said v r ≡ cut_short
unfolding said pick
said_cut v r e = rw e

pub said_read : {A : Type 0} (v : A) (r : BitReader) → r.cut ≡ false → said v r ≡ read v (left r)
unfolding said pick
said_read v r e = rw e

-- ---- a read that says the same
pub alike : {A : Type 0} {r s : BitReader} {m n : Reader A} {v : A} → ((l : List ℕ) → m l ≡ n l) → Reads r m v s → Reads r n v s
alike {r = r} e p = record { same = p.same; stays = p.stays; says = λ u. p.says u ∙ e (left r) }

-- ---- from a reader that is cut, everything is cut short
pub past : {A : Type 0} {r s : BitReader} {m : Reader A} {v : A}
    → r.cut ≡ true → s.cut ≡ true → s.payload.now ≡ r.payload.now → Reads r m v s
past e f i = record { same = i; stays = λ _. f; says = λ u. clash e u }

-- ---- no read
pub done : {A : Type 0} {r : BitReader} {v : A} → Reads r (return v) v r
unfolding return
done {r = r} {v = v} = record { same = refl; stays = λ h. h; says = λ e. said_read v r e }

-- ---- one read after another
module _ {A B : Type 0} {r s t : BitReader} {m : Reader A} {v : A} {w : B} (next : A → Reader B)
    (p : Reads r m v s) (q : Reads s (next v) w t) where
  follows : r.cut ≡ false → said w t ≡ after next (m (left r))
  follows u =
      case s.cut
      (λ e. said_cut w t (q.stays e) ∙ ap (after next) (sym (said_cut v s e) ∙ p.says u))
      (λ e. q.says e ∙ ap (after next) (sym (said_read v s e) ∙ p.says u))

  bound : Reads r (λ l. after next (m l)) w t
  bound = record { same = q.same ∙ p.same; stays = λ h. q.stays (p.stays h); says = follows }

pub and_then : {A B : Type 0} {r s t : BitReader} {m : Reader A} {v : A} {w : B} (next : A → Reader B)
    → Reads r m v s → Reads s (next v) w t → Reads r (m >>= next) w t
unfolding ◌>>=◌
and_then next p q = let b = bound next p q in record { same = b.same; stays = b.stays; says = b.says }

pub before : {A B : Type 0} {r s t : BitReader} {m : Reader A} {n : Reader B} {v : A} {w : B}
    → Reads r m v s → Reads s n w t → Reads r (m >> n) w t
unfolding ◌>>◌
before {n = n} p q = let b = bound (λ _. n) p q in record { same = b.same; stays = b.stays; says = b.says }

-- ---- by a test
module _ {A : Type 0} {r s : BitReader} {v : A} {t : Bool} where
  pub first : {m : Reader A} (n : Reader A) → t ≡ true → Reads r m v s → Reads r (pick t m n) v s
  unfolding pick
  first {m} n e p = subst (λ (b : Bool). Reads r (pick b m n) v s) (sym e) p

  pub second : {n : Reader A} (m : Reader A) → t ≡ false → Reads r n v s → Reads r (pick t m n) v s
  unfolding pick
  second {n} m e p = subst (λ (b : Bool). Reads r (pick b m n) v s) (sym e) p

pub held : {r s : BitReader} {t : Bool} {m : Reader NoValue} → t ≡ true → Reads r m tt s → Reads r (when t m) tt s
unfolding when
held e p = first (return tt) e p

pub failed : {r : BitReader} {t : Bool} (m : Reader NoValue) → t ≡ false → Reads r (when t m) tt r
unfolding when
failed m e = second m e done

-- ---- two numbers that are these two
pub both_equal : {a b x y : ℕ} → a ≡ x → b ≡ y → eqb a x && eqb b y ≡ true
both_equal {a} {b} {x} {y} e g = rw (eq-eqb a x e, eq-eqb b y g)

pub not_both_equal : {a b x y : ℕ} → ((a ≡ x) × (b ≡ y → ⊥)) ⊎ (a ≡ x → ⊥) → eqb a x && eqb b y ≡ false
not_both_equal {a} {b} {x} {y} (inl h) = rw (eq-eqb a x h.0, ne_eqb b y h.1)
not_both_equal {a} {b} {x} {y} (inr h) = rw (ne_eqb a x h)

-- what proves that a function reads as its definition does
pub ruleset reads = (ways, done, and_then, before, first, second, held, failed, both_equal, not_both_equal)
