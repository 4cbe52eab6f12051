-- A packet that passed says what its fields are, and its payload lies from its place on. The rule of the adaptation field's length, by the
-- control bits. Assumes nothing.
use Rattle.std.specs.Prelude.{Some, None, is_some}
use Prim.Native.Nat.{ℕ}
use mathlib.Core.Bool.{Bool, true, false, not, ◌&&◌, ◌||◌}
use mathlib.Core.Path.{◌≡◌, refl, sym, ap}
use mathlib.Core.List.{[]}
use borrow.Author.Tests.{ne_eqb}
use lib.Dec.{eqb, ltb}
use lib.ListN.{drop}
use Rattle.std.proofs.lemmas.Option.{none-some, same_Some}
use Rattle.lists.specs.Lists.{Bytes, pick}
use Rattle.refusal.specs.Verdict.{passed}
use Rattle.refusal.proofs.Verdicts.{passed_after, passed_same}
use Rattle.packet.specs.declared.header.Header.{Header}
use Rattle.packet.specs.Header.{has_payload, payload}
use Rattle.packet.specs.Header.{header_length, payload_place, fields, header_of}

-- ---- the payload
-- there is a place where there is payload
pub has_place : (p : Bytes) → has_payload p ≡ is_some (payload_place p)
unfolding payload_place pick
has_place p = go (has_payload p)
  where
    go : (b : Bool) → b ≡ is_some (pick b (Some (header_length p)) None)
    go true = refl
    go false = refl

-- what lies from its place on is the payload
pub payload_from : (p : Bytes) (n : ℕ) → payload_place p ≡ Some n → payload p ≡ drop n p
unfolding payload payload_place pick
payload_from p n = go (has_payload p)
  where
    go : (b : Bool) → pick b (Some (header_length p)) None ≡ Some n → pick b (drop (header_length p) p) [] ≡ drop n p
    go true e = ap (λ (k : ℕ). drop k p) (same_Some (header_length p) n e)
    go false e = absurd (none-some n e)

-- ---- a packet that passed
-- it says what its fields are
pub passed_fields : (p : Bytes) (h : Header) → header_of p ≡ passed h → h ≡ fields p
unfolding header_of
passed_fields p h e = sym (passed_same (fields p) h (passed_after _ _ h (passed_after _ _ h (passed_after _ _ h e).1).1).1)

-- ---- the adaptation field's length, by the control bits
abbrev length_wrong : ℕ → ℕ → Bool
length_wrong control n = (eqb control 2 && not (eqb n 183)) || (eqb control 3 && ltb 182 n)

pub control_10 : {control n field : ℕ} → control ≡ 2 → n ≡ field → not (eqb n 183) ≡ length_wrong control field
control_10 {field = field} e f = rw (e, f) (elim (not (eqb field 183)) as (λ t. t ≡ t || false) [ true ↦ refl | false ↦ refl ])

pub control_11 : {control n field : ℕ} → control ≡ 3 → n ≡ field → ltb 182 n ≡ length_wrong control field
control_11 e f = rw (e, f)

pub control_other : {control : ℕ} (field : ℕ) → (control ≡ 2 → ⊥) → (control ≡ 3 → ⊥) → false ≡ length_wrong control field
control_other {control} field e f = rw (ne_eqb control 2 e, ne_eqb control 3 f)
