-- A payload whose first three bytes say all: unescaping leaves these three, and an OBU that begins with them passes. Assumes nothing.
use Prim.Native.Nat.{ℕ, ◌+◌, ◌-◌, ◌/◌, ◌%◌, ◌≤◌, ◌<◌}
use mathlib.Core.Bool.{false, not, ◌||◌, and-false}
use mathlib.Core.Path.{◌≡◌, refl, sym, ap, ◌∙◌}
use mathlib.Core.List.{[], ◌∷◌}
use native.Mathlib.Omega.{arith}
use borrow.Author.Tests.{eq-eqb, ne_eqb}
use lib.Dec.{eqb}
use lib.ListN.{length, drop}
use Rattle.lists.specs.Lists.{Bytes}
use Rattle.lists.specs.Bytes.{byte, bits}
use Rattle.lists.proofs.Picks.{by_true, by_false, by_ne, by_ge}
use Rattle.lists.proofs.Tests.{case, and_by_false}
use Rattle.refusal.specs.Verdict.{Verdict, passed}
use Rattle.refusal.proofs.Verdicts.{pass_on, go_on}
use Rattle.emulation.specs.Payload.{unescape, dropped}
use Rattle.emulation.specs.Parts.{marked}
use Rattle.emulation.proofs.Steps.{marked_zeros, unescape_marked, unescape_plain, unescaped_first, given_or_dropped}
use Rattle.obu.specs.declared.header.Header.{Header}
use Rattle.obu.specs.Leb128.{leb_of, leb128, leb_within, in_range}
use Rattle.obu.specs.Header.{extension_bit, fixed_bytes, size_said, size_of, header_with, sized_header, header_of, judged}
use Rattle.tsobu.specs.Parts.{Short, first_figures, legal_figures}

-- ---- the first three bytes of what is unescaped
two_kept : (b c : ℕ) (t : Bytes) → (u : Bytes) × (unescape (b ∷ c ∷ t) ≡ b ∷ u) × (byte u 0 ≡ c)
two_kept b c t =
    case (marked (b ∷ c ∷ t))
    (λ m.
    let z = marked_zeros b (c ∷ t) m in
    let u = unescape (drop 3 (b ∷ c ∷ t)) in
    (0 ∷ u, unescape_marked (b ∷ c ∷ t) m ∙ ap (λ (x : ℕ). x ∷ 0 ∷ u) (sym z.0), sym (ap (λ (l : Bytes). byte l 0) z.2)))
    (λ m. (unescape (c ∷ t), unescape_plain b (c ∷ t) m, unescaped_first (c ∷ t)))

-- the first byte is not 00
three_kept : (a b c : ℕ) (t : Bytes) → (a ≡ 0 → ⊥) → (u : Bytes) × (unescape (a ∷ b ∷ c ∷ t) ≡ a ∷ b ∷ u) × (byte u 0 ≡ c)
unfolding marked
three_kept a b c t h =
    let k = two_kept b c t in
    let m : marked (a ∷ b ∷ c ∷ t) ≡ false = rw (ne_eqb a 0 h) in
    (k.0, unescape_plain a (b ∷ c ∷ t) m ∙ ap (λ (l : Bytes). a ∷ l) k.1, k.2)

-- ---- an OBU that begins with these bytes
abbrev headed : ℕ → ℕ → ℕ → Header
headed a b c = record { obu_type = a / 8; extension = false; size = leb_of b 1; content = 2; first_content = c }

module _ (a b : ℕ) (t : Bytes) (fields : a / 2 % 4 ≡ 1) (below : a < 128) (one_byte : b < 128) where
  no_extension : extension_bit a ≡ false
  no_extension = ne_eqb (bits 2 2 a) 1 (λ e. omega arith)

  fixed_one : fixed_bytes a ≡ 1
  unfolding fixed_bytes
  fixed_one = sym (by_false 2 no_extension refl)

  leb_one : leb_of b 1 ≡ leb128 (b ∷ t)
  unfolding leb128 leb_within in_range
  leb_one =
      let low : bits 6 0 b ≡ b = omega arith in
      let top : (bits 7 7 b ≡ 1 → ⊥) = λ e. omega arith in
      let one : leb_of b 1 ≡ leb_within 8 (b ∷ t) = by_ne _ top (ap (λ (v : ℕ). leb_of v 1) (sym low)) in
      let fits : leb_of b 1 ≡ in_range (leb_of b 1) = by_ge {m = 4294967295} {n = b} _ (omega arith) refl in
      fits ∙ ap in_range one

  size_one : size_of a (b ∷ t) ≡ passed (leb_of b 1)
  unfolding size_of
  size_one = sym (by_true _ (eq-eqb (bits 1 1 a) 1 (omega arith)) (ap size_said leb_one))

  header_is : headed a b (byte t 0) ≡ header_with a (leb_of b 1) (byte t 0)
  unfolding header_with
  header_is =
      let k : a / 8 ≡ bits 6 3 a = omega arith in
      let n : 2 ≡ fixed_bytes a + 1 = omega (arith, fixed_one) in
      λ i. record {
        obu_type = k i;
        extension = sym no_extension i;
        size = leb_of b 1;
        content = n i;
        first_content = byte t 0;
      }

  short_sized : passed (headed a b (byte t 0)) ≡ sized_header a (b ∷ t)
  unfolding sized_header
  short_sized = go_on (leb_of b 1) _ size_one (ap {B = Verdict Header} passed header_is)

  short_header : header_of (a ∷ b ∷ t) ≡ passed (headed a b (byte t 0))
  unfolding header_of
  short_header =
      sym (pass_on 3 (ne_eqb (length (a ∷ b ∷ t)) 0 (λ e. omega arith))
      (pass_on 4 (ne_eqb (bits 7 7 a) 1 (λ e. omega arith))
      (pass_on 4 (sym (and_by_false _ no_extension refl))
      (rw fixed_one short_sized))))

  short_judged : (n : ℕ) → 24 ≤ a → (a / 8 ≡ 8 → ⊥) → (b ≡ 0 → ⊥) → b + 2 ≡ n → passed (headed a b (byte t 0)) ≡ judged (a ∷ b ∷ t) n
  unfolding judged
  short_judged n above no_list some whole =
      go_on _ _ short_header
      (pass_on 5 (ap not (eq-eqb b (n - 2) (omega arith)))
      (pass_on 5 (sym (and_by_false _ (ne_eqb (a / 8) 2 (λ e. omega arith)) refl))
      (pass_on 6 (ne_eqb (a / 8) 8 no_list)
      (pass_on 42 (rw (ne_eqb (n - 2) 0 (λ e. omega arith)) (and-false (eqb (a / 8) 1 || eqb (a / 8) 3)))
      (pass_on 42 (sym (and_by_false _ (ne_eqb (a / 8) 1 (λ e. omega arith)) refl)) refl)))))

-- ---- the figures of such a payload
pub short_figures : (p : Bytes) (n d : ℕ) → Short p n → n + d ≡ length p → d ≡ dropped p
    → passed (record { header = headed (byte p 0) (byte p 1) (byte p 2); dropped = d }) ≡ legal_figures p
unfolding first_figures
short_figures [] n d s e f = absurd (omega (arith, s.long))
short_figures (a ∷ []) n d s e f = absurd (omega (arith, s.long))
short_figures (a ∷ b ∷ []) n d s e f = absurd (omega (arith, s.long))
short_figures (a ∷ b ∷ c ∷ t) n d s e f =
    let k = three_kept a b c t (λ z. omega (arith, s.above)) in
    let m : b + 2 ≡ length (unescape (a ∷ b ∷ c ∷ t)) = omega (arith, s.whole, given_or_dropped (a ∷ b ∷ c ∷ t)) in
    let j = short_judged a b k.0 s.fields s.below s.one_byte _ s.above s.no_list s.some m in
    go_on (headed a b c) _
    (ap (λ (l : Bytes). judged l (length (unescape (a ∷ b ∷ c ∷ t)))) k.1 ∙ sym j ∙ ap (λ (x : ℕ). passed (headed a b x)) k.2)
    (ap (λ (x : ℕ). passed (record { header = headed a b c; dropped = x })) f)
