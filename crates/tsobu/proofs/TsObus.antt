-- One payload: what its tries give, as the code makes them. Assumes nothing.
use Rattle.std.specs.Prelude.{Result, Ok, Err}
use Prim.Native.Nat.{ℕ, ◌≤◌}
use mathlib.Core.Bool.{true, false}
use mathlib.Core.Path.{◌≡◌, refl, sym, ap, ap₂, ◌∙◌}
use native.Mathlib.Omega.{arith}
use borrow.Author.Tests.{ne_eqb, eqb-false}
use lib.Dec.{eqb}
use lib.ListN.{length, take, drop, length-append}
use lib.Seq.{take_at}
use Rattle.lists.specs.Lists.{Bytes, pick, over}
use Rattle.refusal.specs.declared.Refused.{Refused}
use Rattle.refusal.specs.Verdict.{Verdict, passed, refused, ◌>>=◌, ◌>>◌, NoValue, given}
use Rattle.refusal.specs.Number.{refused_by, says}
use Rattle.refusal.proofs.Verdicts.{go_on, never, passed_after, passed_same, passed_then, given_passed}
use Rattle.emulation.specs.Payload.{legal, unescape, dropped}
use Rattle.obu.specs.declared.header.Header.{Header}
use Rattle.obu.specs.Header.{header_of, judged, most_judged}
use Rattle.obu.proofs.Headers.{judged_first, judged_header}
use Rattle.tsobu.specs.TsObu.{tsobu_refusal}
use Rattle.tsobu.specs.TsObu.{tsobu_figures}
use Rattle.tsobu.specs.Parts.{first_figures, legal_figures}
use Rattle.tsobu.specs.declared.judging.Figures.{Figures}

-- ---- 4, 5, 6, 42, by the OBU's first bytes
-- the first bytes, unescaped into the front of an array
pub first_bytes : (u z first : Bytes) (n : ℕ) → n ≡ length (take (length z) u) → first ≡ over (take (length z) u) z
    → (n ≤ length first) × (take n first ≡ take (length z) u)
first_bytes u z first n e f =
    let w = take (length z) u in
    (omega (arith, ap length f, length-append w (drop (length w) z)), ap (take n) f ∙ take_at w (drop (length w) z) n (sym e))

-- the first bytes and the length decide as the whole OBU does
judged_short : (u first : Bytes) (n k : ℕ) → most_judged ≤ k → first ≡ take k u → n ≡ length u → judged first n ≡ judged u (length u)
judged_short u first n k h e f = ap₂ judged e f ∙ judged_first k u (length u) h

-- so they give the figures of the payload
pub figures_short : (payload first : Bytes) (n d k : ℕ) → most_judged ≤ k → first ≡ take k (unescape payload) → n ≡ length
    (unescape payload)
    → d ≡ dropped payload → first_figures first n d ≡ legal_figures payload
unfolding first_figures
figures_short payload first n d k h e f g =
    ap₂ (λ (v : Verdict Header) (m : ℕ). v >>= λ header. passed (record { header = header; dropped = m }))
    (judged_short (unescape payload) first n k h e f) g

-- ---- the header of an OBU that passes
passed_judged : (v : Verdict Header) → (v >> passed (tt {0})) ≡ passed tt → (h : Header) × (v ≡ passed h)
unfolding ◌>>◌
passed_judged (passed h) e = (h, refl)
passed_judged (refused number place) e = never e

-- a payload that passes is not empty, and has an OBU that passes
pub obu_judged : (payload : Bytes) → tsobu_refusal payload ≡ passed tt
    → (1 ≤ length payload) × (h : Header) × (judged (unescape payload) (length (unescape payload)) ≡ passed h)
unfolding tsobu_refusal
obu_judged payload e =
    let u = unescape payload in
    let p = passed_after (given 3 (eqb (length payload) 0)) _ tt e in
    let some = eqb-false (length payload) 0 (given_passed 3 _ p.0) in
    let j = passed_judged (judged u (length u)) (passed_after _ _ tt p.1).1 in
    (omega arith, j.0, j.1)

-- so it has a header
pub header_there : (payload : Bytes) → tsobu_refusal payload ≡ passed tt → (h : Header) × (header_of (unescape payload) ≡ passed h)
header_there payload e =
    let j = obu_judged payload e in
    (j.1, judged_header (unescape payload) (length (unescape payload)) j.1 j.2)

-- ---- 3 and 10, then these
pub tsobu_illegal : (payload : Bytes) → (length payload ≡ 0 → ⊥) → legal payload ≡ false → refused 10 0 ≡ tsobu_figures payload
unfolding tsobu_figures tsobu_refusal given pick ◌>>◌
tsobu_illegal payload h e = rw (ne_eqb (length payload) 0 h, e)

-- the header that passed is the OBU's
same_header : (u : Bytes) (n : ℕ) (f : Header → Verdict Figures) (v : Verdict Header) → judged u n ≡ v
    → (v >>= f) ≡ ((v >> passed (tt {0})) >> (header_of u >>= f))
unfolding ◌>>=◌ ◌>>◌
same_header u n f (passed h) e = go_on h f (judged_header u n h e) refl
same_header u n f (refused number place) e = refl

pub tsobu_legal : (payload : Bytes) → (length payload ≡ 0 → ⊥) → legal payload ≡ true → legal_figures payload ≡ tsobu_figures payload
unfolding tsobu_figures tsobu_refusal first_figures given pick
tsobu_legal payload h e =
    let u = unescape payload in
    let f : Header → Verdict Figures = λ header. passed (record { header = header; dropped = dropped payload }) in
    same_header u (length u) f (judged u (length u)) refl
    ∙ unfold ◌>>◌ in rw (ne_eqb (length payload) 0 h, e)

-- ---- the answer, as a refusal or a pass
refused_only : (v : Verdict NoValue) (w : Verdict Figures) (number place : ℕ) → (v ≡ passed tt → (f : Figures) × (w ≡ passed f))
    → (v >> w) ≡ refused number place → v ≡ refused number place
unfolding ◌>>◌
refused_only (passed a) w number place g e = never (sym e ∙ (g refl).1)
refused_only (refused m i) w number place g e = cc

pub tsobu_refused : (payload : Bytes) (q : Result Figures Refused) (r : Refused) → says q ≡ tsobu_figures payload → q ≡ Err r
    → tsobu_refusal payload ≡ refused_by r
unfolding tsobu_figures
tsobu_refused payload q r e k =
    refused_only (tsobu_refusal payload) _ _ _
    (λ p. let h = header_there payload p in (record { header = h.0; dropped = dropped payload }, sym (go_on h.0 _ h.1 refl)))
    (sym e ∙ ap says k)

-- what a payload that passed has
pub record Passes (payload : Bytes) (f : Figures) : Type 0 where
  pub tries : tsobu_refusal payload ≡ passed tt
  pub header : header_of (unescape payload) ≡ passed f.header
  pub dropped_is : f.dropped ≡ dropped payload

pub tsobu_passed : (payload : Bytes) (q : Result Figures Refused) (f : Figures) → says q ≡ tsobu_figures payload → q ≡ Ok f
    → Passes payload f
unfolding tsobu_figures
tsobu_passed payload q f e k =
    let a = passed_after (tsobu_refusal payload) _ f (sym e ∙ ap says k) in
    let h = passed_then (header_of (unescape payload)) _ f a.1 in
    let same = passed_same (record { header = h.0; dropped = dropped payload }) f h.2 in
    record {
      tries = a.0;
      header = h.1 ∙ ap (λ (x : Figures). passed x.header) same;
      dropped_is = sym (ap (λ (x : Figures). x.dropped) same);
    }
