-- The first that is found, part by part: of headers one behind the other, of an OBU by its header, of units one by one. Assumes nothing.
use Prim.Native.Nat.{ℕ, suc, ◌+◌}
use mathlib.Core.Bool.{true, false}
use mathlib.Core.Path.{◌≡◌, refl, sym, ap, ◌∙◌}
use mathlib.Core.List.{List, [], ◌∷◌, ◌++◌, map, flatten}
use native.Mathlib.Numerals.{add-one}
use borrow.Author.Tests.{eq-eqb, ne_eqb}
use lib.ListN.{take, drop}
use Rattle.lists.specs.Lists.{Bytes, pick}
use Rattle.refusal.specs.declared.Refused.{Refused}
use Rattle.refusal.specs.Verdict.{Verdict, passed}
use Rattle.refusal.specs.Number.{refused_by}
use Rattle.emulation.specs.Payload.{unescape}
use Rattle.obu.specs.declared.header.Header.{Header}
use Rattle.obu.specs.Header.{header_of}
use Rattle.unit.specs.Unit.{obus_of}
use Rattle.descriptor.specs.declared.fields.Fields.{Fields}
use Rattle.sequence.specs.Comparison.{comparing}
use Rattle.std.specs.Prelude.{Option as Found, Some, None, Option}
use Rattle.comparison.specs.declared.Disagreement.{Disagreement}
use Rattle.comparison.specs.Comparison.{sequence_content, headers_of, is_frame, until_frame, headers_before_frame}
use Rattle.comparison.specs.Comparison.{field_of, in_unit, or_else, first_of, first_from}

-- ---- of two the first
or_none : {A : Type 0} (o : Option A) → or_else o None ≡ o
or_none None = refl
or_none (Some a) = refl

or_assoc : {A : Type 0} (o p q : Option A) → or_else (or_else o p) q ≡ or_else o (or_else p q)
or_assoc None p q = refl
or_assoc (Some a) p q = refl

-- the headers of the units that these lengths cut out
abbrev pub headers_cut : List ℕ → Bytes → List (List Bytes)
headers_cut lens bytes = map headers_before_frame (obus_of lens bytes)

module _ (d : Fields) where
  first_append : (l m : List Bytes) → first_of d (l ++ m) ≡ or_else (first_of d l) (first_of d m)
  unfolding first_of
  first_append [] m = refl
  first_append (h ∷ l) m =
      ap (or_else (field_of (comparing h d))) (first_append l m) ∙ sym (or_assoc (field_of (comparing h d)) (first_of d l) (first_of d m))

  -- ---- an OBU, by its header
  module _ (v : Verdict Header) (obu : Bytes) where
    pub no_header : (r : Refused) → v ≡ refused_by r → None ≡ first_of d (sequence_content v obu)
    unfolding sequence_content first_of
    no_header r e = rw e

    pub other_obu : (h : Header) → v ≡ passed h → (h.obu_type ≡ 1 → ⊥) → None ≡ first_of d (sequence_content v obu)
    unfolding sequence_content first_of pick
    other_obu h e k = rw (e, ne_eqb h.obu_type 1 k)

    pub one_header : (h : Header) → v ≡ passed h → h.obu_type ≡ 1
        → field_of (comparing (drop h.content obu) d) ≡ first_of d (sequence_content v obu)
    unfolding sequence_content first_of pick
    one_header h e k = rw (e, eq-eqb h.obu_type 1 k, or_none)

  -- ---- the headers of these payloads, before the frame
  abbrev pub headers_in : List Bytes → List Bytes
  headers_in ps = headers_of (until_frame (map unescape ps))

  -- of one payload
  abbrev pub in_payload : Bytes → Option ℕ
  in_payload p = first_of d (sequence_content (header_of (unescape p)) (unescape p))

  module _ (p : Bytes) (ps : List Bytes) where
    pub frame_payload : is_frame (unescape p) ≡ true → first_of d (headers_in (p ∷ ps)) ≡ None
    unfolding first_of flatten until_frame pick
    frame_payload e = rw e

    pub next_payload : is_frame (unescape p) ≡ false → first_of d (headers_in (p ∷ ps)) ≡ or_else (in_payload p)
        (first_of d (headers_in ps))
    unfolding flatten until_frame pick
    next_payload e = rw e (first_append (sequence_content (header_of (unescape p)) (unescape p)) (headers_in ps))

  -- ---- the units that these lengths cut out
  module _ (index n : ℕ) (lens : List ℕ) (bytes : Bytes) (found : Found ℕ)
      (e : found ≡ first_of d (headers_before_frame (take n bytes))) where
    cut : first_from index d (headers_cut (n ∷ lens) bytes)
        ≡ or_else (in_unit index (found)) (first_from (suc index) d (headers_cut lens (drop n bytes)))
    unfolding first_from obus_of
    cut = ap (λ (o : Option ℕ). or_else (in_unit index o) (first_from (suc index) d (headers_cut lens (drop n bytes)))) (sym e)

    pub unit_agrees : found ≡ None
        → first_from index d (headers_cut (n ∷ lens) bytes) ≡ first_from (index + 1) d (headers_cut lens (drop n bytes))
    unit_agrees k =
        cut
        ∙ ap (λ (f : Found ℕ). or_else (in_unit index (f)) (first_from (suc index) d (headers_cut lens (drop n bytes)))) k
        ∙ ap (λ (i : ℕ). first_from i d (headers_cut lens (drop n bytes))) (sym (add-one index))

    pub unit_differs : (m : ℕ) → found ≡ Some m → Some (record { unit = index; field = m }) ≡ first_from index d
        (headers_cut (n ∷ lens) bytes)
    unit_differs m k =
        let later : Option Disagreement = first_from (suc index) d (headers_cut lens (drop n bytes)) in
        let first : Found ℕ → Option Disagreement = λ f. or_else (in_unit index (f)) later in
        sym (cut ∙ ap first k)
