-- Loops over the tsOBUs of any string, and over units that stand back to back: what the rest gives is what the whole gives, as long as
-- nothing has been found. Assumes nothing.
use Prim.Native.Nat.{ℕ, zero, suc, ◌+◌, ◌-◌, ◌≤◌, ◌<◌, min}
use mathlib.Core.Bool.{true, false}
use mathlib.Core.Path.{◌≡◌, refl, sym, ap, subst, ◌∙◌}
use mathlib.Core.Logic.{◌⊎◌, inl, inr}
use mathlib.Core.List.{List, [], ◌∷◌, flatten}
use native.Mathlib.Omega.{arith}
use lib.ListN.{length, take, drop, get_or, length-drop, drop_of_length-le}
use borrow.Author.Tests.{ltb-true, ltb-false}
use lib.Dec.{ltb}
use lib.Seq.{drop-drop}
use Rattle.std.proofs.lemmas.List.{take_all}
use Rattle.lists.proofs.Tests.{case}
use Rattle.lists.specs.Lists.{Bytes}
use Rattle.lists.specs.Bytes.{byte}
use Rattle.lists.proofs.Parts.{next}
use Rattle.tsobu.specs.StartCodes.{payloads, at_start_code, code_from}
use Rattle.tsobu.proofs.Places.{Place, before, before_rest, before_ends, before_short, next_code, payload_at, code_fits, next_fits}
use Rattle.tsobu.proofs.Places.{next_place, payloads_from, payloads_end, place_code}
use Rattle.unit.specs.Unit.{obus_of}
use Rattle.descriptor.specs.declared.fields.Fields.{Fields}
use Rattle.std.specs.Prelude.{Option as Found, Some, None, Option}
use Rattle.comparison.specs.declared.Disagreement.{Disagreement}
use Rattle.comparison.specs.Comparison.{frame_type, until_frame, headers_before_frame, or_else, first_of, first_from}
use Rattle.comparison.proofs.Firsts.{headers_in, in_payload, headers_cut, frame_payload, next_payload, unit_agrees, unit_differs}
use Rattle.comparison.proofs.Frames.{frame_at}

-- ---- the tsOBUs of a string
-- from this place on, where a start code stands or the string ends, is found what the whole gives
pub record Going (d : Fields) (s : Bytes) (code : ℕ) : Type 0 where
  pub place : Place s code
  pub within : code ≤ length s
  pub same : first_of d (headers_in d (payloads (drop code s))) ≡ first_of d (headers_before_frame s)

pub going_start : (d : Fields) (s : Bytes) (code : ℕ) → code ≡ code_from s 0 → Going d s code
going_start d s code e =
    subst (Going d s) (sym (e ∙ start))
    (record {
      place = to_place (before_ends s);
      within = before_short s;
      same = ap (λ (l : List Bytes). first_of d (headers_in d l)) (before_rest s);
    })
  where
    start : code_from s 0 ≡ before s
    start = omega arith

    to_place : (drop (before s) s ≡ []) ⊎ (at_start_code (drop (before s) s) ≡ true) → Place s (before s)
    to_place (inl z) = inl (omega (arith, length-drop (before s) s, ap length z, before_short s))
    to_place (inr c) = inr c

module _ {d : Fields} {s : Bytes} {code : ℕ} (g : Going d s code) where
  pub going_done : length s ≤ code → None ≡ first_of d (headers_before_frame s)
  unfolding first_of flatten until_frame
  going_done h = ap (λ (l : List Bytes). first_of d (headers_in d l)) (sym (payloads_end s code h)) ∙ g.same

  module _ (h : code < length s) where
    here : at_start_code (drop code s) ≡ true
    here = place_code s code g.place h

    pub code_room : code + 3 ≤ length s
    code_room = code_fits s code here

    -- a frame: no header comes before it
    pub going_frame : frame_type (byte s (code + 3)) ≡ true → None ≡ first_of d (headers_before_frame s)
    going_frame t =
        sym (sym g.same
        ∙ ap (λ (l : List Bytes). first_of d (headers_in d l)) (payloads_from s code here)
        ∙ frame_payload d (payload_at s code) (payloads (drop (next_code s code) s)) (frame_at s code ∙ t))

    module _ (end : ℕ) (e : end ≡ next_code s code) where
      pub end_room : (code + 3 ≤ end) × (end ≤ length s)
      end_room = (omega arith, omega (arith, next_fits s code here))

      -- the payload as it is lent, up to where the next start code was found
      abbrev pub lent : Bytes
      lent = take (end - (code + 3)) (drop (code + 3) s)

      -- another OBU
      module _ (other : frame_type (byte s (code + 3)) ≡ false) (found : Found ℕ) (f : found ≡ in_payload d lent) where
        both : first_of d (headers_before_frame s) ≡ or_else (found)
            (first_of d (headers_in d (payloads (drop (next_code s code) s))))
        both =
            let rest : Option ℕ = first_of d (headers_in d (payloads (drop (next_code s code) s))) in
            sym g.same
            ∙ ap (λ (l : List Bytes). first_of d (headers_in d l)) (payloads_from s code here)
            ∙ next_payload d (payload_at s code) (payloads (drop (next_code s code) s)) (frame_at s code ∙ other)
            ∙ ap (λ (n : ℕ). or_else (in_payload d (take (n - (code + 3)) (drop (code + 3) s))) rest) (sym e)
            ∙ ap (λ (o : Option ℕ). or_else o rest) (sym f)

        pub going_next : found ≡ None → Going d s end
        going_next k =
            subst (Going d s) (sym e)
            (record {
              place = next_place s code here;
              within = next_fits s code here;
              same =
                  sym
                  (both
                  ∙ ap (λ (x : Found ℕ). or_else (x) (first_of d (headers_in d (payloads (drop (next_code s code) s))))) k);
            })

        pub going_found : (n : ℕ) → found ≡ Some n → Some n ≡ first_of d (headers_before_frame s)
        going_found n k =
            sym
            (both
            ∙ ap (λ (x : Found ℕ). or_else (x) (first_of d (headers_in d (payloads (drop (next_code s code) s))))) k)

-- ---- units back to back
drop_taken : (n : ℕ) (s : Bytes) → drop n s ≡ drop (length (take n s)) s
drop_taken zero s = refl
drop_taken (suc n) [] = refl
drop_taken (suc n) (a ∷ s) = drop_taken n s

taken_most : (n : ℕ) (s : Bytes) → length (take n s) ≤ length s
taken_most zero s = omega arith
taken_most (suc n) [] = omega arith
taken_most (suc n) (a ∷ s) = omega (arith, taken_most n s)

-- the lengths that are there, of the first units
fewer_lengths : (n count : ℕ) (lens : List ℕ) → n ≡ min count (length lens) → take n lens ≡ take count lens
fewer_lengths n count lens e =
    case (ltb count (length lens))
    (λ t. let same : n ≡ count = omega (arith, e, ltb-true count (length lens) t) in rw same refl)
    (λ t.
    let h : length lens ≤ count = ltb-false count (length lens) t in
    let same : n ≡ length lens = omega (arith, e) in
    rw same (take_all (length lens) lens (omega arith) ∙ sym (take_all count lens h)))

pub same_units : {o : Option Disagreement} (d : Fields) (bytes : Bytes) (n count : ℕ) (lens : List ℕ) → n ≡ min count (length lens)
    → o ≡ first_from 0 d (headers_cut (take n lens) bytes) → o ≡ first_from 0 d (headers_cut (take count lens) bytes)
same_units d bytes n count lens e h = h ∙ ap (λ (l : List ℕ). first_from 0 d (headers_cut l bytes)) (fewer_lengths n count lens e)

-- from this unit on, which begins at this place, is found what the whole gives
pub record Walking (d : Fields) (bytes : Bytes) (lens : List ℕ) (at index : ℕ) : Type 0 where
  pub within : at ≤ length bytes
  pub same : first_from index d (headers_cut (drop index lens) (drop at bytes)) ≡ first_from 0 d (headers_cut lens bytes)

pub walking_start : (d : Fields) (bytes : Bytes) (lens : List ℕ) → Walking d bytes lens 0 0
walking_start d bytes lens = record { within = omega arith; same = refl }

module _ {d : Fields} {bytes : Bytes} {lens : List ℕ} {at index : ℕ} (w : Walking d bytes lens at index) where
  pub walking_done : length lens ≤ index → None ≡ first_from 0 d (headers_cut lens bytes)
  unfolding first_from obus_of
  walking_done h = ap (λ (l : List ℕ). first_from index d (headers_cut l (drop at bytes))) (sym (drop_of_length-le lens h)) ∙ w.same

  -- the unit here, as it is lent
  module _ (h : index < length lens) (unit : Bytes) (u : unit ≡ take (get_or lens index 0) (drop at bytes)) where
    abbrev n : ℕ
    n = get_or lens index 0

    abbrev rest : List ℕ
    rest = drop (index + 1) lens

    pub next_within : at + length unit ≤ length bytes
    next_within = omega (arith, w.within, ap length u, taken_most n (drop at bytes), length-drop at bytes)

    whole : first_from index d (headers_cut (n ∷ rest) (drop at bytes)) ≡ first_from 0 d (headers_cut lens bytes)
    whole = ap (λ (l : List ℕ). first_from index d (headers_cut l (drop at bytes))) (sym (next lens index h)) ∙ w.same

    module _ (found : Found ℕ) (f : found ≡ first_of d (headers_before_frame unit)) where
      here_is : found ≡ first_of d (headers_before_frame (take n (drop at bytes)))
      here_is = f ∙ ap (λ (c : Bytes). first_of d (headers_before_frame c)) u

      pub walking_next : found ≡ None → Walking d bytes lens (at + length unit) (index + 1)
      walking_next e =
          let to : drop n (drop at bytes) ≡ drop (at + length unit) bytes =
          drop_taken n (drop at bytes)
          ∙ ap (λ (c : Bytes). drop (length c) (drop at bytes)) (sym u)
          ∙ drop-drop (length unit) at bytes in
          record {
            within = next_within;
            same =
                ap (λ (s : Bytes). first_from (index + 1) d (headers_cut rest s)) (sym to)
                ∙ sym (unit_agrees d index n rest (drop at bytes) found here_is e)
                ∙ whole;
          }

      pub walking_found : (m : ℕ) → found ≡ Some m
          → Some (record { unit = index; field = m }) ≡ first_from 0 d (headers_cut lens bytes)
      walking_found m e = unit_differs d index n rest (drop at bytes) found here_is m e ∙ whole
