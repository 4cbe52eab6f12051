-- Loops over the payloads of a unit: what is done, then the definition of the rest, is the definition of the whole. Assumes nothing.
use Rattle.std.specs.Prelude.{Ok, Err}
use Prim.Native.Nat.{ℕ, ◌+◌, ◌-◌, ◌≤◌, ◌<◌}
use mathlib.Core.Bool.{true}
use mathlib.Core.Path.{◌≡◌, refl, sym, ap, subst, ◌∙◌}
use mathlib.Core.Logic.{inr}
use mathlib.Core.List.{List, [], ◌∷◌, ◌++◌, map, map-append, flatten, append-nil}
use native.Mathlib.Omega.{arith}
use native.Mathlib.Numerals.{add-one}
use borrow.Author.Tests.{lt-ltb, le-ltb, ltb-true, ltb-false}
use lib.Dec.{ltb}
use lib.ListN.{length, take, drop, get_or, set, length-set, length-append, length-drop, length-map}
use lib.Seq.{take-suc-set, append_snoc, get_or-take, length-take-le}
use Rattle.lists.specs.Lists.{Bytes, over, placed}
use Rattle.lists.proofs.Tests.{case}
use Rattle.lists.proofs.Parts.{next}
use Rattle.std.proofs.lemmas.List.{get_or-map}
use Rattle.lists.proofs.Writing.{Part, start, counted, room, put, put_all, done}
use Rattle.refusal.specs.declared.Refused.{Refused}
use Rattle.refusal.specs.Verdict.{passed, refused, in_turn}
use Rattle.refusal.specs.Number.{number_of, refused_by}
use Rattle.refusal.proofs.Verdicts.{refuse, pass_on, follows, stops, never, refines_passed, refines_refused}
use Rattle.emulation.specs.Payload.{unescape, dropped}
use Rattle.emulation.proofs.Steps.{given_or_dropped}
use Rattle.obu.specs.Header.{size_bytes, width_said, size_width}
use Rattle.obu.specs.Order.{kind_of_number, kind_number}
use Rattle.obu.specs.Table.{kind_meant}
use Rattle.obu.specs.declared.ordering.Kind as code_kind
use Rattle.obu.proofs.Headers.{header_kind}
use Rattle.unit.specs.Unit.{most_obus, obus_in, sum, dropped_in}
use Rattle.tsobu.specs.StartCodes.{at_start_code, payloads}
use Rattle.tsobu.specs.TsObu.{tsobu_refusal}
use Rattle.unit.specs.Parts.{kind_in, ends_from, ends_of, widths_of, payload_counts, counted_payloads, Judges}
use Rattle.unit.specs.declared.reading.Note.{Note}
use Rattle.tsobu.specs.declared.judging.Figures.{Figures}
use Rattle.tsobu.proofs.TsObus.{Passes}
use Rattle.tsobu.proofs.Places.{Place, next_code, payload_at, payload_length, next_fits, next_place, payloads_from, payloads_end}
use Rattle.tsobu.proofs.Places.{place_code}

-- ---- where payloads end
pub ends_from_lem : (s : Bytes) (code : ℕ) → at_start_code (drop code s) ≡ true
    → ends_from code (payloads (drop code s)) ≡ next_code s code ∷ ends_from (next_code s code) (payloads (drop (next_code s code) s))
unfolding ends_from
ends_from_lem s code e =
    let n : code + 3 + length (payload_at s code) ≡ next_code s code = ap (λ (k : ℕ). code + 3 + k) (payload_length s code) in
    ap (ends_from code) (payloads_from s code e)
    ∙ ap (λ (k : ℕ). k ∷ ends_from k (payloads (drop (next_code s code) s))) n

pub ends_end : (s : Bytes) (code : ℕ) → length s ≤ code → ends_from code (payloads (drop code s)) ≡ []
unfolding ends_from
ends_end s code h = ap (ends_from code) (payloads_end s code h)

-- `count` payloads stand before `code`, and their ends are noted
pub record Ending (s : Bytes) (notes : List Note) (count code : ℕ) : Type 0 where
  pub place : Place s code
  pub within : code ≤ length s
  pub few : count ≤ 64
  pub long : length notes ≡ 64
  pub counted : count + length (payloads (drop code s)) ≡ length (payloads s)
  pub filled : ends_of (take count notes) ++ ends_from code (payloads (drop code s)) ≡ ends_from 0 (payloads s)

pub ending_start : (s : Bytes) (notes : List Note) → length notes ≡ 64 → at_start_code s ≡ true → Ending s notes 0 0
ending_start s notes l e = record { place = inr e; within = omega arith; few = omega arith; long = l; counted = omega arith; filled = refl }

pub ending_code : {s : Bytes} {notes : List Note} {count code : ℕ} → Ending s notes count code → code < length s
    → at_start_code (drop code s) ≡ true
ending_code {s} {notes} {count} {code} j h = place_code s code j.place h

pub ending_step : {s : Bytes} {notes : List Note} {count code : ℕ} → Ending s notes count code → code < length s → count < 64
    → (note : Note) → note.end ≡ next_code s code → Ending s (set notes count note) (count + 1) (next_code s code)
ending_step {s} {notes} {count} {code} j h k note e =
    let c = ending_code j h in
    let rest = ends_from (next_code s code) (payloads (drop (next_code s code) s)) in
    let room : count < length notes = omega (arith, j.long) in
    record {
      place = next_place s code c;
      within = next_fits s code c;
      few = omega arith;
      long = length-set notes count note ∙ j.long;
      counted = omega (arith, j.counted, ap length (payloads_from s code c));
      filled =
          ap (λ (l : List ℕ). l ++ rest)
          (ap (λ (n : ℕ). ends_of (take n (set notes count note))) (add-one count) ∙ ap ends_of (take-suc-set notes count note room)
          ∙ map-append (λ (n : Note). n.end) (take count notes) (note ∷ []))
          ∙ append_snoc (ends_of (take count notes)) note.end rest
          ∙ ap (λ (n : ℕ). ends_of (take count notes) ++ (n ∷ rest)) e
          ∙ ap (λ (l : List ℕ). ends_of (take count notes) ++ l) (sym (ends_from_lem s code c))
          ∙ j.filled;
    }

-- no payload is left
ending_none : {s : Bytes} {notes : List Note} {count code : ℕ} → Ending s notes count code → length s ≤ code → count ≡ length (payloads s)
ending_none {s} {notes} {count} {code} j h = omega (arith, j.counted, ap length (payloads_end s code h))

ending_noted : {s : Bytes} {notes : List Note} {count code : ℕ} → Ending s notes count code → length s ≤ code
    → ends_of (take count notes) ≡ ends_from 0 (payloads s)
ending_noted {s} {notes} {count} {code} j h =
    sym (append-nil (ends_of (take count notes))) ∙ ap (λ (l : List ℕ). ends_of (take count notes) ++ l) (sym (ends_end s code h))
    ∙ j.filled

-- ---- one payload after the other: `k` of them stand before `code`, and their ends are known
pub record Passing (s : Bytes) (notes : List Note) (code k : ℕ) : Type 0 where
  pub place : Place s code
  pub within : code ≤ length s
  pub ends : drop k (ends_of (take (length (payloads s)) notes)) ≡ ends_from code (payloads (drop code s))
  pub counted : k + length (payloads (drop code s)) ≡ length (payloads s)

pub passing_start : (s : Bytes) (notes : List Note) → at_start_code s ≡ true
    → ends_of (take (length (payloads s)) notes) ≡ ends_from 0 (payloads s)
    → Passing s notes 0 0
passing_start s notes c e = record { place = inr c; within = omega arith; ends = e; counted = omega arith }

-- a payload is left: the next, its end, and the place behind it
module _ {s : Bytes} {notes : List Note} {code k : ℕ} (j : Passing s notes code k) (h : k < length (payloads s)) where
  pub passing_code : at_start_code (drop code s) ≡ true
  passing_code =
      place_code s code j.place
      (not_past (λ past. absurd (omega (arith, j.counted, ap length (payloads_end s code past)))))
    where
      not_past : (length s ≤ code → ⊥) → code < length s
      not_past f = case (ltb code (length s)) (λ t. ltb-true code (length s) t) (λ t. absurd (f (ltb-false code (length s) t)))

  left : drop k (ends_of (take (length (payloads s)) notes)) ≡ next_code s code ∷ ends_from (next_code s code) (payloads (drop
      (next_code s code) s))
  left = j.ends ∙ ends_from_lem s code passing_code

  inside : k < length (ends_of (take (length (payloads s)) notes))
  inside = omega (arith, length-drop k (ends_of (take (length (payloads s)) notes)), ap length left)

  noted_ends : get_or (ends_of (take (length (payloads s)) notes)) k 0 ∷ drop (k + 1) (ends_of (take (length (payloads s)) notes))
      ≡ next_code s code ∷ ends_from (next_code s code) (payloads (drop (next_code s code) s))
  noted_ends = sym (next (ends_of (take (length (payloads s)) notes)) k inside) ∙ left

  pub passing_end : (d : Note) → (get_or notes k d).end ≡ next_code s code
  passing_end d =
      let g = noted_ends in
      let f : get_or (ends_of (take (length (payloads s)) notes)) k 0 ≡ next_code s code = cc in
      let taken : k < length (take (length (payloads s)) notes) = omega (
        arith,
        inside,
        length-map (take (length (payloads s)) notes) (λ
            (n : Note). n.end),
      ) in
      sym (ap (λ (n : Note). n.end) (get_or-take (length (payloads s)) notes k d h))
      ∙ sym (get_or-map (λ (n : Note). n.end) (take (length (payloads s)) notes) k d 0 taken)
      ∙ f

  pub passing_payloads : payloads (drop code s) ≡ payload_at s code ∷ payloads (drop (next_code s code) s)
  passing_payloads = payloads_from s code passing_code

  pub passing_step : Passing s notes (next_code s code) (k + 1)
  passing_step =
      let g = noted_ends in
      record {
        place = next_place s code passing_code;
        within = next_fits s code passing_code;
        ends = cc;
        counted = omega (arith, j.counted, ap length passing_payloads);
      }

-- no payload is left
pub passing_none : {s : Bytes} {notes : List Note} {code k : ℕ} → Passing s notes code k → length (payloads s) ≤ k
    → payloads (drop code s) ≡ []
passing_none {s} {notes} {code} {k} j h = empty (payloads (drop code s)) (omega (arith, j.counted))
  where
    empty : (l : List Bytes) → length l ≡ 0 → l ≡ []
    empty [] e = refl
    empty (b ∷ l) e = absurd (omega arith)

-- ---- what is noted of each payload in an array, of which `v` is looked at
pub record Noted {A B : Type 0} (v : B → A) (f : Bytes → A) (s : Bytes) (noted : List B) (code k : ℕ) : Type 0 where
  pub long : length noted ≡ 64
  pub front : map v (take k noted) ++ map f (payloads (drop code s)) ≡ map f (payloads s)

noted_start : {A B : Type 0} (v : B → A) (f : Bytes → A) (s : Bytes) (noted : List B) → length noted ≡ 64 → Noted v f s noted 0 0
noted_start v f s noted l = record { long = l; front = refl }

noted_step : {A B : Type 0} (v : B → A) (f : Bytes → A) (s : Bytes) {noted : List B} {code k : ℕ} → Noted v f s noted code k
    → payloads (drop code s) ≡ payload_at s code ∷ payloads (drop (next_code s code) s) → k < 64 → (n : B) → v n ≡ f (payload_at s code)
    → Noted v f s (set noted k n) (next_code s code) (k + 1)
noted_step {A} {B} v f s {noted} {code} {k} j p small n e =
    let rest = payloads (drop (next_code s code) s) in
    record {
      long = length-set noted k n ∙ j.long;
      front =
          ap (λ (l : List A). l ++ map f rest)
          (ap (λ (m : ℕ). map v (take m (set noted k n))) (add-one k) ∙ ap (map v) (take-suc-set noted k n (omega (arith, j.long)))
          ∙ map-append v (take k noted) (n ∷ []))
          ∙ append_snoc (map v (take k noted)) (v n) (map f rest)
          ∙ ap (λ (t : A). map v (take k noted) ++ (t ∷ map f rest)) e
          ∙ ap (λ (l : List Bytes). map v (take k noted) ++ map f l) (sym p)
          ∙ j.front;
    }

noted_done : {A B : Type 0} (v : B → A) (f : Bytes → A) (s : Bytes) {noted : List B} {code k : ℕ} → Noted v f s noted code k
    → payloads (drop code s) ≡ [] → length (payloads s) ≡ k → map v (take (length (payloads s)) noted) ≡ map f (payloads s)
noted_done v f s {noted} {code} {k} j z m =
    ap (λ (x : ℕ). map v (take x noted)) m ∙ sym (append-nil (map v (take k noted)))
    ∙ ap (λ (l : List Bytes). map v (take k noted) ++ map f l) (sym z)
    ∙ j.front

-- ---- the payloads of a unit, judged in turn: `k` of them passed
-- how many bytes the size of a payload's OBU takes
abbrev pub width_in : Bytes → ℕ
width_in payload = size_width (unescape payload)

widths_in : (ps : List Bytes) → map width_in ps ≡ map size_width (map unescape ps)
widths_in [] = refl
widths_in (p ∷ ps) = ap (λ (l : List ℕ). width_in p ∷ l) (widths_in ps)

-- the width that a note has
abbrev pub width_of : Note → ℕ
width_of note = note.width

pub record Judging (s : Bytes) (kinds : List code_kind.Kind) (notes : List Note) (bytes drops code k : ℕ) : Type 0 where
  pub ending : Ending s notes k code
  pub small : bytes + drops ≤ code
  pub passed_so_far : in_turn tsobu_refusal 0 (payloads s) ≡ in_turn tsobu_refusal k (payloads (drop code s))
  pub sum_bytes : bytes + sum (map length (map unescape (payloads (drop code s)))) ≡ sum (map length (obus_in s))
  pub sum_dropped : drops + sum (map dropped (payloads (drop code s))) ≡ dropped_in s
  pub kinds_noted : Noted kind_meant kind_in s kinds code k
  pub widths_noted : Noted width_of width_in s notes code k

pub judging_start : (s : Bytes) (kinds : List code_kind.Kind) (notes : List Note) → length kinds ≡ 64 → length notes ≡ 64
    → at_start_code s ≡ true → Judging s kinds notes 0 0 0 0
judging_start s kinds notes m l c =
    record {
      ending = ending_start s notes l c;
      small = omega arith;
      passed_so_far = refl;
      sum_bytes = omega arith;
      sum_dropped = omega arith;
      kinds_noted = noted_start kind_meant kind_in s kinds m;
      widths_noted = noted_start width_of width_in s notes l;
    }

-- there are more than 64
pub counted_many : (s : Bytes) → most_obus < length (payloads s) → refused 1 0 ≡ counted_payloads s
unfolding counted_payloads
counted_many s h = refuse 1 _ (lt-ltb most_obus (length (payloads s)) h)

-- a payload is left
module _ {s : Bytes} {kinds : List code_kind.Kind} {notes : List Note} {bytes drops code k : ℕ}
    (j : Judging s kinds notes bytes drops code k)
    (h : code < length s) where
  left_payloads : payloads (drop code s) ≡ payload_at s code ∷ payloads (drop (next_code s code) s)
  left_payloads = payloads_from s code (ending_code j.ending h)

  pub judging_step : (f : Figures) → Passes (payload_at s code) f → k < 64
      → (kind : code_kind.Kind) → kind_meant kind ≡ kind_of_number (kind_number f.header)
      → (note : Note) → note.end ≡ next_code s code → note.width ≡ size_bytes f.header.size
      → Judging s (set kinds k kind) (set notes k note)
      (bytes + (next_code s code - (code + 3) - f.dropped)) (drops + f.dropped) (next_code s code) (k + 1)
  unfolding sum ends_from
  judging_step f p few kind e note ends g =
      let q = left_payloads in
      let pay = payload_at s code in
      let rest = payloads (drop (next_code s code) s) in
      let dr : f.dropped ≡ dropped pay = p.dropped_is in
      let len = payload_length s code in
      let both = given_or_dropped pay in
      record {
        ending = ending_step j.ending h few note ends;
        small = omega (arith, j.small);
        passed_so_far =
            j.passed_so_far ∙ ap (in_turn tsobu_refusal k) q ∙ refines_passed tsobu_refusal k pay rest p.tries
            ∙ ap (λ (i : ℕ). in_turn tsobu_refusal i rest) (sym (add-one k));
        sum_bytes =
            omega (arith, j.sum_bytes, ap (λ (l : List Bytes). sum (map length (map unescape l))) q);
        sum_dropped = omega (arith, j.sum_dropped, ap (λ (l : List Bytes). sum (map dropped l)) q);
        kinds_noted = noted_step kind_meant kind_in s j.kinds_noted q few kind (header_kind _ f.header kind e p.header);
        widths_noted = noted_step width_of width_in s j.widths_noted q few note (g ∙ sym (ap width_said p.header));
      }

  -- how many there are: those that passed, this one, and those behind it
  pub judging_count : k + 1 + length (payloads (drop (next_code s code) s)) ≡ length (payloads s)
  judging_count = omega (arith, j.ending.counted, ap length left_payloads)

  -- it is one too many
  pub judging_past : most_obus ≤ k → refused 1 0 ≡ counted_payloads s
  judging_past m = counted_many s (omega (arith, judging_count))

  -- it is refused
  pub judging_refused : (r : Refused) → tsobu_refusal (payload_at s code) ≡ refused_by r → length (payloads s) ≤ most_obus
      → refused (number_of r.why) k ≡ counted_payloads s
  unfolding counted_payloads payload_counts
  judging_refused r e m =
      let t : in_turn tsobu_refusal 0 (payloads s) ≡ refused (number_of r.why) k =
      j.passed_so_far ∙ ap (in_turn tsobu_refusal k) left_payloads
      ∙ refines_refused tsobu_refusal k (payload_at s code) (payloads (drop (next_code s code) s)) (number_of r.why) r.place e in
      pass_on 1 (le-ltb most_obus (length (payloads s)) m) (stops _ t)

-- all passed
pub judging_done : {s : Bytes} {kinds : List code_kind.Kind} {notes : List Note} {bytes drops code k : ℕ}
    → Judging s kinds notes bytes drops code k → length s ≤ code
    → Judges s (Ok (record { obus = k; bytes = bytes; dropped = drops })) kinds notes
unfolding counted_payloads payload_counts sum in_turn
judging_done {s} {kinds} {notes} {bytes} {drops} {code} {k} j h =
    let z = payloads_end s code h in
    let n : k ≡ length (payloads s) = ending_none j.ending h in
    let b : bytes ≡ sum (map length (obus_in s)) =
    omega (arith, j.sum_bytes, ap (λ (l : List Bytes). sum (map length (map unescape l))) z) in
    let d : drops ≡ dropped_in s = omega (arith, j.sum_dropped, ap (λ (l : List Bytes). sum (map dropped l)) z) in
    record {
      found =
          pass_on 1 (le-ltb most_obus (length (payloads s)) (omega (arith, j.ending.few)))
          (follows (j.passed_so_far ∙ ap (in_turn tsobu_refusal k) z) (λ i. passed (record { obus = n i; bytes = b i; dropped = d i })));
      long = j.kinds_noted.long;
      kinds = λ c e. noted_done kind_meant kind_in s j.kinds_noted z (sym n);
      ends = λ c e. ap (λ (x : ℕ). ends_of (take x notes)) (sym n) ∙ ending_noted j.ending h;
      widths = λ c e. noted_done width_of width_in s j.widths_noted z (sym n) ∙ widths_in (payloads s);
    }

-- where something was refused, nothing is asked of what was noted
pub refused_judges : {s : Bytes} (r : Refused) (kinds : List code_kind.Kind) (notes : List Note) → length kinds ≡ 64
    → refused (number_of r.why) r.place ≡ counted_payloads s → Judges s (Err r) kinds notes
refused_judges r kinds notes l e =
    record {
      found = e;
      long = l;
      kinds = λ c t. never (e ∙ t);
      ends = λ c t. never (e ∙ t);
      widths = λ c t. never (e ∙ t);
    }

-- the bytes dropped of the payloads from a start code on
pub dropped_left : (s : Bytes) (code : ℕ) → at_start_code (drop code s) ≡ true
    → sum (map dropped (payloads (drop code s))) ≡ dropped (payload_at s code) + sum (map dropped (payloads (drop (next_code s code) s)))
unfolding sum
dropped_left s code e = ap (λ (l : List Bytes). sum (map dropped l)) (payloads_from s code e)

-- ---- the widths of notes, copied in turn
pub widths_next : (notes : List Note) (count i : ℕ) (d : Note) → i < count → count ≤ length notes
    → drop i (widths_of (take count notes)) ≡ (get_or notes i d).width ∷ drop (i + 1) (widths_of (take count notes))
widths_next notes count i d h k =
    let few : i < length (take count notes) = omega (arith, length-take-le count notes k) in
    next (widths_of (take count notes)) i (omega (arith, few, length-map (take count notes) width_of))
    ∙ ap (λ (w : ℕ). w ∷ drop (i + 1) (widths_of (take count notes)))
    (get_or-map width_of (take count notes) i d 0 few ∙ ap width_of (get_or-take count notes i d h))

-- ---- the OBUs of a unit, copied in turn: `k` of them are in `out`, and their lengths in `lens`
pub record Copying (s : Bytes) (notes : List Note) (out₀ lens₀ out lens : List ℕ) (code n k : ℕ) : Type 0 where
  pub passing : Passing s notes code k
  pub bytes : Part out₀ (flatten (obus_in s)) n (flatten (map unescape (payloads (drop code s)))) out
  pub lengths : Part lens₀ (map length (obus_in s)) k (map length (map unescape (payloads (drop code s)))) lens

pub copying_start : (s : Bytes) (notes : List Note) (out lens : List ℕ) → at_start_code s ≡ true
    → ends_of (take (length (payloads s)) notes) ≡ ends_from 0 (payloads s) → Copying s notes out lens out lens 0 0 0
copying_start s notes out lens c e =
    record { passing = passing_start s notes c e; bytes = start out (flatten (obus_in s)); lengths = start lens (map length (obus_in s)) }

module _ {s : Bytes} {notes : List Note} {out₀ lens₀ out lens : List ℕ} {code n k : ℕ} (j : Copying s notes out₀ lens₀ out lens code n k)
    (h : k < length (payloads s)) (fits : length (flatten (obus_in s)) ≤ length out₀) (few : length (payloads s) ≤ length lens₀) where
  next_bytes : Part out₀ (flatten (obus_in s)) n
      (unescape (payload_at s code) ++ flatten (map unescape (payloads (drop (next_code s code) s)))) out
  unfolding flatten
  next_bytes = subst (λ (l : List Bytes). Part out₀ (flatten (obus_in s)) n (flatten (map unescape l)) out) (passing_payloads j.passing h)
      j.bytes

  next_length : Part lens₀ (map length (obus_in s)) k
      (length (unescape (payload_at s code)) ∷ map length (map unescape (payloads (drop (next_code s code) s)))) lens
  next_length = subst (λ (l : List Bytes). Part lens₀ (map length (obus_in s)) k (map length (map unescape l)) lens)
      (passing_payloads j.passing h) j.lengths

  lens_fit : length (map length (obus_in s)) ≤ length lens₀
  lens_fit = omega (arith, length-map (obus_in s) length, length-map (payloads s) unescape, few)

  -- the whole OBU has room
  pub copying_room : n + length (unescape (payload_at s code)) ≤ length out
  copying_room =
      let w = unescape (payload_at s code) in
      let r = flatten (map unescape (payloads (drop (next_code s code) s))) in
      omega (arith, counted next_bytes, length-append w r, next_bytes.long)

  pub copying_place : k < length lens
  copying_place = room next_length lens_fit

  pub copying_step : (written : ℕ) → written ≡ length (unescape (payload_at s code))
      → Copying s notes out₀ lens₀ (placed out n (unescape (payload_at s code))) (set lens k written) (next_code s code) (n + written)
      (k + 1)
  copying_step written e =
      let p = put_all (unescape (payload_at s code)) next_bytes fits in
      let q = put next_length lens_fit in
      record {
        passing = passing_step j.passing h;
        bytes =
            subst (λ (m : ℕ). Part out₀ (flatten (obus_in s)) (n + m) (flatten (map unescape (payloads (drop (next_code s code) s))))
            (placed out n (unescape (payload_at s code)))) (sym e) p;
        lengths =
            subst (λ (m : ℕ). Part lens₀ (map length (obus_in s)) (k + 1) (map length (map unescape (payloads (drop (next_code s code) s))))
            (set lens k m)) (sym e) q;
      }

pub copying_done : {s : Bytes} {notes : List Note} {out₀ lens₀ out lens : List ℕ} {code n k : ℕ}
    → Copying s notes out₀ lens₀ out lens code n k
    → length (payloads s) ≤ k
    → (out ≡ over (flatten (obus_in s)) out₀) × (lens ≡ over (map length (obus_in s)) lens₀)
unfolding flatten
copying_done {s} {notes} {out₀} {lens₀} {out} {lens} {code} {n} {k} j h =
    let z = passing_none j.passing h in (
      done (subst (λ (l : List Bytes). Part out₀ (flatten (obus_in s)) n (flatten (map unescape l)) out) z j.bytes),
      done (subst (λ (l : List Bytes). Part lens₀ (map length (obus_in s)) k (map length (map unescape l)) lens) z j.lengths),
    )
