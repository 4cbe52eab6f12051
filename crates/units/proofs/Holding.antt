-- The code's places and the three outputs against what has been extracted (`UnitsRepresent`): at the start, after a payload's bytes, after
-- a
-- unit's end.
-- Assumes nothing.
use Rattle.std.specs.Prelude.{Option, Some, None}
use Prim.Native.Nat.{ℕ, suc, ◌+◌, ◌*◌, ◌≤◌, ◌<◌}
use mathlib.Core.Path.{◌≡◌, refl, sym, ap, ap₂, subst, ◌∙◌}
use mathlib.Core.List.{List, [], ◌∷◌, ◌++◌, map, flatten, append-nil, append_assoc}
use native.Mathlib.Omega.{arith}
use lib.ListN.{length, take, drop, set, get_or, length-append, length-set}
use lib.Seq.{take-append_seam, drop-append_seam, drop-drop, drop-cons, set-append_seam}
use Rattle.lists.specs.Lists.{Bytes, over, placed}
use Rattle.segment_rules.specs.State as state
use Rattle.segment_rules.specs.State.{OpenPes, AccessUnit, with_pes, with_unit, no_units}
use Rattle.segment_rules.specs.Rules.{open_bytes, carried_units, carried_so_far, unit_of}
use Rattle.segment_rules.specs.Check.{Outputs, outputs_of, rooms_of, lengths, pts_and_dts, times_in_turn, holding}
use Rattle.segment_rules.proofs.Outputs.{two_times, count_times}
use Rattle.lists.proofs.Writing.{length_over}
use Rattle.units.specs.declared.state.PesFound.{PesFound}
use Rattle.units.specs.declared.units.Extraction.{Extraction}
use Rattle.units.specs.Extraction.{open_pes, pes_of, fresh_extraction, units_begun, Fits, UnitsRepresent}
use Rattle.units.specs.Parts.{closed_units, lens_put, times_put, lens_closed, times_closed}

-- ---- what stands over the front of an output
-- more behind it
over_more : (w v b : List ℕ) → placed (over w b) (length w) v ≡ over (w ++ v) b
over_more w v b =
    ap₂ (λ (x y : List ℕ). x ++ over v y) (take-append_seam w (drop (length w) b)) (drop-append_seam w (drop (length w) b))
    ∙ ap (λ (x : List ℕ). w ++ (v ++ x)) (drop-drop (length v) (length w) b)
    ∙ sym (append_assoc w v (drop (length w + length v) b))
    ∙ ap (λ (n : ℕ). (w ++ v) ++ drop n b) (sym (length-append w v))

-- one element more, which has its place
pub over_one : (w b : List ℕ) (a : ℕ) → length w < length b → set (over w b) (length w) a ≡ over (w ++ (a ∷ [])) b
over_one w b a h =
    ap (λ (x : List ℕ). set (w ++ x) (length w) a) (drop-cons b (length w) 0 h)
    ∙ set-append_seam w _ _ a
    ∙ sym (append_assoc w (a ∷ []) (drop (suc (length w)) b))
    ∙ ap (λ (n : ℕ). (w ++ (a ∷ [])) ++ drop n b) e
  where
    e : suc (length w) ≡ length (w ++ (a ∷ []))
    e = omega (arith, length-append w (a ∷ []))

-- ---- units, with one more at the end
flatten_last : {A : Type 0} (f : A → List ℕ) (l : List A) (a : A) → flatten (map f (l ++ (a ∷ []))) ≡ flatten (map f l) ++ f a
unfolding flatten
flatten_last f [] a = append-nil (f a)
flatten_last f (b ∷ l) a = ap (λ (x : List ℕ). f b ++ x) (flatten_last f l a) ∙ sym (append_assoc (f b) (flatten (map f l)) (f a))

pub map_last : {A : Type 0} (f : A → ℕ) (l : List A) (a : A) → map f (l ++ (a ∷ [])) ≡ map f l ++ (f a ∷ [])
map_last f [] a = refl
map_last f (b ∷ l) a = ap (λ (x : List ℕ). f b ∷ x) (map_last f l a)

length_lengths : (l : List AccessUnit) → length (lengths l) ≡ length l
length_lengths [] = refl
length_lengths (u ∷ l) = ap suc (length_lengths l)

-- ---- the outputs keep their lengths
module _ {before now : Outputs} {e : Extraction} {x : state.Extraction} (s : UnitsRepresent before now e x) where
  pub written : e.start + e.bytes ≡ length (carried_so_far x)
  written = omega (arith, s.start, s.bytes, length-append (carried_units x.units) (open_bytes x.pes))

  closed_units_lem : length x.units ≤ units_begun e.pes e.units
  closed_units_lem = subst (λ (n : ℕ). n ≤ units_begun e.pes e.units) s.units (begun e.pes e.units)
    where
      begun : (p : Option PesFound) (n : ℕ) → n ≤ units_begun p n
      begun None n = omega arith
      begun (Some f) n = omega arith

  pub same_bytes : length now.bytes ≡ length before.bytes
  same_bytes =
      ap (λ (o : Outputs). length o.bytes) s.outputs
      ∙ length_over (carried_so_far x) before.bytes (omega (arith, written, s.fits.in_bytes))

  pub same_lens : length now.lens ≡ length before.lens
  same_lens =
      ap (λ (o : Outputs). length o.lens) s.outputs
      ∙ length_over (lengths x.units) before.lens (omega (arith, length_lengths x.units, closed_units_lem, s.fits.in_lens))

  pub same_times : length now.times ≡ length before.times
  same_times =
      ap (λ (o : Outputs). length o.times) s.outputs
      ∙ length_over (times_in_turn x.units) before.times (omega (arith, count_times x.units, closed_units_lem, s.fits.in_times))

  -- the code's places lie within the outputs
  pub stands_fits : Fits e (rooms_of now)
  stands_fits =
      record {
        in_bytes = omega (arith, same_bytes, s.fits.in_bytes);
        in_lens = omega (arith, same_lens, s.fits.in_lens);
        in_times = omega (arith, same_times, s.fits.in_times);
      }

  none_open : e.pes ≡ None → carried_so_far x ≡ carried_units x.units
  none_open c =
      ap (λ (o : Bytes). carried_units x.units ++ o) (ap open_bytes (s.pes ∙ ap (pes_of (open_bytes x.pes)) c)) ∙ append-nil
      (carried_units x.units)

  -- where no PES is open, there are no bytes of one
  pub no_bytes : e.pes ≡ None → e.bytes ≡ 0
  no_bytes c = s.bytes ∙ ap (λ (o : Option OpenPes). length (open_bytes o)) (s.pes ∙ ap (pes_of (open_bytes x.pes)) c)

  -- and the outputs hold the units
  pub closed_outputs : e.pes ≡ None → now ≡ holding x.units before
  closed_outputs c =
      s.outputs
      ∙ ap (λ (w : Bytes). outputs_of (over w before.bytes) (over (lengths x.units) before.lens)
      (over (times_in_turn x.units) before.times)) (none_open c)

  -- the bytes of the open PES, where they stand in the output
  pub unit_bytes : take e.bytes (drop e.start now.bytes) ≡ open_bytes x.pes
  unit_bytes =
      let front = carried_units x.units in
      let unit = open_bytes x.pes in
      let tail = drop (length (front ++ unit)) before.bytes in
      ap (λ (l : List ℕ). take e.bytes (drop e.start l)) (ap (λ (o : Outputs). o.bytes) s.outputs ∙ append_assoc front unit tail)
      ∙ ap₂ (λ (m n : ℕ). take m (drop n (front ++ (unit ++ tail)))) s.bytes s.start
      ∙ ap (λ (l : List ℕ). take (length unit) l) (drop-append_seam front (unit ++ tail))
      ∙ take-append_seam unit tail

-- ---- at the start
pub units_start : (before : Outputs) → UnitsRepresent before before fresh_extraction no_units
unfolding flatten
units_start before =
    record {
      pes = refl;
      units = refl;
      start = refl;
      bytes = refl;
      outputs = refl;
      fits = record { in_bytes = omega arith; in_lens = omega arith; in_times = omega arith };
    }

-- ---- a payload's bytes
-- the units where a PES opens with so many of them, no other being open
abbrev pub opened_with : PesFound → ℕ → Extraction → Extraction
opened_with f bytes e = record { pes = Some f; units = e.units; start = e.start; bytes = bytes }

module _ {before : Outputs} {out lens times : List ℕ} {e : Extraction} {x : state.Extraction}
    (s : UnitsRepresent before (outputs_of out lens times) e x) (w : Bytes) where
  -- in the output behind what stands there
  put_behind : placed out (e.start + e.bytes) w ≡ over (carried_so_far x ++ w) before.bytes
  put_behind =
      ap₂ (λ (o : List ℕ) (n : ℕ). placed o n w) (ap (λ (o : Outputs). o.bytes) s.outputs) (written s)
      ∙ over_more (carried_so_far x) w before.bytes

  after_put : {v : Bytes} → carried_so_far x ++ w ≡ v → outputs_of (placed out (e.start + e.bytes) w) lens times
      ≡ outputs_of (over v before.bytes) (over (lengths x.units) before.lens) (over (times_in_turn x.units) before.times)
  after_put {v} k =
      ap (λ (o : Bytes). outputs_of o lens times) (put_behind ∙ ap (λ (l : Bytes). over l before.bytes) k)
      ∙ ap₂ (λ (l t : List ℕ). outputs_of (over v before.bytes) l t) (ap (λ (o : Outputs). o.lens) s.outputs)
      (ap (λ (o : Outputs). o.times) s.outputs)

  -- a PES opens with them, and there is room for its length and times
  pub stands_opened : (f : PesFound) → e.pes ≡ None → Fits (opened_with f (length w) e) (rooms_of before)
      → UnitsRepresent before (outputs_of (placed out e.start w) lens times) (opened_with f (length w) e) (with_pes (open_pes f w) x)
  stands_opened f c fits =
      let at : e.start ≡ e.start + e.bytes = omega (arith, no_bytes s c) in
      record {
        pes = refl;
        units = s.units;
        start = s.start;
        bytes = refl;
        outputs =
            ap (λ (n : ℕ). outputs_of (placed out n w) lens times) at
            ∙ after_put (ap (λ (o : Bytes). o ++ w) (none_open s c));
        fits = fits;
      }

  -- the open PES goes on with them
  pub stands_added : (f : PesFound) → e.pes ≡ Some f → e.start + e.bytes + length w ≤ length before.bytes
      → UnitsRepresent before (outputs_of (placed out (e.start + e.bytes) w) lens times)
      (record { pes = Some f; units = e.units; start = e.start; bytes = e.bytes + length w })
      (with_pes (open_pes f (open_bytes x.pes ++ w)) x)
  stands_added f o b =
      let room = s.fits in
      let begun : units_begun e.pes e.units ≡ e.units + 1 = ap (λ (p : Option PesFound). units_begun p e.units) o in
      record {
        pes = refl;
        units = s.units;
        start = s.start;
        bytes = omega (arith, s.bytes, length-append (open_bytes x.pes) w);
        outputs = after_put (append_assoc (carried_units x.units) (open_bytes x.pes) w);
        fits =
            record {
              in_bytes = omega (arith, b);
              in_lens = omega (arith, begun, room.in_lens);
              in_times = omega (arith, begun, room.in_times);
            };
      }

-- ---- the open PES closes
-- the outputs keep their lengths
pub lens_kept : (p : Option PesFound) (unit bytes : ℕ) (lens : List ℕ) → length (lens_put p unit bytes lens) ≡ length lens
lens_kept None unit bytes lens = refl
lens_kept (Some f) unit bytes lens = length-set lens unit bytes

pub times_kept : (p : Option PesFound) (unit : ℕ) (times : List ℕ) → length (times_put p unit times) ≡ length times
times_kept None unit times = refl
times_kept (Some f) unit times =
    length-set (set times (2 * unit) (get_or (pts_and_dts f.header.times) 0 0)) (2 * unit + 1) (get_or (pts_and_dts f.header.times) 1 0)
    ∙ length-set times (2 * unit) (get_or (pts_and_dts f.header.times) 0 0)

-- there is none
pub stands_already : {before : Outputs} {out lens times : List ℕ} {e : Extraction} {x : state.Extraction}
    → UnitsRepresent before (outputs_of out lens times) e x → e.pes ≡ None
    → UnitsRepresent before (outputs_of out (lens_closed e lens) (times_closed e times)) (closed_units e) x
stands_already {before} {out} {lens} {times} {e} {x} s c =
    let none_is : x.pes ≡ None = s.pes ∙ ap (pes_of (open_bytes x.pes)) c in
    record {
      pes = none_is;
      units = ap (λ (p : Option PesFound). units_begun p e.units) c ∙ s.units;
      start = written s ∙ ap length (none_open s c);
      bytes = sym (ap (λ (p : Option OpenPes). length (open_bytes p)) none_is);
      outputs =
          ap (λ (p : Option PesFound). outputs_of out (lens_put p e.units e.bytes lens) (times_put p e.units times)) c ∙ s.outputs;
      fits = record { in_bytes = omega (arith, s.fits.in_bytes); in_lens = s.fits.in_lens; in_times = s.fits.in_times };
    }

-- ---- a unit's end
module _ {before : Outputs} {out lens times : List ℕ} {e : Extraction} {x : state.Extraction}
    (s : UnitsRepresent before (outputs_of out lens times) e x) (f : PesFound)
    (o : e.pes ≡ Some f) (p d : ℕ) (pair : p ∷ d ∷ [] ≡ pts_and_dts f.header.times) where
  abbrev unit : AccessUnit
  unit = unit_of (open_pes f (open_bytes x.pes))

  begun : units_begun e.pes e.units ≡ e.units + 1
  begun = ap (λ (q : Option PesFound). units_begun q e.units) o

  put_length : set lens e.units e.bytes ≡ over (lengths (x.units ++ (unit ∷ []))) before.lens
  put_length =
      ap₂ (λ (l : List ℕ) (n : ℕ). set l n e.bytes) (ap (λ (q : Outputs). q.lens) s.outputs)
      (s.units ∙ sym (length_lengths x.units))
      ∙ over_one (lengths x.units) before.lens e.bytes (omega (arith, length_lengths x.units, s.units, begun, s.fits.in_lens))
      ∙ ap (λ (n : ℕ). over (lengths x.units ++ (n ∷ [])) before.lens) s.bytes
      ∙ ap (λ (l : List ℕ). over l before.lens) (sym (map_last (λ u. length u.carried) x.units unit))

  put_times : set (set times (2 * e.units) p) (2 * e.units + 1) d ≡ over (times_in_turn (x.units ++ (unit ∷ []))) before.times
  put_times =
      let t = times_in_turn x.units in
      let first : 2 * e.units ≡ length t = omega (arith, s.units, count_times x.units) in
      let second : 2 * e.units + 1 ≡ length (t ++ (p ∷ [])) = omega (arith, first, length-append t (p ∷ [])) in
      ap₂ (λ (l : List ℕ) (n : ℕ). set (set l n p) (2 * e.units + 1) d) (ap (λ (q : Outputs). q.times) s.outputs) first
      ∙ ap (λ (l : List ℕ). set l (2 * e.units + 1) d) (over_one t before.times p (omega (arith, first, begun, s.fits.in_times)))
      ∙ ap (λ (n : ℕ). set (over (t ++ (p ∷ [])) before.times) n d) second
      ∙ over_one (t ++ (p ∷ [])) before.times d (omega (arith, second, begun, s.fits.in_times))
      ∙ ap (λ (l : List ℕ). over l before.times)
      (append_assoc t (p ∷ []) (d ∷ []) ∙ ap (λ (l : List ℕ). t ++ l) pair ∙ sym (flatten_last (λ u. pts_and_dts u.times) x.units unit))

  stands_closed : UnitsRepresent before (outputs_of out (set lens e.units e.bytes)
      (set (set times (2 * e.units) p) (2 * e.units + 1) d))
      (record { pes = None; units = e.units + 1; start = e.start + e.bytes; bytes = 0 }) (with_unit unit x)
  stands_closed =
      let all : carried_so_far x ≡ carried_units (x.units ++ (unit ∷ [])) = sym (flatten_last (λ u. u.carried) x.units unit) in
      record {
        pes = refl;
        units = omega (arith, s.units, length-append x.units (unit ∷ []));
        start = written s ∙ ap length all;
        bytes = refl;
        outputs =
            ap (λ (b : Bytes). outputs_of b (set lens e.units e.bytes) (set (set times (2 * e.units) p) (2 * e.units + 1) d))
            (ap (λ (q : Outputs). q.bytes) s.outputs
            ∙ ap (λ (l : Bytes). over l before.bytes) (all ∙ sym (append-nil (carried_units (x.units ++ (unit ∷ []))))))
            ∙ ap₂ (λ (l t : List ℕ). outputs_of (over (carried_units (x.units ++ (unit ∷ [])) ++ []) before.bytes) l t) put_length
            put_times;
        fits =
            record {
              in_bytes = omega (arith, s.fits.in_bytes);
              in_lens = omega (arith, begun, s.fits.in_lens);
              in_times = omega
                  (arith, begun, s.fits.in_times);
            };
      }

-- the same as the code has it
pub stands_put : {before : Outputs} {out lens times : List ℕ} {e : Extraction} {x : state.Extraction}
    → UnitsRepresent before (outputs_of out lens times) e x → (f : PesFound) → e.pes ≡ Some f
    → UnitsRepresent before (outputs_of out (lens_closed e lens) (times_closed e times)) (closed_units e)
    (with_unit (unit_of (open_pes f (open_bytes x.pes))) x)
stands_put {before} {out} {lens} {times} {e} {x} s f o =
    subst (λ (p : Option PesFound). UnitsRepresent before (outputs_of out (lens_put p e.units e.bytes lens) (times_put p e.units times))
    (record { pes = None; units = units_begun p e.units; start = e.start + e.bytes; bytes = 0 })
    (with_unit (unit_of (open_pes f (open_bytes x.pes))) x)) (sym o)
    (stands_closed s f o (get_or (pts_and_dts f.header.times) 0 0) (get_or (pts_and_dts f.header.times) 1 0)
    (sym (two_times f.header.times)))

-- what the code puts in place is that
module _ (e : Extraction) (f : PesFound) (o : e.pes ≡ Some f) where
  pub lens_put_lem : (lens lens' : List ℕ) → lens' ≡ set lens e.units e.bytes → lens' ≡ lens_closed e lens
  lens_put_lem lens lens' k = k ∙ sym (ap (λ (p : Option PesFound). lens_put p e.units e.bytes lens) o)

  pub times_put_lem : (times times' : List ℕ) (p d : ℕ) → p ∷ d ∷ [] ≡ pts_and_dts f.header.times
      → times' ≡ set (set times (2 * e.units) p) (2 * e.units + 1) d → times' ≡ times_closed e times
  times_put_lem times times' p d pair k =
      k
      ∙ ap₂ (λ (x y : ℕ). set (set times (2 * e.units) x) (2 * e.units + 1) y) (ap (λ (l : List ℕ). get_or l 0 0) pair)
      (ap (λ (l : List ℕ). get_or l 1 0) pair)
      ∙ sym (ap (λ (q : Option PesFound). times_put q e.units times) o)

-- the same under other names
pub stands_as : {before : Outputs} {out lens times lens' times' : List ℕ} {e e' : Extraction} {x : state.Extraction}
    → UnitsRepresent before (outputs_of out lens times) e x → lens' ≡ lens → times' ≡ times → e' ≡ e
    → UnitsRepresent before (outputs_of out lens' times') e' x
stands_as {before} {out} {lens} {times} {lens'} {times'} {e} {e'} {x} s l t k =
    subst (λ (ls : List ℕ). UnitsRepresent before (outputs_of out ls times') e' x) (sym l)
    (subst (λ (ts : List ℕ). UnitsRepresent before (outputs_of out lens ts) e' x) (sym t)
    (subst (λ (y : Extraction). UnitsRepresent before (outputs_of out lens times) y x) (sym k) s))
