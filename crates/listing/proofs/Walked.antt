-- The walk over an accepted unit, which puts one line at each step. Assumes nothing.
use Prim.Native.Nat.{ℕ, ◌+◌, ◌-◌, ◌*◌, ◌≤◌, ◌<◌}
use mathlib.Core.Path.{◌≡◌, refl, sym, ap, subst, ◌∙◌}
use mathlib.Core.List.{List, [], ◌∷◌, ◌++◌, append-nil, append_assoc}
use native.Mathlib.Omega.{arith}
use native.Mathlib.Numerals.{add-one}
use lib.ListN.{length, take, drop}
use Rattle.lists.specs.Lists.{Bytes}
use Rattle.refusal.specs.Verdict.{passed}
use Rattle.refusal.proofs.Verdicts.{never, passed_then}
use Rattle.tsobu.specs.StartCodes.{payloads}
use Rattle.unit.specs.Unit.{read_unit, AcceptsAs}
use Rattle.unit.specs.Answer.{checking}
use Rattle.tsobu.specs.Walk.{stepping, payload, place_after_step, place_after, handed_out, step_says, HandsOut, none, first, Walks}
use Rattle.tsobu.specs.declared.walking.Part.{Part}
use Rattle.std.specs.Prelude.{Option, Some, None, Result, Ok, Err}
use Rattle.refusal.specs.declared.Refused.{Refused}
use Rattle.unit.proofs.Acceptance.{reads}
use Rattle.unit.proofs.AsReading.{accepted_walks}
use Rattle.tsobu.proofs.Steps.{not_end, gives}
use Rattle.listing.specs.Listing.{payload_line, payload_lines, most_text}
use Rattle.listing.specs.Parts.{Accepts, line_room, obus_room}

-- ---- an accepted unit
accepted : (unit : Bytes) → Accepts unit → (obus : List Bytes) × AcceptsAs unit obus
unfolding checking
accepted unit (counts, e) = let k = passed_then (read_unit unit) _ counts e in (k.0, k.1)

-- ---- a step that handed out a payload
module _ (unit : Bytes) (at : ℕ) (p : Part) (e : stepping unit at ≡ passed (payload p)) where
  -- the part that it handed out
  abbrev part : Bytes
  part = handed_out unit (stepping unit at)

  part_is : take p.bytes (drop p.start unit) ≡ part
  part_is = ap (handed_out unit) (sym e)

  goes_on : place_after unit at ≡ p.next
  goes_on = ap (place_after_step at) e

  pub part_onward : length unit - place_after unit at < length unit - at
  part_onward = let h = gives unit at p e in omega (arith, goes_on, h.before_end, h.next)

  -- it is the next of the payloads that the walk hands out
  walk_on : (rest : List Bytes) → Walks unit at rest → (ps : List Bytes) × (rest ≡ part ∷ ps) × Walks unit (place_after unit at) ps
  walk_on rest (at', none, k) = absurd (not_end (sym e ∙ k))
  walk_on rest (at', first {ps = ps} q h w, k) =
      let same : q ≡ p = cc in (
        ps,
        ap (λ (x : Part). take x.bytes (drop x.start unit) ∷ ps) same ∙ ap (λ (x : Bytes). x ∷ ps) part_is,
        (at', subst (λ (n : ℕ). HandsOut unit n ps at') (ap (λ (x : Part). x.next) same ∙ sym goes_on) w, k),
      )

-- a step's answer that says a payload is that payload
says_payload : (q : Result (Option Part) Refused) (p : Part) → step_says q ≡ passed (payload p) → q ≡ Ok (Some p)
says_payload (Ok (Some r)) p e = let same : r ≡ p = cc in ap (λ (x : Part). Ok (Some x)) same
says_payload (Ok None) p e = absurd (not_end (sym e))
says_payload (Err r) p e = never e

-- any other step ends the walk
walk_off : (unit : Bytes) (at : ℕ) (q : Result (Option Part) Refused) → step_says q ≡ stepping unit at
    → ((p : Part) → q ≡ Ok (Some p) → ⊥) → (rest : List Bytes) → Walks unit at rest → rest ≡ []
walk_off unit at q e n rest (at', none, k) = refl
walk_off unit at q e n rest (at', first p h w, k) = absurd (n p (says_payload q p (e ∙ h)))

-- ---- the lines of the steps so far are put, and `rest` is to come
pub record Listing (unit text₀ text : Bytes) (place index : ℕ) : Type 0 where
  pub rest : List Bytes
  pub walk : Walks unit place rest
  pub put : Bytes
  pub so_far : text ≡ text₀ ++ put
  pub whole : put ++ payload_lines index rest ≡ payload_lines 0 (payloads unit)
  pub few : index + length rest ≤ 64
  pub small : length text ≤ length text₀ + index * line_room

pub listing_start : (unit text : Bytes) → Accepts unit → Listing unit text text 0 0
listing_start unit text a =
    record {
      rest = payloads unit;
      walk = let h = accepted unit a in accepted_walks unit h.0 h.1;
      put = [];
      so_far = sym (append-nil text);
      whole = refl;
      few = let h = accepted unit a in omega (arith, (reads unit h.0 h.1).0.most);
      small = omega arith;
    }

module _ {unit text₀ text : Bytes} {place index : ℕ} (s : Listing unit text₀ text place index) where
  module _ (p : Part) (e : stepping unit place ≡ passed (payload p)) where
    pub listing_index : index < 64
    listing_index = let w = walk_on unit place p e s.rest s.walk in omega (arith, s.few, ap length w.1)

    -- the next line has room
    pub listing_room : length text₀ + obus_room ≤ most_text → length text + line_room ≤ most_text
    listing_room h = omega (arith, s.small, listing_index)

    pub listing_step : (later : Bytes) → later ≡ text ++ payload_line index (handed_out unit (stepping unit place))
        → length later ≤ length text + line_room → Listing unit text₀ later (place_after unit place) (index + 1)
    unfolding payload_lines
    listing_step later k small =
        let w = walk_on unit place p e s.rest s.walk in
        let line = payload_line index (handed_out unit (stepping unit place)) in
        record {
          rest = w.0;
          walk = w.2;
          put = s.put ++ line;
          so_far = k ∙ ap (λ (l : Bytes). l ++ line) s.so_far ∙ append_assoc text₀ s.put line;
          whole =
              append_assoc s.put line (payload_lines (index + 1) w.0)
              ∙ ap (λ (n : ℕ). s.put ++ (line ++ payload_lines n w.0)) (add-one index)
              ∙ ap (λ (l : List Bytes). s.put ++ payload_lines index l) (sym w.1)
              ∙ s.whole;
          few = omega (arith, s.few, ap length w.1);
          small = omega (arith, s.small);
        }

  -- the walk has come to its end
  pub listing_end : (q : Result (Option Part) Refused) → step_says q ≡ stepping unit place → ((p : Part) → q ≡ Ok (Some p) → ⊥)
      → text ≡ text₀ ++ payload_lines 0 (payloads unit)
  unfolding payload_lines
  listing_end q e n =
      s.so_far
      ∙ ap (λ (l : Bytes). text₀ ++ l)
      (sym (append-nil s.put)
      ∙ ap (λ (l : List Bytes). s.put ++ payload_lines index l) (sym (walk_off unit place q e n s.rest s.walk))
      ∙ s.whole)

  pub listing_bound : length text ≤ length text₀ + obus_room
  listing_bound = omega (arith, s.small, s.few)
