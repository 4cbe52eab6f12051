-- 2026-04. What is found is the first header in stream order that disagrees or is cut short (`found_first`), and nothing is found exactly
-- where each agrees (`none_found`, `all_agree`); its field is one of nine, or 43 (`field_range`). Under draft, and without a descriptor,
-- nothing is found (`draft_none`, `without_none`). The segment stays accepted, with the same answer (`stays_accepted`). Each OBU of an
-- accepted unit has a header (`headers_read`). Assumes nothing.
use Prim.Native.Nat.{ℕ, suc, ◌+◌, ◌<◌}
use mathlib.Core.Bool.{Bool, true, false}
use mathlib.Core.Path.{◌≡◌, refl, sym, ap, ◌∙◌, subst}
use mathlib.Core.Logic.{◌⊎◌, inl, inr}
use mathlib.Core.List.{List, [], ◌∷◌, ◌++◌, map}
use native.Mathlib.Omega.{arith}
use lib.Dec.{eqb}
use lib.ListN.{length}
use Rattle.lists.specs.Lists.{Bytes, those}
use Rattle.lists.proofs.Elements.{those_others}
use Rattle.refusal.specs.Verdict.{passed, ◌>>=◌, in_turn}
use Rattle.refusal.proofs.Verdicts.{All, passed_after, turns_passed}
use Rattle.emulation.specs.Payload.{unescape}
use Rattle.obu.specs.declared.header.Header.{Header}
use Rattle.obu.specs.Header.{header_of}
use Rattle.tsobu.specs.StartCodes.{payloads}
use Rattle.tsobu.specs.TsObu.{tsobu_refusal}
use Rattle.tsobu.proofs.TsObus.{header_there}
use Rattle.unit.specs.Unit.{obus_in, read_unit}
use Rattle.descriptor.specs.declared.fields.Fields.{Fields}
use Rattle.descriptor.specs.Edition.{Edition, draft, edition_of}
use Rattle.pmt.specs.Pmt.{MapContent, is_video, video_descriptors}
use Rattle.sequence.specs.declared.fields.Sequence.{Sequence}
use Rattle.std.specs.Prelude.{Option as Found, Some, None, Option}
use Rattle.sequence.specs.Bits.{Outcome, read, cut_short}
use Rattle.sequence.specs.Header as sequence
use Rattle.sequence.specs.Comparison.{of_header, of_descriptor, first_differing, or_cut_short, reading, comparing}
use Rattle.comparison.specs.declared.Disagreement.{Disagreement}
use Rattle.comparison.specs.Comparison.{sequence_headers, field_of, in_unit, or_else, first_of, first_from}
use Rattle.packet.proofs.Counters.{some_not_none, some_same}
use Rattle.segment_rules.specs.State.{AccessUnit}
use Rattle.segment_rules.specs.Rules.{Rooms}
use Rattle.segment_rules.specs.Check.{check_segment, check_in}
use Rattle.segment_rules.specs.Comparison.{compared_with, compared, check_compared}
use Rattle.segment_rules.proofs.Moving.{passed_so}
use Rattle.segment_rules.proofs.Sequence.{bind_assoc, bind_same, bind_unit}

-- ---- the answer
pub stays_accepted : (n : ℕ) (rooms : Rooms) (s : Bytes) → (check_compared n rooms s >>= λ c. passed c.accepted) ≡ check_in n rooms s
unfolding check_compared check_in ◌>>=◌
stays_accepted n rooms s =
    bind_assoc (edition_of n) _ _
    ∙ bind_same (edition_of n) _ _
    (λ edition. bind_assoc (check_segment edition rooms s) _ _ ∙ bind_unit (check_segment edition rooms s))

-- ---- nothing to compare with
no_video : (l : List Bytes) → video_descriptors draft l ≡ []
unfolding those
no_video [] = refl
no_video (d ∷ l) = those_others (is_video draft) d l refl ∙ no_video l

pub draft_none : (m : MapContent) (units : List AccessUnit) → compared draft m units ≡ None
unfolding compared_with
draft_none m units = ap (λ (l : List Bytes). compared_with l units) (no_video m.av1.descriptors)

pub without_none : (edition : Edition) (m : MapContent) (units : List AccessUnit) → video_descriptors edition m.av1.descriptors ≡ []
    → compared edition m units ≡ None
unfolding compared_with
without_none edition m units e = ap (λ (l : List Bytes). compared_with l units) e

-- ---- the first
module _ (d : Fields) where
  -- a header agrees; each header of a unit does
  abbrev pub Agrees : Bytes → Type 0
  Agrees content = field_of (comparing content d) ≡ None

  abbrev pub UnitAgrees : Bytes → Type 0
  UnitAgrees u = All Agrees (sequence_headers u)

  -- of the headers of a unit
  pub record HeaderFound (headers : List Bytes) (field : ℕ) : Type 0 where
    pub front : List Bytes
    pub header : Bytes
    pub back : List Bytes
    pub whole : headers ≡ front ++ (header ∷ back)
    pub before : All Agrees front
    pub differs : field_of (comparing header d) ≡ Some field

  header_none : (headers : List Bytes) → first_of d headers ≡ None → All Agrees headers
  unfolding first_of
  header_none [] e = tt
  header_none (h ∷ headers) e = go (field_of (comparing h d)) refl e (header_none headers)
    where
      go : (o : Option ℕ) → field_of (comparing h d) ≡ o → or_else o (first_of d headers) ≡ None
          → (first_of d headers ≡ None → All Agrees headers)
          → All Agrees (h ∷ headers)
      go None k e more = (k, more e)
      go (Some n) k e more = absurd (some_not_none n e)

  header_agree : (headers : List Bytes) → All Agrees headers → first_of d headers ≡ None
  unfolding first_of
  header_agree [] h = refl
  header_agree (x ∷ headers) h = ap (λ (o : Option ℕ). or_else o (first_of d headers)) h.0 ∙ header_agree headers h.1

  header_found : (headers : List Bytes) (n : ℕ) → first_of d headers ≡ Some n → HeaderFound headers n
  unfolding first_of
  header_found [] n e = absurd (some_not_none n (sym e))
  header_found (h ∷ headers) n e = go (field_of (comparing h d)) refl e (header_found headers n)
    where
      go : (o : Option ℕ) → field_of (comparing h d) ≡ o → or_else o (first_of d headers) ≡ Some n
          → (first_of d headers ≡ Some n → HeaderFound headers n)
          → HeaderFound (h ∷ headers) n
      go None k e more =
          let f = more e in
          record {
            front = h ∷ f.front;
            header = f.header;
            back = f.back;
            whole = ap (λ (l : List Bytes). h ∷ l) f.whole;
            before = (k, f.before);
            differs = f.differs;
          }
      go (Some m) k e more = record { front = []; header = h; back = headers; whole = refl; before = tt; differs = k ∙ e }

  -- of the units, of which the first has this index
  pub record UnitFound (index : ℕ) (units : List Bytes) (found : Disagreement) : Type 0 where
    pub front : List Bytes
    pub unit : Bytes
    pub back : List Bytes
    pub whole : units ≡ front ++ (unit ∷ back)
    pub before : All UnitAgrees front
    pub at : found.unit ≡ index + length front
    pub header : HeaderFound (sequence_headers unit) found.field

  -- the first that disagrees in these carried units, of which the first has this index
  abbrev pub first_in : ℕ → List Bytes → Option Disagreement
  first_in index units = first_from index d (map sequence_headers units)

  pub none_found : (index : ℕ) (units : List Bytes) → first_in index units ≡ None → All UnitAgrees units
  unfolding first_from
  none_found index [] e = tt
  none_found index (u ∷ units) e = go (first_of d (sequence_headers u)) refl e (none_found (suc index) units)
    where
      go : (o : Option ℕ) → first_of d (sequence_headers u) ≡ o → or_else (in_unit index o) (first_in (suc index) units) ≡ None
          → (first_in (suc index) units ≡ None → All UnitAgrees units) → All UnitAgrees (u ∷ units)
      go None k e more = (header_none (sequence_headers u) k, more e)
      go (Some n) k e more = absurd (some_not_none _ e)

  pub all_agree : (index : ℕ) (units : List Bytes) → All UnitAgrees units → first_in index units ≡ None
  unfolding first_from
  all_agree index [] h = refl
  all_agree index (u ∷ units) h =
      ap (λ (o : Option ℕ). or_else (in_unit index o) (first_in (suc index) units)) (header_agree (sequence_headers u) h.0)
      ∙ all_agree (suc index) units h.1

  pub found_first : (index : ℕ) (units : List Bytes) (found : Disagreement) → first_in index units ≡ Some found
      → UnitFound index units found
  unfolding first_from
  found_first index [] found e = absurd (some_not_none found (sym e))
  found_first index (u ∷ units) found e = go (first_of d (sequence_headers u)) refl e (found_first (suc index) units found)
    where
      go : (o : Option ℕ) → first_of d (sequence_headers u) ≡ o
          → or_else (in_unit index o) (first_in (suc index) units) ≡ Some found
          → (first_in (suc index) units ≡ Some found → UnitFound (suc index) units found) → UnitFound index (u ∷ units) found
      go None k e more =
          let f = more e in
          record {
            front = u ∷ f.front;
            unit = f.unit;
            back = f.back;
            whole = ap (λ (l : List Bytes). u ∷ l) f.whole;
            before = (header_none (sequence_headers u) k, f.before);
            at = omega (arith, f.at);
            header = f.header;
          }
      go (Some n) k e more =
          let same : record { unit = index; field = n } ≡ found = some_same _ found e in
          record {
            front = [];
            unit = u;
            back = units;
            whole = refl;
            before = tt;
            at = ap (λ (x : Disagreement). x.unit) (sym same) ∙ omega arith;
            header =
                subst (HeaderFound (sequence_headers u)) (ap (λ (x : Disagreement). x.field) same)
                (header_found (sequence_headers u) n k);
          }

-- ---- the field
field_in : (index n : ℕ) (s t : List ℕ) → first_differing index s t ≡ Some n → n < index + length s
unfolding first_differing
field_in index n [] t e = let z : ◌≡◌ {A = ℕ} 0 1 = cc in absurd (omega arith)
field_in index n (a ∷ s) [] e = let z : ◌≡◌ {A = ℕ} 0 1 = cc in absurd (omega arith)
field_in index n (a ∷ s) (b ∷ t) e = go (eqb a b) e (field_in (suc index) n s t)
  where
    go : (c : Bool)
        → (elim c [ true ↦ first_differing (suc index) s t | false ↦ Some index ]) ≡ Some n
        → (first_differing (suc index) s t ≡ Some n → n < suc index + length s) → n < index + length (a ∷ s)
    go true k more = omega (arith, more k)
    go false k more = let same : index ≡ n = cc in omega arith

nine : (h : Sequence) (d : Fields) (n : ℕ) (x : Found ℕ) → first_differing 0 (of_header h) (of_descriptor d) ≡ x
    → field_of (passed x) ≡ Some n
    → n < 9
unfolding of_header
nine h d n (Some m) e k =
    omega (arith, field_in 0 m (of_header h) (of_descriptor d) e, some_same m n k)
nine h d n None e k = absurd (some_not_none n (sym k))

by_outcome : (d : Fields) (n : ℕ) (o : Outcome Sequence)
    → field_of (or_cut_short o >>= λ h. passed (first_differing 0 (of_header h) (of_descriptor d))) ≡ Some n → (n < 9) ⊎ (n ≡ 43)
unfolding ◌>>=◌
by_outcome d n (read h left) k = inl (nine h d n (first_differing 0 (of_header h) (of_descriptor d)) refl k)
by_outcome d n cut_short k = inr (sym (some_same 43 n k))

pub field_range : (content : Bytes) (d : Fields) (n : ℕ) → field_of (comparing content d) ≡ Some n → (n < 9) ⊎ (n ≡ 43)
unfolding comparing reading
field_range content d n e = by_outcome d n (sequence.header_of content) e

-- ---- each OBU of an accepted unit has a header
abbrev HasHeader : Bytes → Type 0
HasHeader obu = (h : Header) × (header_of obu ≡ passed h)

all_headers : (ws : List Bytes) → All (λ w. tsobu_refusal w ≡ passed tt) ws → All HasHeader (map unescape ws)
all_headers [] h = tt
all_headers (w ∷ ws) h = (header_there w h.0, all_headers ws h.1)

pub headers_read : (s : Bytes) (l : List Bytes) → read_unit s ≡ passed l → All (λ obu. (h : Header) × (header_of obu ≡ passed h))
    (obus_in s)
unfolding read_unit
headers_read s l e =
    let a = passed_so _ _ l e in
    let b = passed_so _ _ l a.2 in
    let c = passed_so _ _ l b.2 in
    let turns = passed_after (in_turn tsobu_refusal 0 (payloads s)) _ l c.2 in
    all_headers (payloads s) (turns_passed tsobu_refusal 0 (payloads s) turns.0)
