-- 2026-04: what the check's outputs hold, cut by the lengths, are the accepted units, and the four bytes of the map are those of the video
-- descriptor; the sequence headers before the frames are all of them; so the comparison of these is the one of the definition. Assumes
-- nothing.
use Rattle.std.specs.Prelude.{Option, None}
use Prim.Native.Nat.{ℕ}
use mathlib.Core.Path.{◌≡◌, refl, sym, ap, ap₂, ◌∙◌}
use mathlib.Core.List.{List, [], ◌∷◌, ◌++◌, map, flatten, append_assoc}
use lib.ListN.{length, take, drop, length-map}
use lib.Seq.{take_at, drop_at}
use Rattle.lists.specs.Lists.{Bytes, over}
use Rattle.refusal.specs.declared.Refused.{Refused}
use Rattle.refusal.specs.Verdict.{Verdict, passed, refused, ◌>>=◌}
use Rattle.refusal.specs.Number.{refused_by}
use Rattle.refusal.proofs.Verdicts.{All, never, passed_same}
use Rattle.unit.specs.Unit.{read_unit, obus_of}
use Rattle.descriptor.specs.Descriptor.{fields_of}
use Rattle.descriptor.specs.Edition.{Edition, edition_of}
use Rattle.comparison.specs.declared.Disagreement.{Disagreement}
use Rattle.comparison.specs.Comparison.{sequence_headers, headers_before_frame, first_from}
use Rattle.comparison.proofs.Frames.{all_before_frame}
use Rattle.pmt.specs.Pmt.{video_descriptors}
use Rattle.pmt.specs.Answer.{video_of}
use Rattle.pmt.specs.declared.section.ProgramMap.{ProgramMap}
use Rattle.segment_rules.specs.State.{AccessUnit}
use Rattle.segment_rules.specs.Rules.{Rooms, carried_units}
use Rattle.segment_rules.specs.Check.{Accepted, Outputs, check_segment, check_in, lengths, outputs_after}
use Rattle.segment_rules.proofs.Accepting.{units_accepted}
use Rattle.segment_rules.specs.Comparison.{Answered, compared_with, compared, check_compared}
use Rattle.segment.specs.declared.checking.Summary.{Summary}
use Rattle.segment.specs.Answer.{summary_of, summarised, checking, map_after, map_in, map_checked, disagreement_of}
use Rattle.segment.specs.Parts.{disagreeing}

-- ---- strings back to back, cut by their lengths
cut : (l : List Bytes) (rest : Bytes) → obus_of (map length l) (flatten l ++ rest) ≡ l
unfolding obus_of flatten
cut [] rest = refl
cut (s ∷ l) rest =
    let a : flatten (s ∷ l) ++ rest ≡ s ++ (flatten l ++ rest) = append_assoc s (flatten l) rest in
    ap (λ (w : Bytes). take (length s) w ∷ obus_of (map length l) (drop (length s) w)) a
    ∙ ap₂ (λ (p q : Bytes). p ∷ obus_of (map length l) q) (take_at s (flatten l ++ rest) (length s) refl)
    (drop_at s (flatten l ++ rest) (length s) refl)
    ∙ ap (λ (m : List Bytes). s ∷ m) (cut l rest)

lengths_of : (us : List AccessUnit) → lengths us ≡ map length (map (λ u. u.carried) us)
lengths_of [] = refl
lengths_of (u ∷ us) = ap (λ (l : List ℕ). length u.carried ∷ l) (lengths_of us)

-- the units, from the outputs that hold them
from_outputs : (us : List AccessUnit) (bytes lens : List ℕ) (n : ℕ) → n ≡ length us
    → obus_of (take n (over (lengths us) lens)) (over (carried_units us) bytes) ≡ map (λ u. u.carried) us
from_outputs us bytes lens n e =
    let count : length (lengths us) ≡ n = length-map us (λ u. length u.carried) ∙ sym e in
    ap (λ (l : List ℕ). obus_of l (over (carried_units us) bytes))
    (take_at (lengths us) (drop (length (lengths us)) lens) n count ∙ lengths_of us)
    ∙ cut (map (λ u. u.carried) us) _

-- ---- the sequence headers: in units that reading accepts all stand before the frame
abbrev Read : AccessUnit → Type 0
Read u = (l : List Bytes) × (read_unit u.carried ≡ passed l)

same_headers : (us : List AccessUnit) → All Read us
    → map headers_before_frame (map (λ u. u.carried) us) ≡ map sequence_headers (map (λ u. u.carried) us)
same_headers [] h = refl
same_headers (u ∷ us) h =
    ap₂ (λ (x : List Bytes) (xs : List (List Bytes)). x ∷ xs) (all_before_frame u.carried h.0.0 h.0.1) (same_headers us h.1)

-- ---- the four bytes
video_compared : (ds : List Bytes) (us : List AccessUnit) → All Read us
    → disagreeing (video_of ds) (map (λ u. u.carried) us) ≡ compared_with ds us
unfolding disagreeing video_of compared_with fields_of
video_compared [] us h = refl
video_compared (d ∷ ds) us h = ap (first_from 0 _) (same_headers us h)

-- ---- the answer
abbrev beside : Edition → Verdict Accepted → Verdict Answered
beside edition w = w >>= λ a. passed (record { accepted = a; disagreement = compared edition a.map a.units })

module _ (rooms : Rooms) (s : Bytes) where
  abbrev checks : Verdict Edition → Verdict Accepted
  checks v = v >>= λ edition. check_segment edition rooms s

  abbrev answers : Verdict Edition → Verdict Answered
  answers v = v >>= λ edition. beside edition (check_segment edition rooms s)

  -- a refused segment
  refused_beside : (edition : Edition) (number place : ℕ) (w : Verdict Accepted) → refused number place ≡ summarised w
      → None ≡ disagreement_of (beside edition w)
  unfolding summarised ◌>>=◌
  refused_beside edition number place (passed a) e = never e
  refused_beside edition number place (refused m i) e = refl

  refused_in : (number place : ℕ) (v : Verdict Edition) → refused number place ≡ summarised (checks v) → None ≡ disagreement_of (answers v)
  unfolding ◌>>=◌
  refused_in number place (passed edition) e = refused_beside edition number place (check_segment edition rooms s) e
  refused_in number place (refused m i) e = refl

  pub none_refused : (n : ℕ) (r : Refused) → refused_by r ≡ checking n rooms s → None ≡ disagreement_of (check_compared n rooms s)
  unfolding check_in check_compared
  none_refused n r e = refused_in _ _ (edition_of n) e

  -- an accepted one, whose map is m, and which has left these outputs
  module _ (summary : Summary) (m : ProgramMap) (before now : Outputs) where
    abbrev found : Option Disagreement
    found = disagreeing m.video (obus_of (take summary.units now.lens) now.bytes)

    accepted_beside : (edition : Edition) (w : Verdict Accepted) → check_segment edition rooms s ≡ w → passed summary ≡ summarised w
        → m ≡ map_after edition w
        → now ≡ outputs_after w before
        → found ≡ disagreement_of (beside edition w)
    unfolding summarised ◌>>=◌ map_after outputs_after
    accepted_beside edition (passed a) k e f g =
        let count : summary.units ≡ length a.units = ap (λ (x : Summary). x.units) (passed_same summary (summary_of a) e) in
        ap₂ (λ (x : Option Bytes) (o : Outputs). disagreeing x (obus_of (take summary.units o.lens) o.bytes))
        (ap (λ (x : ProgramMap). x.video) f) g
        ∙ ap (disagreeing (video_of (video_descriptors edition a.map.av1.descriptors)))
        (from_outputs a.units before.bytes before.lens summary.units count)
        ∙ video_compared (video_descriptors edition a.map.av1.descriptors) a.units (units_accepted edition rooms s a k)
    accepted_beside edition (refused number place) k e f g = never (sym e)

    accepted_in : (v : Verdict Edition) → passed summary ≡ summarised (checks v) → m ≡ map_in v rooms s
        → now ≡ outputs_after (checks v) before
        → found ≡ disagreement_of (answers v)
    unfolding summarised ◌>>=◌ map_in
    accepted_in (passed edition) e f g = accepted_beside edition (check_segment edition rooms s) refl e f g
    accepted_in (refused number place) e f g = never (sym e)

    pub found_accepted : (n : ℕ) → passed summary ≡ checking n rooms s → m ≡ map_checked n rooms s
        → now ≡ outputs_after (check_in n rooms s) before
        → found ≡ disagreement_of (check_compared n rooms s)
    unfolding check_in check_compared
    found_accepted n e f g = accepted_in (edition_of n) e f g
