-- Writing, by what the check says: its refusal is passed on and the sheet stays; of an accepted segment, what the check handed out has the
-- segment's content, so that what is put is the segment's sheet. Assumes nothing.
use Prim.Native.Nat.{ℕ}
use mathlib.Core.Bool.{Bool, true, false}
use mathlib.Core.Path.{◌≡◌, refl, sym, ap, ◌∙◌}
use mathlib.Core.List.{List, ◌++◌}
use native.Mathlib.Omega.{arith}
use lib.Dec.{ltb}
use lib.ListN.{length, drop, length-map}
use lib.Seq.{take_all}
use Rattle.lists.specs.Lists.{Bytes, over, pick}
use Rattle.refusal.specs.Verdict.{Verdict, passed, refused, ◌>>=◌, ◌>>◌, given, leaves}
use Rattle.refusal.specs.Number.{refused_by}
use Rattle.refusal.specs.declared.Refused.{Refused}
use Rattle.refusal.proofs.Verdicts.{never, passed_same, passed_then, go_on, same_refusal}
use Rattle.descriptor.specs.Edition.{Edition, edition_of}
use Rattle.pmt.specs.Answer.{map_of}
use Rattle.pmt.specs.declared.section.ProgramMap.{ProgramMap}
use Rattle.segment_rules.specs.State.{AccessUnit}
use Rattle.segment_rules.specs.Rules.{Rooms, carried_units}
use Rattle.segment_rules.specs.Check.{Accepted, Outputs, rooms_of, check_in, check_segment, lengths, times_in_turn, outputs_after}
use Rattle.segment_rules.specs.Check.{first_packets, firsts_after}
use Rattle.segment_rules.proofs.Fitting.{accepted_fits}
use Rattle.segment.specs.Answer.{summary_of, summarised, checking, map_after, map_in, map_checked}
use Rattle.segment.specs.declared.checking.Summary.{Summary}
use Rattle.sheet.specs.Sheet.{Content, sheet_of}
use Rattle.segment_sheet.specs.Content.{content_of, sheet_writing, sheet_after}
use Rattle.segment_sheet.specs.Parts.{content_in, HandedOut, putting}
use Rattle.segment_sheet.proofs.Handed.{handed_content, handed_out}
use Rattle.segment_sheet.proofs.Theorems.{in_edition}

-- ---- the check refused
module _ (r : Refused) where
  refused_by_lem : (v : Verdict Accepted) (f : Accepted → Verdict ℕ) → refused_by r ≡ summarised v → refused_by r ≡ (v >>= f)
  unfolding summarised ◌>>=◌
  refused_by_lem (passed a) f e = never e
  refused_by_lem (refused number place) f e = same_refusal {A = Summary} _ _ number place e

  pub refused_writes : (n : ℕ) (rooms : Rooms) (s : Bytes) (room : ℕ) → refused_by r ≡ checking n rooms s
      → refused_by r ≡ sheet_writing n rooms s room
  unfolding sheet_writing
  refused_writes n rooms s room e = refused_by_lem (check_in n rooms s) _ e

  pub refused_stays : (v : Verdict Accepted) (sheet : Bytes) → refused_by r ≡ summarised v → sheet ≡ sheet_after v sheet
  unfolding summarised ◌>>=◌ sheet_after
  refused_stays (passed a) sheet e = never e
  refused_stays (refused number place) sheet e = refl

-- ---- it accepted
-- what is left in the sheet
sheet_left : (c : Content) (sheet : Bytes) → leaves (putting c (length sheet)) (sheet_of c) sheet
    ≡ pick (ltb (length sheet) (length (sheet_of c))) sheet (over (sheet_of c) sheet)
unfolding leaves putting given pick ◌>>◌
sheet_left c sheet = go (ltb (length sheet) (length (sheet_of c)))
  where
    go : (b : Bool) → leaves (given 8 b >> passed (length (sheet_of c))) (sheet_of c) sheet ≡ pick b sheet (over (sheet_of c) sheet)
    go true = refl
    go false = refl

module _ (n : ℕ) (s : Bytes) (before : Outputs) (firsts₀ : List ℕ) (long : length firsts₀ ≡ 1024) (x : Summary) (m : ProgramMap)
    (after : Outputs) (firsts : List ℕ) (ex : passed x ≡ checking n (rooms_of before) s) (em : m ≡ map_checked n (rooms_of before) s)
    (eo : after ≡ outputs_after (check_in n (rooms_of before) s) before)
    (ef : firsts ≡ firsts_after (check_in n (rooms_of before) s) firsts₀) where
  abbrev rooms : Rooms
  rooms = rooms_of before

  found : (a : Accepted) × (check_in n rooms s ≡ passed a) × (passed (summary_of a) ≡ passed x)
  unfolding summarised
  found = passed_then (check_in n rooms s) (λ a. passed (summary_of a)) x (sym ex)

  abbrev a : Accepted
  a = found.0

  abbrev units : List AccessUnit
  units = a.units

  named : (edition : Edition) × (edition_of n ≡ passed edition) × (check_segment edition rooms s ≡ passed a)
  named = in_edition n rooms s a found.1

  map_is : m ≡ map_of named.0 a.map
  unfolding map_in map_after
  map_is = em ∙ ap (λ (v : Verdict Edition). map_in v rooms s) named.1 ∙ ap (map_after named.0) named.2

  count_is : x.units ≡ length units
  count_is = ap (λ (y : Summary). y.units) (sym (passed_same (summary_of a) x found.2))

  after_is : after ≡ outputs_after (passed a) before
  after_is = eo ∙ ap (λ (v : Verdict Accepted). outputs_after v before) found.1

  bytes_are : after.bytes ≡ carried_units units ++ drop (length (carried_units units)) before.bytes
  unfolding outputs_after
  bytes_are = ap (λ (o : Outputs). o.bytes) after_is

  lens_are : after.lens ≡ lengths units ++ drop (length (lengths units)) before.lens
  unfolding outputs_after
  lens_are = ap (λ (o : Outputs). o.lens) after_is

  times_are : after.times ≡ times_in_turn units ++ drop (length (times_in_turn units)) before.times
  unfolding outputs_after
  times_are = ap (λ (o : Outputs). o.times) after_is

  firsts_are : firsts ≡ first_packets units ++ drop (length (first_packets units)) firsts₀
  unfolding firsts_after
  firsts_are =
      let few = (accepted_fits named.0 rooms s a named.2).few in
      ef ∙ ap (λ (v : Verdict Accepted). firsts_after v firsts₀) found.1
      ∙ ap (λ (w : List ℕ). over w firsts₀)
      (take_all (length firsts₀) (first_packets units) (omega (arith, long, few, length-map units (λ u. u.first))))

  abbrev content : Content
  content = content_in m x.units firsts after.lens after.times after.bytes

  pub ready : HandedOut m x.units firsts after.lens after.times after.bytes
  ready =
      handed_out named.0 rooms s a named.2 m x.units firsts after.lens after.times after.bytes _ _ _ _ map_is count_is
      firsts_are
      lens_are times_are bytes_are

  content_is : content ≡ content_of a
  content_is =
      handed_content named.0 rooms s a named.2 m x.units firsts after.lens after.times after.bytes _ _ _ _ map_is
      count_is
      firsts_are lens_are times_are bytes_are

  pub accepted_writes : (v : Verdict ℕ) (room : ℕ) → v ≡ putting content room → v ≡ sheet_writing n rooms s room
  unfolding sheet_writing putting
  accepted_writes v room e = go_on a _ found.1 (e ∙ ap (λ (c : Content). putting c room) content_is)

  pub accepted_leaves : (v : Verdict ℕ) (sheet sheet' : Bytes) → v ≡ putting content (length sheet)
      → sheet' ≡ leaves v (sheet_of content) sheet → sheet' ≡ sheet_after (check_in n rooms s) sheet
  unfolding sheet_after
  accepted_leaves v sheet sheet' e f =
      f ∙ ap (λ (w : Verdict ℕ). leaves w (sheet_of content) sheet) e
      ∙ ap (λ (c : Content). leaves (putting c (length sheet)) (sheet_of c) sheet) content_is
      ∙ sheet_left (content_of a) sheet
      ∙ ap (λ (w : Verdict Accepted). sheet_after w sheet) (sym found.1)
