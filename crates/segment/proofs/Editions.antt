-- The check in the edition of a number: 44, then 20, then the packets of the segment in the known edition. Assumes nothing.
use Rattle.descriptor.specs.declared.edition.Edition.{Edition as EditionName}
use Rattle.std.specs.Prelude.{Result, Err}
use Prim.Native.Nat.{ℕ}
use mathlib.Core.Bool.{Bool, true, false}
use mathlib.Core.Path.{◌≡◌, refl, sym, ap, ◌∙◌}
use mathlib.Core.List.{List}
use Rattle.lists.specs.Lists.{Bytes, zeros, pick}
use Rattle.refusal.specs.declared.Refusal.TheVariants as refusals
use Rattle.refusal.specs.Verdict.{Verdict, passed, refused, ◌>>=◌, ◌>>◌, given}
use Rattle.refusal.specs.Number.{refused_by, says}
use Rattle.refusal.specs.declared.Refused.{Refused}
use Rattle.refusal.proofs.Verdicts.{never, passed_same, refuse, pass_on, same_refusal}
use Rattle.descriptor.specs.Edition.{Edition, edition_of}
use Rattle.descriptor.specs.Naming.{named_says}
use Rattle.pmt.specs.Answer.{no_map}
use Rattle.segment_rules.specs.Rules.{Rooms}
use Rattle.segment_rules.specs.Check.{Accepted, Outputs, segment_length_wrong, rule20, check_segment, check_in, rooms_of, cleared}
use Rattle.segment_rules.specs.Check.{outputs_after, firsts_after}
use Rattle.segment.specs.Answer.{Checked, ChecksIn, summarised, map_after, map_in}
use Rattle.segment.specs.Parts.{asked_in, in_order, ChecksInOrder}
use Rattle.segment.proofs.Ending.{refused_beside}

-- ---- 44, then 20
module _ (n : ℕ) (s : Bytes) where
  abbrev measured : Verdict Edition → Verdict Edition
  measured v = v >>= λ edition. rule20 s >> passed edition

  pub asked_unknown : (a : Result EditionName Refused) (q : Refused) → a ≡ Err q → named_says a ≡ edition_of n → named_says a ≡ asked_in n s
  unfolding asked_in ◌>>=◌
  asked_unknown a q e h = ap named_says e ∙ ap measured (sym (ap named_says e) ∙ h)

  pub asked_wrong : (a : Result EditionName Refused) (e : Edition) → named_says a ≡ passed e → named_says a ≡ edition_of n
      → segment_length_wrong s ≡ true
      → (q : Refused) → q ≡ record { why = refusals.SegmentLength; place = 0 } → refused_by q ≡ asked_in n s
  unfolding asked_in ◌>>=◌
  asked_wrong a e k h wrong q f = ap (λ (x : Refused). refused_by x) f ∙ refuse 20 (passed e) wrong ∙ ap measured (sym k ∙ h)

  pub asked_right : (a : Result EditionName Refused) (e : Edition) → named_says a ≡ passed e → named_says a ≡ edition_of n
      → segment_length_wrong s ≡ false
      → named_says a ≡ asked_in n s
  unfolding asked_in ◌>>=◌
  asked_right a e k h right = k ∙ pass_on 20 right refl ∙ ap measured (sym k ∙ h)

-- what an answer that is no refusal says
known : (v : Verdict Edition) (b : Bool) (e : Edition) → passed e ≡ (v >>= λ x. given 20 b >> passed x) → (v ≡ passed e) × (b ≡ false)
unfolding ◌>>=◌ ◌>>◌ given pick
known (passed x) true e h = never (sym h)
known (passed x) false e h = (ap passed (sym (passed_same e x h)), refl)
known (refused m i) b e h = never (sym h)

-- and one that is
unknown : (v : Verdict Edition) (b : Bool) (m i : ℕ) → refused m i ≡ (v >>= λ x. given 20 b >> passed x)
    → (k : Edition → Verdict Accepted) → refused m i ≡ (v >>= λ x. given 20 b >> k x)
unfolding ◌>>=◌ ◌>>◌ given pick
unknown (passed x) true m i h k = same_refusal m i 20 0 h
unknown (passed x) false m i h k = never h
unknown (refused n j) b m i h k = same_refusal m i n j h

no_map_in : (x : Edition) (rooms : Rooms) (s : Bytes) (m i : ℕ) (b : Bool) → segment_length_wrong s ≡ b
    → refused m i ≡ (given 20 b >> passed x) → no_map ≡ map_after x (check_segment x rooms s)
unfolding map_after check_segment ◌>>◌ given pick
no_map_in x rooms s m i true w h = ap (map_after x) (refuse 20 _ w)
no_map_in x rooms s m i false w h = never h

no_map_lem : (v : Verdict Edition) (rooms : Rooms) (s : Bytes) (m i : ℕ) → refused m i ≡ (v >>= λ x. rule20 s >> passed x)
    → no_map ≡ map_in v rooms s
unfolding map_in ◌>>=◌
no_map_lem (passed x) rooms s m i h = no_map_in x rooms s m i (segment_length_wrong s) refl h
no_map_lem (refused n j) rooms s m i h = refl

-- ---- the check
pub known_checks : (n : ℕ) (edition : Edition) (s : Bytes) → passed edition ≡ asked_in n s
    → (before : Outputs) (old : List ℕ) (r : Checked) (after : Outputs) (firsts : List ℕ)
    → ChecksInOrder edition s before old r after firsts → ChecksIn n s before old r after firsts
unfolding asked_in in_order check_in check_segment map_in ◌>>=◌
known_checks n edition s asked before old r after firsts c =
    let rooms = rooms_of before in
    let k = known (edition_of n) (segment_length_wrong s) edition asked in
    let right : in_order edition rooms s ≡ check_segment edition rooms s = pass_on 20 k.1 refl in
    let same : in_order edition rooms s ≡ check_in n rooms s =
    right ∙ ap (λ (v : Verdict Edition). v >>= λ e. check_segment e rooms s) (sym k.0) in
    record {
      answers = c.answers ∙ ap summarised same;
      beside = c.beside ∙ ap (map_after edition) right ∙ ap (λ (v : Verdict Edition). map_in v rooms s) (sym k.0);
      leaves = c.leaves ∙ ap (λ (v : Verdict Accepted). outputs_after v before) same;
      began = c.began ∙ ap (λ (v : Verdict Accepted). firsts_after v old) same;
    }

pub refused_checks : (n : ℕ) (q : Refused) (s : Bytes) → refused_by q ≡ asked_in n s
    → (before : Outputs) (old : List ℕ) (r : Checked) → r ≡ refused_beside q
    → (after : Outputs) → after ≡ cleared before → (firsts : List ℕ) → firsts ≡ zeros old → ChecksIn n s before old r after firsts
unfolding asked_in check_in check_segment summarised outputs_after firsts_after ◌>>=◌
refused_checks n q s asked before old r f after left firsts zeroed =
    let rooms = rooms_of before in
    let same : refused_by q ≡ check_in n rooms s = unknown (edition_of n) (segment_length_wrong s) _ _ asked _ in
    record {
      answers = ap (λ (x : Checked). says x.answer) f ∙ ap summarised same;
      beside = ap (λ (x : Checked). x.map) f ∙ no_map_lem (edition_of n) rooms s _ _ asked;
      leaves = left ∙ ap (λ (v : Verdict Accepted). outputs_after v before) same;
      began = zeroed ∙ ap (λ (v : Verdict Accepted). firsts_after v old) same;
    }
