-- The text by the verdict on the unit, and listing by the text's length. Assumes nothing.
use Rattle.refusal.specs.declared.Refused.{Refused}
use Rattle.std.specs.Prelude.{Result, Ok}
use Rattle.refusal.specs.Number.{says}
use Prim.Native.Nat.{ℕ, ◌≤◌, ◌<◌}
use mathlib.Core.Path.{◌≡◌, sym, ap, ◌∙◌}
use mathlib.Core.List.{◌++◌}
use native.Mathlib.Omega.{arith}
use borrow.Author.Tests.{lt-ltb, le-ltb, ltb-false}
use lib.ListN.{length}
use Rattle.lists.specs.Lists.{Bytes}
use Rattle.refusal.specs.Verdict.{Verdict, passed, refused}
use Rattle.refusal.proofs.Verdicts.{refuse, pass_on, passed_after, passed_same, given_passed}
use Rattle.tsobu.specs.StartCodes.{payloads}
use Rattle.unit.specs.Answer.{checking}
use Rattle.unit.specs.declared.reading.Counts.{Counts}
use Rattle.listing.specs.Listing.{refusal_line, header_line, payload_lines, most_listed, judging_listed, text_saying, list_text, listing}

module _ (unit : Bytes) where
  text_saying_lem : (v : Verdict Counts) → v ≡ judging_listed unit → text_saying v (payloads unit) ≡ list_text unit
  unfolding list_text
  text_saying_lem v e = ap (λ (x : Verdict Counts). text_saying x (payloads unit)) e

  pub text_long : most_listed < length unit → refusal_line 2 0 ≡ list_text unit
  unfolding judging_listed
  text_long h = text_saying_lem (refused 2 0) (refuse 2 (checking unit) (lt-ltb most_listed (length unit) h))

  module _ (h : length unit ≤ most_listed) where
    judged : {v : Verdict Counts} → v ≡ checking unit → v ≡ judging_listed unit
    unfolding judging_listed
    judged e = pass_on 2 (le-ltb most_listed (length unit) h) e

    pub text_refused : (number place : ℕ) → refused number place ≡ checking unit → refusal_line number place ≡ list_text unit
    text_refused number place e = text_saying_lem (refused number place) (judged e)

    pub text_passed : (counts : Counts) → passed counts ≡ checking unit
        → header_line counts.obus counts.dropped ++ payload_lines 0 (payloads unit) ≡ list_text unit
    text_passed counts e = text_saying_lem (passed counts) (judged e)

  -- ---- listing
  module _ (room n : ℕ) (e : n ≡ length (list_text unit)) where
    pub list_short : room < n → refused 8 0 ≡ listing unit room
    unfolding listing
    list_short h = refuse 8 (passed (length (list_text unit))) (lt-ltb room (length (list_text unit)) (omega arith))

    pub list_fits : n ≤ room → passed n ≡ listing unit room
    unfolding listing
    list_fits h = pass_on 8 (le-ltb room (length (list_text unit)) (omega arith)) (ap passed e)

-- the answer that the text was written: it has room
pub listed_room : (unit : Bytes) (room n : ℕ) (q : Result ℕ Refused) → says q ≡ listing unit room → q ≡ Ok n → n ≤ room
unfolding listing
listed_room unit room n q e k =
    let h = passed_after _ _ n (sym e ∙ ap says k) in
    let fits = ltb-false room (length (list_text unit)) (given_passed 8 _ h.0) in
    omega (arith, passed_same _ n h.1)
