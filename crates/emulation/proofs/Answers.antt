-- What a verdict on a payload says of it. Assumes nothing.
use Rattle.std.specs.Prelude.{Result, Ok, Err}
use Prim.Native.Nat.{ℕ, ◌-◌, ◌≤◌, ◌<◌}
use mathlib.Core.Bool.{true, false, not}
use mathlib.Core.Path.{◌≡◌, refl, sym, ap, ap₂, ◌∙◌}
use native.Mathlib.Omega.{arith}
use borrow.Author.Tests.{lt-ltb, le-ltb}
use lib.ListN.{length}
use Rattle.lists.specs.Lists.{Bytes}
use Rattle.lists.proofs.Tests.{case}
use Rattle.refusal.specs.declared.Refused.{Refused}
use Rattle.refusal.specs.Verdict.{passed, refused}
use Rattle.refusal.specs.Number.{number_of, refused_by, says}
use Rattle.refusal.proofs.Verdicts.{refuse, pass_on, refuse_at, pass_at, never, passed_same}
use Rattle.emulation.specs.Payload.{legal, first_forbidden, dropped, unescape}
use Rattle.emulation.specs.Answer.{most_unescaped, unescaping, judging}
use Rattle.emulation.proofs.Steps.{given_or_dropped}

pub judging_legal : (p : Bytes) → legal p ≡ true → judging p ≡ passed (dropped p)
unfolding judging
judging_legal p e = sym (pass_at (first_forbidden p) 10 (ap not e) refl)

pub judging_illegal : (p : Bytes) → legal p ≡ false → judging p ≡ refused 10 (first_forbidden p)
unfolding judging
judging_illegal p e = sym (refuse_at (first_forbidden p) 10 (passed (dropped p)) (ap not e))

pub legal_judged : (p : Bytes) (d : ℕ) → passed d ≡ judging p → (legal p ≡ true) × (d ≡ dropped p)
legal_judged p d e =
    case (legal p)
    (λ t. (t, passed_same d (dropped p) (e ∙ judging_legal p t)))
    (λ t. never (sym (e ∙ judging_illegal p t)))

pub illegal_judged : (p : Bytes) (number place : ℕ) → refused number place ≡ judging p
    → (legal p ≡ false) × (number ≡ 10) × (place ≡ first_forbidden p)
illegal_judged p number place e =
    case (legal p)
    (λ t. never (e ∙ judging_legal p t))
    (λ t. let h = e ∙ judging_illegal p t in (t, (cc), (cc)))

-- ---- unescaping, behind the judge's verdict
pub unescaping_illegal : (p : Bytes) (room : ℕ) (q : Result ℕ Refused) (r : Refused) → length p ≤ most_unescaped → says q ≡ judging p
    → q ≡ Err r
    → refused_by r ≡ unescaping p room
unfolding unescaping
unescaping_illegal p room q r h e k =
    let j = illegal_judged p (number_of r.why) r.place (sym (ap says k) ∙ e) in
    pass_on 2 (le-ltb most_unescaped (length p) h)
    (ap₂ (λ (n i : ℕ). refused n i) j.1 j.2 ∙ refuse_at (first_forbidden p) 10 _ (ap not j.0))

pub judged_legal : (p : Bytes) (q : Result ℕ Refused) (d : ℕ) → says q ≡ judging p → q ≡ Ok d → (legal p ≡ true) × (d ≡ dropped p)
judged_legal p q d e k = legal_judged p d (sym (ap says k) ∙ e)

pub judged_illegal : (p : Bytes) (q : Result ℕ Refused) (r : Refused) → says q ≡ judging p → q ≡ Err r → legal p ≡ false
judged_illegal p q r e k = (illegal_judged p (number_of r.why) r.place (sym (ap says k) ∙ e)).0

-- the length of what a legal payload unescapes to
pub left_after : (p : Bytes) (q : Result ℕ Refused) (d : ℕ) → says q ≡ judging p → q ≡ Ok d
    → (d ≤ length p) × (length p - d ≡ length (unescape p))
left_after p q d e k =
    let j = judged_legal p q d e k in
    (omega (arith, j.1, given_or_dropped p), omega (arith, j.1, given_or_dropped p))

pub unescaping_short : (p : Bytes) (room : ℕ) → length p ≤ most_unescaped → legal p ≡ true → room < length (unescape p)
    → refused 8 0 ≡ unescaping p room
unfolding unescaping
unescaping_short p room h l k =
    pass_on 2 (le-ltb most_unescaped (length p) h)
    (pass_at (first_forbidden p) 10 (ap not l) (refuse 8 _ (lt-ltb room (length (unescape p)) k)))

pub unescaping_fits : (p : Bytes) (room n d : ℕ) → length p ≤ most_unescaped → legal p ≡ true → length (unescape p) ≤ room
    → n ≡ length (unescape p) → d ≡ dropped p
    → passed (record { written = n; dropped = d }) ≡ unescaping p room
unfolding unescaping
unescaping_fits p room n d h l k e f =
    pass_on 2 (le-ltb most_unescaped (length p) h)
    (pass_at (first_forbidden p) 10 (ap not l)
    (pass_on 8 (le-ltb room (length (unescape p)) k) (ap₂ (λ (x y : ℕ). passed (record { written = x; dropped = y })) e f)))
