-- Start codes and payloads of any string, and of legal payloads each behind its start code. Assumes nothing.
use Prim.Native.Nat.{ℕ, suc, ◌+◌}
use mathlib.Core.Bool.{true, false, not, ◌&&◌, and-false}
use mathlib.Core.Path.{◌≡◌, refl, ap, ap₂, ◌∙◌}
use mathlib.Core.List.{List, [], ◌∷◌, ◌++◌, append-nil}
use native.Mathlib.Omega.{arith}
use borrow.Author.Tests.{eqb-true, not-true}
use lib.Dec.{eqb}
use lib.ListN.{length}
use Rattle.emulation.specs.Payload.{legal, forbidden}
use Rattle.lists.specs.Lists.{Bytes}
use Rattle.lists.proofs.Tests.{case, chosen_true, chosen_false, and_both, clash}
use Rattle.refusal.proofs.Verdicts.{All}
use Rattle.tsobu.specs.StartCodes.{start_code3, at_start_code, start_codes_from, start_codes, Split, opened, byte_before, split, payloads}

pub code_is : (a b c : ℕ) → start_code3 a b c ≡ true → (a ≡ 0) × (b ≡ 0) × (c ≡ 1)
code_is a b c e =
    let h = and_both (eqb a 0 && eqb b 0) (eqb c 1) e in
    let k = and_both (eqb a 0) (eqb b 0) h.0 in
    (eqb-true a 0 k.0, eqb-true b 0 k.1, eqb-true c 1 h.1)

-- ---- one step of `split`
pub split_code : (a b c : ℕ) (s : Bytes) → start_code3 a b c ≡ true → split (a ∷ b ∷ c ∷ s) ≡ opened (split s)
unfolding split
split_code a b c s e = chosen_true (opened (split s)) (byte_before a (split (b ∷ c ∷ s))) e

pub split_byte : (a : ℕ) (s : Bytes) → at_start_code (a ∷ s) ≡ false → split (a ∷ s) ≡ byte_before a (split s)
unfolding split at_start_code
split_byte a [] e = refl
split_byte a (b ∷ []) e = refl
split_byte a (b ∷ c ∷ s) e = chosen_false (opened (split s)) (byte_before a (split (b ∷ c ∷ s))) e

-- ---- any string is what comes before the first start code, and then the payloads, each behind a start code
unfoldable pub joined : List Bytes → Bytes
joined [] = []
joined (p ∷ ps) = 0 ∷ 0 ∷ 1 ∷ p ++ joined ps

abbrev again : Split → Bytes
again r = r.before ++ joined r.payloads

again_byte : (a : ℕ) (s : Bytes) (r r' : Split) → r ≡ byte_before a r' → s ≡ again r' → a ∷ s ≡ again r
again_byte a s r r' e h = rw e (ap (λ (l : Bytes). a ∷ l) h)

again_code : (a b c : ℕ) (s : Bytes) (r r' : Split) → start_code3 a b c ≡ true → r ≡ opened r' → s ≡ again r' → a ∷ b ∷ c ∷ s ≡ again r
unfolding joined
again_code a b c s r r' k e h =
    let z = code_is a b c k in
    rw (e, z.0, z.1, z.2) (ap (λ (l : Bytes). 0 ∷ 0 ∷ 1 ∷ l) h)

pub split_whole : (s : Bytes) → s ≡ (split s).before ++ joined (payloads s)
unfolding split joined
split_whole [] = refl
split_whole (a ∷ []) = refl
split_whole (a ∷ b ∷ []) = refl
split_whole (a ∷ b ∷ c ∷ s) =
    case (start_code3 a b c)
    (λ e. again_code a b c s (split (a ∷ b ∷ c ∷ s)) (split s) e (split_code a b c s e) (split_whole s))
    (λ e.
    again_byte a (b ∷ c ∷ s) (split (a ∷ b ∷ c ∷ s)) (split (b ∷ c ∷ s)) (split_byte a (b ∷ c ∷ s) (unfold at_start_code in e))
    (split_whole (b ∷ c ∷ s)))

-- a string with a start code at its head has nothing before it
pub at_code : (s : Bytes) → at_start_code s ≡ true → (split s).before ≡ []
unfolding at_start_code
at_code [] e = clash e refl
at_code (a ∷ []) e = clash e refl
at_code (a ∷ b ∷ []) e = clash e refl
at_code (a ∷ b ∷ c ∷ s) e = ap (λ (r : Split). r.before) (split_code a b c s e)

pub from_code : (s : Bytes) → at_start_code s ≡ true → s ≡ joined (payloads s)
from_code s e = split_whole s ∙ ap (λ (l : Bytes). l ++ joined (payloads s)) (at_code s e)

-- ---- no start code begins inside a legal payload, or across its end
forbidden_code : (a b c : ℕ) (s : Bytes) → start_code3 a b c ≡ true → forbidden (a ∷ b ∷ c ∷ s) ≡ true
unfolding forbidden
forbidden_code a b c s e = let z = code_is a b c e in rw (z.0, z.1, z.2)

no_code : (a : ℕ) (p : Bytes) (ps : List Bytes) → forbidden (a ∷ p) ≡ false → at_start_code (a ∷ p ++ joined ps) ≡ false
unfolding at_start_code joined
no_code a [] [] h = refl
no_code a [] (q ∷ ps) h = and-false (eqb a 0 && true)
no_code a (b ∷ []) [] h = refl
no_code a (b ∷ []) (q ∷ ps) h = and-false (eqb a 0 && eqb b 0)
no_code a (b ∷ c ∷ p) ps h =
    case (start_code3 a b c) (λ e. clash (forbidden_code a b c p e) h) (λ e. e)

legal_step : (a : ℕ) (p : Bytes) → legal (a ∷ p) ≡ true → (forbidden (a ∷ p) ≡ false) × (legal p ≡ true)
unfolding legal
legal_step a p e =
    let h = and_both (not (forbidden (a ∷ p))) (legal p) e in
    (not-true (forbidden (a ∷ p)) h.0, h.1)

split_payload : (p : Bytes) (ps : List Bytes) (r : Split) → legal p ≡ true → split (joined ps) ≡ r
    → split (p ++ joined ps) ≡ record { before = p ++ r.before; payloads = r.payloads }
split_payload [] ps r h e = e
split_payload (a ∷ p) ps r h e =
    let k = legal_step a p h in
    split_byte a (p ++ joined ps) (no_code a p ps k.0) ∙ ap (byte_before a) (split_payload p ps r k.1 e)

abbrev pub parts : Bytes → List Bytes → Split
parts before payloads = record { before = before; payloads = payloads }

-- legal payloads come back out of their string
pub split_joined : (ps : List Bytes) → All (λ p. legal p ≡ true) ps → split (joined ps) ≡ parts [] ps
unfolding joined
split_joined [] h = unfold split in refl
split_joined (p ∷ ps) h =
    split_code 0 0 1 (p ++ joined ps) refl
    ∙ ap opened (split_payload p ps (parts [] ps) h.0 (split_joined ps h.1))
    ∙ ap (λ (q : Bytes). parts [] (q ∷ ps)) (append-nil p)

-- ---- where the start codes stand: the first payload's at `place`, each other 3 and the payload's length further on
unfoldable pub starts : ℕ → List Bytes → List ℕ
starts place [] = []
starts place (p ∷ ps) = place ∷ starts (place + 3 + length p) ps

pub codes_yes : (place a : ℕ) (s : Bytes) → at_start_code (a ∷ s) ≡ true → start_codes_from place (a ∷ s) ≡ place ∷ start_codes_from
    (suc place) s
unfolding start_codes_from
codes_yes place a s e = rw (e, start_codes_from)

pub codes_no : (place a : ℕ) (s : Bytes) → at_start_code (a ∷ s) ≡ false → start_codes_from place (a ∷ s) ≡ start_codes_from (suc place) s
unfolding start_codes_from
codes_no place a s e = rw (e, start_codes_from)

pub second_no : (s : Bytes) → at_start_code (0 ∷ 1 ∷ s) ≡ false
unfolding at_start_code
second_no [] = refl
second_no (b ∷ s) = refl

pub third_no : (s : Bytes) → at_start_code (1 ∷ s) ≡ false
unfolding at_start_code
third_no [] = refl
third_no (a ∷ []) = refl
third_no (a ∷ b ∷ s) = refl

-- past a start code
codes_code : (place : ℕ) (s : Bytes) → start_codes_from place (0 ∷ 0 ∷ 1 ∷ s) ≡ place ∷ start_codes_from (place + 3) s
codes_code place s =
    let e : suc (suc (suc place)) ≡ place + 3 = omega arith in
    codes_yes place 0 (0 ∷ 1 ∷ s) (unfold at_start_code in refl)
    ∙ ap (λ (l : List ℕ). place ∷ l)
    (codes_no (suc place) 0 (1 ∷ s) (second_no s) ∙ codes_no (suc (suc place)) 1 s (third_no s) ∙ ap (λ (n : ℕ). start_codes_from n s) e)

abbrev Starts : ℕ → Bytes → Split → Type 0
Starts place s r = start_codes_from place s ≡ starts (place + length r.before) r.payloads

starts_byte : (place a : ℕ) (s : Bytes) (r r' : Split) → at_start_code (a ∷ s) ≡ false → r ≡ byte_before a r' → Starts (suc place) s r'
    → Starts place (a ∷ s) r
starts_byte place a s r r' k e h =
    let n : suc place + length r'.before ≡ place + suc (length r'.before) = omega arith in
    codes_no place a s k ∙ h ∙ rw e (ap (λ (m : ℕ). starts m r'.payloads) n)

starts_code : (place a b c : ℕ) (s : Bytes) (r r' : Split) → start_code3 a b c ≡ true → r ≡ opened r' → Starts (place + 3) s r'
    → Starts place (a ∷ b ∷ c ∷ s) r
unfolding starts
starts_code place a b c s r r' k e h =
    let z = code_is a b c k in
    let n : place ≡ place + 0 = omega arith in
    let m : place + 3 + length r'.before ≡ place + 0 + 3 + length r'.before = omega arith in
    rw (e, z.0, z.1, z.2) (codes_code place s ∙ ap₂ (λ (x : ℕ) (l : List ℕ). x ∷ l) n (h ∙ ap (λ (x : ℕ). starts x r'.payloads) m))

codes_starts : (place : ℕ) (s : Bytes) → Starts place s (split s)
unfolding split starts
codes_starts place [] = unfold start_codes_from in refl
codes_starts place (a ∷ []) =
    starts_byte place a [] (split (a ∷ [])) (split []) (unfold at_start_code in refl) refl (unfold start_codes_from in refl)
codes_starts place (a ∷ b ∷ []) =
    starts_byte place a (b ∷ []) (split (a ∷ b ∷ [])) (split (b ∷ [])) (unfold at_start_code in refl) refl
    (starts_byte (suc place) b [] (split (b ∷ [])) (split []) (unfold at_start_code in refl) refl (unfold start_codes_from in refl))
codes_starts place (a ∷ b ∷ c ∷ s) =
    case (start_code3 a b c)
    (λ e. starts_code place a b c s (split (a ∷ b ∷ c ∷ s)) (split s) e (split_code a b c s e) (codes_starts (place + 3) s))
    (λ e.
    let none : at_start_code (a ∷ b ∷ c ∷ s) ≡ false = unfold at_start_code in e in
    starts_byte place a (b ∷ c ∷ s) (split (a ∷ b ∷ c ∷ s)) (split (b ∷ c ∷ s)) none (split_byte a (b ∷ c ∷ s) none)
    (codes_starts (suc place) (b ∷ c ∷ s)))

-- of any string: the first start code stands behind what comes before it, each other behind the payload before it
pub start_codes_lem : (s : Bytes) → start_codes s ≡ starts (length (split s).before) (payloads s)
start_codes_lem s =
    let e : 0 + length (split s).before ≡ length (split s).before = omega arith in
    codes_starts 0 s ∙ ap (λ (n : ℕ). starts n (payloads s)) e

count_starts : (place : ℕ) (ps : List Bytes) → length (starts place ps) ≡ length ps
unfolding starts
count_starts place [] = refl
count_starts place (p ∷ ps) = ap suc (count_starts (place + 3 + length p) ps)

-- there are as many payloads as start codes, whatever the first byte's place is
pub count_codes : (place : ℕ) (s : Bytes) → length (start_codes_from place s) ≡ length (payloads s)
count_codes place s = ap length (codes_starts place s) ∙ count_starts (place + length (split s).before) (payloads s)
