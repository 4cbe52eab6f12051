-- Late tuning: `late_tuning`. The start codes of a string with their payloads, and what is left of them from an offset on, by one
-- induction on the offset. Assumes nothing.
use Prim.Native.Nat.{ℕ, zero, suc, ◌+◌, ◌-◌, ◌≤◌}
use mathlib.Core.Bool.{Bool, true, false}
use mathlib.Core.Path.{◌≡◌, refl, sym, ap, subst, ◌∙◌}
use mathlib.Core.Logic.{◌⊎◌, inl, inr}
use mathlib.Core.List.{List, [], ◌∷◌, map}
use native.Mathlib.Omega.{arith}
use borrow.Author.Tests.{le-leb, lt-leb}
use lib.Dec.{leb}
use lib.ListN.{length, drop}
use Rattle.lists.specs.Lists.{Bytes, those}
use Rattle.lists.proofs.Tests.{case, apart}
use Rattle.lists.proofs.Elements.{those_first, those_others}
use Rattle.refusal.specs.Verdict.{passed}
use Rattle.refusal.proofs.Verdicts.{All, pass_on}
use Rattle.emulation.specs.Payload.{escape}
use Rattle.emulation.proofs.Theorems.{escape_legal, escape_longer}
use Rattle.obu.specs.Header.{obu_refusal}
use Rattle.tsobu.specs.StartCodes.{start_code3, at_start_code, Split, split, payloads}
use Rattle.unit.specs.Unit.{Accepted, carried}
use Rattle.tsobu.specs.Walk.{starting, end, Walks, fresh, ReaderWalks}
use Rattle.unit.specs.LateTuning.{Sent, sent_from, heard, WalkGives, TunesIn, LateTuning}
use Rattle.tsobu.proofs.Splits.{code_is, split_code, split_byte, second_no, third_no, starts, start_codes_lem}
use Rattle.unit.proofs.Carried.{split_carried}
use Rattle.tsobu.proofs.Places.{before, before_ends, before_rest, code_fits}
use Rattle.tsobu.proofs.Walks.{Fine, walk_from, walk_payloads}
use Rattle.tsobu.proofs.ByReader.{reader_says, reader_payloads}
use Rattle.unit.proofs.Theorem.{fits, obu_some}

-- ---- payloads with the places of their start codes
unfoldable pub placed : ℕ → List Bytes → List Sent
placed place [] = []
placed place (p ∷ ps) = record { place = place; payload = p } ∷ placed (place + 3 + length p) ps

-- those of a string, whose first byte has the place i
abbrev sent : ℕ → Bytes → List Sent
sent i s = placed (i + before s) (payloads s)

-- their places, counted from an offset
placed_places : (offset n : ℕ) (ps : List Bytes) → map (λ t. t.place - offset) (placed (offset + n) ps) ≡ starts n ps
unfolding placed starts
placed_places offset n [] = refl
placed_places offset n (p ∷ ps) =
    let e : offset + n + 3 + length p ≡ offset + (n + 3 + length p) = omega arith in
    let z : offset + n - offset ≡ n = omega arith in
    ap (λ (m : ℕ). m ∷ map (λ t. t.place - offset) (placed (offset + n + 3 + length p) ps)) z
    ∙ ap (λ (m : ℕ). n ∷ map (λ t. t.place - offset) (placed m ps)) e
    ∙ ap (λ (l : List ℕ). n ∷ l) (placed_places offset (n + 3 + length p) ps)

placed_payloads : (n : ℕ) (ps : List Bytes) → map (λ t. t.payload) (placed n ps) ≡ ps
unfolding placed
placed_payloads n [] = refl
placed_payloads n (p ∷ ps) = ap (λ (l : List Bytes). p ∷ l) (placed_payloads (n + 3 + length p) ps)

-- the writer's string holds what was sent
placed_sent : (n : ℕ) (l : List Bytes) → placed n (map escape l) ≡ sent_from n l
unfolding placed sent_from
placed_sent n [] = refl
placed_sent n (b ∷ l) =
    ap (λ (r : List Sent). record { place = n; payload = escape b } ∷ r) (placed_sent (n + 3 + length (escape b)) l)

sent_carried : (l : List Bytes) → sent 0 (carried l) ≡ sent_from 0 l
sent_carried l = ap (λ (r : Split). placed (0 + length r.before) r.payloads) (split_carried l) ∙ placed_sent 0 l

-- ---- one byte
at_byte : (i a : ℕ) (s : Bytes) → at_start_code (a ∷ s) ≡ false → sent i (a ∷ s) ≡ sent (suc i) s
at_byte i a s e =
    let n : i + suc (before s) ≡ suc i + before s = omega arith in
    ap (λ (r : Split). placed (i + length r.before) r.payloads) (split_byte a s e) ∙ ap (λ (m : ℕ). placed m (payloads s)) n

-- behind the first byte of a start code stand its other two, and the payload
at_code : (i : ℕ) (s : Bytes)
    → sent i (0 ∷ 0 ∷ 1 ∷ s) ≡ record { place = i; payload = (split s).before } ∷ sent (suc i) (0 ∷ 1 ∷ s)
unfolding placed
at_code i s =
    let o : split (0 ∷ 0 ∷ 1 ∷ s) ≡ record { before = []; payloads = (split s).before ∷ payloads s } = split_code 0 0 1 s refl in
    let behind : sent (suc i) (0 ∷ 1 ∷ s) ≡ sent (suc (suc (suc i))) s =
    at_byte (suc i) 0 (1 ∷ s) (second_no s) ∙ at_byte (suc (suc i)) 1 s (third_no s) in
    let z : i + 0 ≡ i = omega arith in
    let n : i + 3 + before s ≡ suc (suc (suc i)) + before s = omega arith in
    ap (λ (r : Split). placed (i + length r.before) r.payloads) o
    ∙ ap (λ (m : ℕ). record { place = m; payload = (split s).before } ∷ placed (m + 3 + before s) (payloads s)) z
    ∙ ap (λ (m : ℕ). record { place = i; payload = (split s).before } ∷ placed m (payloads s)) n
    ∙ ap (λ (r : List Sent). record { place = i; payload = (split s).before } ∷ r) (sym behind)

-- ---- those from an offset on
abbrev from : ℕ → Sent → Bool
from offset t = leb offset t.place

-- all, where the offset comes first
all_from : (offset n : ℕ) (ps : List Bytes) → offset ≤ n → those (from offset) (placed n ps) ≡ placed n ps
unfolding placed those
all_from offset n [] h = refl
all_from offset n (p ∷ ps) h =
    let t : Sent = record { place = n; payload = p } in
    those_first (from offset) t (placed (n + 3 + length p) ps) (le-leb offset n h)
    ∙ ap (λ (l : List Sent). t ∷ l) (all_from offset (n + 3 + length p) ps (omega arith))

-- one byte before the offset
module _ (k i : ℕ) where
  earlier : i + suc k ≡ suc i + k
  earlier = omega arith

  by_byte : (a : ℕ) (s : Bytes) → at_start_code (a ∷ s) ≡ false
      → those (from (i + suc k)) (sent i (a ∷ s)) ≡ those (from (suc i + k)) (sent (suc i) s)
  by_byte a s e = ap (those (from (i + suc k))) (at_byte i a s e) ∙ ap (λ (n : ℕ). those (from n) (sent (suc i) s)) earlier

  by_code : (s : Bytes)
      → those (from (i + suc k)) (sent i (0 ∷ 0 ∷ 1 ∷ s)) ≡ those (from (suc i + k)) (sent (suc i) (0 ∷ 1 ∷ s))
  by_code s =
      ap (those (from (i + suc k))) (at_code i s)
      ∙ those_others (from (i + suc k)) _ (sent (suc i) (0 ∷ 1 ∷ s)) (lt-leb (i + suc k) i (omega arith))
      ∙ ap (λ (n : ℕ). those (from n) (sent (suc i) (0 ∷ 1 ∷ s))) earlier

  one_less : (a : ℕ) (s : Bytes) → those (from (i + suc k)) (sent i (a ∷ s)) ≡ those (from (suc i + k)) (sent (suc i) s)
  one_less a [] = by_byte a [] (unfold at_start_code in refl)
  one_less a (b ∷ []) = by_byte a (b ∷ []) (unfold at_start_code in refl)
  one_less a (b ∷ c ∷ s) =
      case (start_code3 a b c)
      (λ e. let z = code_is a b c e in rw (z.0, z.1, z.2) (by_code s))
      (λ e. by_byte a (b ∷ c ∷ s) (unfold at_start_code in e))

left : (k i : ℕ) (s : Bytes) → k ≤ length s → those (from (i + k)) (sent i s) ≡ sent (i + k) (drop k s)
left zero i s h =
    let z : i + 0 ≡ i = omega arith in
    all_from (i + 0) (i + before s) (payloads s) (omega arith) ∙ ap (λ (m : ℕ). sent m s) (sym z)
left (suc k) i [] h = absurd (omega arith)
left (suc k) i (a ∷ s) h =
    let n : suc i + k ≡ i + suc k = omega arith in
    one_less k i a s ∙ left k (suc i) s (omega arith) ∙ ap (λ (m : ℕ). sent m (drop k s)) n

-- ---- each payload of an accepted list passes 3 and 10
FineSent : Sent → Type 0
FineSent t = Fine t.payload

fine_sent : (n : ℕ) (l : List Bytes) → All (λ b. obu_refusal b ≡ passed tt) l → All FineSent (sent_from n l)
unfolding sent_from FineSent
fine_sent n [] h = tt
fine_sent n (b ∷ l) h =
    ((omega (arith, obu_some b h.0, escape_longer b), escape_legal b), fine_sent (n + 3 + length (escape b)) l h.1)

fine_those : (f : Sent → Bool) (l : List Sent) → All FineSent l → All FineSent (those f l)
unfolding those
fine_those f [] h = tt
fine_those f (t ∷ l) h =
    case (f t)
    (λ e. subst (All FineSent) (sym (those_first f t l e)) (h.0, fine_those f l h.1))
    (λ e. subst (All FineSent) (sym (those_others f t l e)) (fine_those f l h.1))

fine_payloads : (l : List Sent) → All FineSent l → All Fine (map (λ t. t.payload) l)
unfolding FineSent
fine_payloads [] h = tt
fine_payloads (t ∷ l) h = (h.0, fine_payloads l h.1)

-- ---- the walk from a start code on
gives : (s : Bytes) (ps : List Bytes) → at_start_code s ≡ true → payloads s ≡ ps → All Fine ps → WalkGives s ps
gives s ps c e f =
    record {
      starts = sym (unfold starting in pass_on 9 (rw c) refl);
      steps = λ qs. (λ w. walk_payloads s 0 qs w ∙ e, λ q. subst (Walks s 0) (e ∙ sym q) (walks s c (subst (All Fine) (sym e) f)));
      by_reader = λ unit n qs. (
        λ w. reader_payloads (fresh unit) qs w ∙ ap payloads n ∙ e,
        λ q.
            let fine = subst (All Fine) (sym (ap payloads n ∙ e)) f in
            let walk = reader_says unit (payloads unit.now) (passed end) (walks unit.now (ap at_start_code n ∙ c) fine) in
            subst (ReaderWalks (fresh unit)) (ap payloads n ∙ e ∙ sym q) walk,
      );
    }
  where
    walks : (t : Bytes) → at_start_code t ≡ true → All Fine (payloads t) → Walks t 0 (payloads t)
    walks t h fine = walk_from t 0 (inr h) (omega (arith, code_fits t 0 h)) fine

-- ---- the whole
-- the first of the placed payloads
first_placed : (n : ℕ) (ps : List Bytes) (t : Sent) (l : List Sent) → placed n ps ≡ t ∷ l → (t.place ≡ n) × (ps ≡ [] → ⊥)
unfolding placed
first_placed n [] t l e = apart (cc)
first_placed n (p ∷ ps) t l e = (cc, λ z. apart (cc))

module _ (l : List Bytes) (a : Accepted l) (offset : ℕ) (h : offset ≤ length (carried l)) where
  abbrev rest : Bytes
  rest = drop offset (carried l)

  heard_is : heard l offset ≡ sent offset rest
  heard_is =
      let z : offset ≡ 0 + offset = omega arith in
      ap (those (from offset)) (sym (sent_carried l))
      ∙ ap (λ (n : ℕ). those (from n) (sent 0 (carried l))) z ∙ left offset 0 (carried l) h ∙ ap (λ (n : ℕ). sent n rest) (sym z)

  payloads_heard : payloads rest ≡ map (λ t. t.payload) (heard l offset)
  payloads_heard = sym (ap (map (λ t. t.payload)) heard_is ∙ placed_payloads (offset + before rest) (payloads rest))

  fine_heard : All Fine (map (λ t. t.payload) (heard l offset))
  fine_heard = fine_payloads (heard l offset) (fine_those (from offset) (sent_from 0 l) (fine_sent 0 l (fits l a).obus))

  module _ (first : Sent) (later : List Sent) (e : heard l offset ≡ first ∷ later) where
    place_is : first.place - offset ≡ before rest
    place_is = omega (arith, (first_placed (offset + before rest) (payloads rest) first later (sym heard_is ∙ e)).0)

    code_there : (drop (before rest) rest ≡ []) ⊎ (at_start_code (drop (before rest) rest) ≡ true)
        → at_start_code (drop (before rest) rest) ≡ true
    code_there (inl z) =
        absurd ((first_placed (offset + before rest) (payloads rest) first later (sym heard_is ∙ e)).1
        (sym (before_rest rest) ∙ ap payloads z ∙ unfold split in refl))
    code_there (inr c) = c

    walk_heard : WalkGives (drop (first.place - offset) rest) (map (λ t. t.payload) (first ∷ later))
    walk_heard =
        subst (λ (n : ℕ). WalkGives (drop n rest) (map (λ t. t.payload) (first ∷ later))) (sym place_is)
        (gives (drop (before rest) rest) (map (λ t. t.payload) (first ∷ later)) (code_there (before_ends rest))
        (before_rest rest ∙ payloads_heard ∙ ap (map (λ t. t.payload)) e)
        (subst (λ (x : List Sent). All Fine (map (λ t. t.payload) x)) e fine_heard))

  tunes_in : TunesIn l offset
  tunes_in =
      record {
        codes =
            start_codes_lem rest ∙ sym (placed_places offset (before rest) (payloads rest))
            ∙ ap (map (λ t. t.place - offset)) (sym heard_is);
        walk = walk_heard;
      }

pub late_tuning : LateTuning
late_tuning l a offset h = tunes_in l a offset h
