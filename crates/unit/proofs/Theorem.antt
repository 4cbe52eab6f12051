-- Demand 3 about the definitions: the writer's string is one of those that reading accepts as the list, and the one shortest. Why: no start
-- code begins inside a legal payload or across its end, so that an accepted string is its payloads, each behind a start code; and a legal
-- payload is the escaped form of its OBU, but for a closing 03. Assumes nothing.
use Prim.Native.Nat.{ℕ, ◌+◌, ◌*◌, ◌≤◌, ◌<◌}
use mathlib.Core.Bool.{true, not}
use mathlib.Core.Path.{◌≡◌, refl, sym, ap, ap₂, subst, ◌∙◌}
use mathlib.Core.Logic.{◌⊎◌, inl, inr, ◌↔◌}
use mathlib.Core.List.{List, [], ◌∷◌, map, flatten}
use native.Mathlib.Omega.{arith}
use borrow.Author.Tests.{ne_eqb, ltb-true, ltb-false, lt-ltb, le-ltb, not-false}
use lib.Dec.{ltb}
use lib.ListN.{length, length-append, length-map}
use Rattle.lists.specs.Lists.{Bytes, pick}
use Rattle.lists.proofs.Tests.{case, apart}
use Rattle.refusal.specs.Verdict.{passed, refused, ◌>>=◌, ◌>>◌, given, leaves}
use Rattle.refusal.proofs.Verdicts.{refuse, pass_on, follows, never, passed_after, given_passed, All, all_so}
use Rattle.emulation.specs.Payload.{legal, unescape, escape}
use Rattle.emulation.proofs.Theorems.{unescape_escape, escape_legal, escape_length, escape_longer, inserted_bound}
use Rattle.obu.specs.Header.{obu_refusal, judged, header_of}
use Rattle.obu.specs.Order.{kind_of, order_refusal}
use Rattle.unit.specs.Unit.{most_obus, most_obu_bytes, most_carried, obus_in, sum, AcceptsAs, obus_of, write_refusal, Accepted, carried}
use Rattle.unit.specs.Unit.{write_unit}
use Rattle.tsobu.specs.StartCodes.{at_start_code, Split, payloads}
use Rattle.tsobu.specs.TsObu.{tsobu_refusal}
use Rattle.unit.specs.Demand3.{Demand3, Demand3Lent}
use Rattle.unit.proofs.Lengths.{obus_of_lem, sum_lengths}
use Rattle.tsobu.proofs.Splits.{joined, from_code}
use Rattle.unit.proofs.Carried.{split_carried, carried_joined}
use Rattle.unit.proofs.Closings.{Closings, closings, shortest}
use Rattle.unit.proofs.Acceptance.{Reads, reads, read_by, writes, accepted_lent}

-- ---- what acceptance says of a list
pub record Fits (l : List Bytes) : Type 0 where
  pub some_obu : 1 ≤ length l
  pub most : length l ≤ most_obus
  pub bytes : sum (map length l) ≤ most_obu_bytes
  pub obus : All (λ b. obu_refusal b ≡ passed tt) l
  pub order : order_refusal (map kind_of l) ≡ passed tt

pub fits : (l : List Bytes) → Accepted l → Fits l
fits l a =
    let w = writes (map length l) (flatten l) a in
    let n = length-map l length in
    record {
      some_obu = omega (arith, w.some_obu);
      most = omega (arith, w.most);
      bytes = omega (arith, w.fits, sum_lengths l);
      obus = rw (obus_of_lem l) at w.obus;
      order = rw (obus_of_lem l) at w.order;
    }

-- ---- the length of the writer's string
pub carried_length : (l : List Bytes) → 2 * length (carried l) ≤ 6 * length l + 3 * sum (map length l)
unfolding carried sum
carried_length [] = omega arith
carried_length (b ∷ l) = omega (arith, carried_length l, escape_length b, length-append (escape b) (carried l))

-- writing cannot pass the carried limit
pub carried_within : (l : List Bytes) → Accepted l → length (carried l) ≤ most_carried
carried_within l a = let f = fits l a in omega (arith, f.most, f.bytes, carried_length l)

-- ---- reading the writer's string
pub unescape_all : (l : List Bytes) → map unescape (map escape l) ≡ l
unescape_all [] = refl
unescape_all (b ∷ l) = ap₂ (λ (x : Bytes) (r : List Bytes). x ∷ r) (unescape_escape b) (unescape_all l)

pub obus_carried : (l : List Bytes) → obus_in (carried l) ≡ l
obus_carried l = ap (λ (r : Split). map unescape r.payloads) (split_carried l) ∙ unescape_all l

empty_refused : obu_refusal [] ≡ passed tt → ⊥
unfolding judged header_of given pick ◌>>◌ ◌>>=◌
empty_refused e = apart (cc)

-- an OBU that passes has a byte
pub obu_some : (b : Bytes) → obu_refusal b ≡ passed tt → 1 ≤ length b
obu_some [] e = absurd (empty_refused e)
obu_some (x ∷ b) e = omega arith

pub tsobu_fine : (b : Bytes) → obu_refusal b ≡ passed tt → tsobu_refusal (escape b) ≡ passed tt
unfolding tsobu_refusal
tsobu_fine b e =
    let n = obu_some b e in
    sym
    (pass_on 3 (ne_eqb (length (escape b)) 0 (λ z. absurd (omega (arith, escape_longer b))))
    (pass_on 10 (ap not (escape_legal b)) (sym (ap obu_refusal (unescape_escape b) ∙ e))))

tsobus_fine : (l : List Bytes) → All (λ b. obu_refusal b ≡ passed tt) l → All (λ p. tsobu_refusal p ≡ passed tt) (map escape l)
tsobus_fine [] h = tt
tsobus_fine (b ∷ l) h = (tsobu_fine b h.0, tsobus_fine l h.1)

code_first : (l : List Bytes) → 1 ≤ length l → at_start_code (carried l) ≡ true
unfolding carried at_start_code
code_first [] h = absurd (omega arith)
code_first (b ∷ l) h = refl

carried_reads : (l : List Bytes) → Accepted l → Reads (carried l)
carried_reads l a =
    let f = fits l a in
    let ps : payloads (carried l) ≡ map escape l = ap (λ (r : Split). r.payloads) (split_carried l) in
    record {
      within = carried_within l a;
      headed = code_first l f.some_obu;
      most = omega (arith, ap length ps, length-map l escape, f.most);
      tsobus = subst (All (λ p. tsobu_refusal p ≡ passed tt)) (sym ps) (tsobus_fine l f.obus);
      fits = rw (obus_carried l) f.bytes;
      order = rw (obus_carried l) f.order;
    }

-- (a)
pub accepts_carried : (l : List Bytes) → Accepted l → AcceptsAs (carried l) l
accepts_carried l a = read_by (carried l) (carried_reads l a) ∙ ap passed (obus_carried l)

-- ---- what an accepted string is
pub tsobu_legal : (p : Bytes) → tsobu_refusal p ≡ passed tt → legal p ≡ true
unfolding tsobu_refusal
tsobu_legal p e =
    let h = passed_after _ _ tt (passed_after _ _ tt e).1 in
    not-false (legal p) (given_passed 10 _ h.0)

-- "an accepted string of l is `carried l` with a closing 03 after some payloads that end in 00 00"
pub accepted_is : (s : Bytes) (l : List Bytes) → AcceptsAs s l → (s ≡ joined (payloads s)) × Closings l (payloads s)
accepted_is s l a =
    let r = reads s l a in (
      from_code s r.0.headed,
      subst (λ (k : List Bytes). Closings k (payloads s)) r.1
          (closings (payloads s) (all_so (payloads s) tsobu_legal r.0.tsobus)),
    )

-- (b)
pub no_other : (s : Bytes) (l : List Bytes) → AcceptsAs s l → (s ≡ carried l) ⊎ (length (carried l) < length s)
no_other s l a =
    let h = accepted_is s l a in
    rw (carried_joined l)
    (subst (λ (t : Bytes). (t ≡ joined (map escape l)) ⊎ (length (joined (map escape l)) < length t)) (sym h.0) (shortest h.1))

-- (c) for any room
at_least : (s : Bytes) (l : List Bytes) → (s ≡ carried l) ⊎ (length (carried l) < length s) → length (carried l) ≤ length s
at_least s l (inl e) = omega (arith, ap length e)
at_least s l (inr h) = omega arith

pub room : (l : List Bytes) → Accepted l → (n : ℕ) → (n < length (carried l)) ↔ ((s : Bytes) → AcceptsAs s l → n < length s)
room l a n = ((λ h s e. omega (arith, at_least s l (no_other s l e))), (λ f. f (carried l) (accepts_carried l a)))

-- ---- demand 3 of the definition of writing
-- the output after writing
abbrev pub written : List ℕ → Bytes → Bytes → Bytes
written lens bytes out = leaves (write_unit lens bytes (length out)) (carried (obus_of lens bytes)) out

short : (lens : List ℕ) (bytes : Bytes) (n : ℕ) → write_refusal lens bytes ≡ passed tt → n < length (carried (obus_of lens bytes))
    → write_unit lens bytes n ≡ refused 8 0
unfolding write_unit
short lens bytes n a h = sym (follows a (refuse 8 _ (lt-ltb n (length (carried (obus_of lens bytes))) h)))

long : (lens : List ℕ) (bytes : Bytes) (n : ℕ) → write_refusal lens bytes ≡ passed tt → length (carried (obus_of lens bytes)) ≤ n
    → write_unit lens bytes n ≡ passed (length (carried (obus_of lens bytes)))
unfolding write_unit
long lens bytes n a h = sym (follows a (pass_on 8 (le-ltb n (length (carried (obus_of lens bytes))) h) refl))

-- demand 3, of OBUs lent with their lengths, and every lent output
pub demand3_lent : (lens : List ℕ) (bytes out : Bytes)
    → Demand3Lent lens bytes out (write_unit lens bytes (length out)) (written lens bytes out)
unfolding leaves
demand3_lent lens bytes out a =
    let l = obus_of lens bytes in
    let k = accepted_lent lens bytes a in
    case (ltb (length out) (length (carried l)))
    (λ t.
    let h = ltb-true (length out) (length (carried l)) t in
    rw (short lens bytes (length out) a h)
    (record {
      one_of_them = accepts_carried l k;
      shortest = λ s e. no_other s l e;
      no_room = ((λ e. (room l k (length out)).0 h), λ e. refl);
      stands = λ e. absurd (e refl);
      cost = λ obu m n. inserted_bound obu;
    }))
    (λ t.
    let h = ltb-false (length out) (length (carried l)) t in
    rw (long lens bytes (length out) a h)
    (record {
      one_of_them = accepts_carried l k;
      shortest = λ s e. no_other s l e;
      no_room = ((λ e. never (sym e)), λ e. absurd (omega (arith, (room l k (length out)).1 e)));
      stands = λ e. (refl, refl);
      cost = λ obu m n. inserted_bound obu;
    }))

-- demand 3, of every accepted list and every lent output
pub demand3 : (l : List Bytes) → Accepted l → (out : Bytes)
    → Demand3 l out (write_unit (map length l) (flatten l) (length out)) (written (map length l) (flatten l) out)
demand3 l a out =
    subst
    (λ (k : List Bytes). Demand3 k out (write_unit (map length l) (flatten l) (length out)) (written (map length l) (flatten l) out))
    (obus_of_lem l)
    (demand3_lent (map length l) (flatten l) out a)
