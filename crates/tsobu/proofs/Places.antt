-- A string from one of its places on: what stands before the next start code, and the payloads from a start code on. Assumes nothing.
use Prim.Native.Nat.{ℕ, zero, suc, ◌+◌, ◌-◌, ◌≤◌, ◌<◌}
use mathlib.Core.Bool.{Bool, true, false}
use mir.Val.{bool_byte as one}
use mathlib.Core.Path.{◌≡◌, refl, sym, ap, ap₂, ◌∙◌}
use mathlib.Core.Logic.{◌⊎◌, inl, inr}
use mathlib.Core.List.{List, [], ◌∷◌}
use native.Mathlib.Omega.{arith}
use native.Mathlib.Numerals.{add-one}
use borrow.Author.Tests.{lt-ltb, le-ltb}
use lib.Dec.{ltb}
use lib.ListN.{length, take, drop, get_or, length-drop, drop_of_length-le}
use lib.Seq.{drop-drop}
use Rattle.lists.specs.Lists.{Bytes, those}
use Rattle.lists.proofs.Tests.{case, clash}
use Rattle.lists.proofs.Parts.{next}
use Rattle.lists.proofs.Threes.{AsksThree, three_long, three_end, three_at}
use Rattle.lists.proofs.Elements.{those_first, those_others}
use Rattle.tsobu.specs.StartCodes.{start_code3, at_start_code, start_codes_from, Split, split, payloads}
use Rattle.tsobu.specs.Walk.{obu_index}
pub use Rattle.tsobu.specs.Parts.{Place}
use Rattle.tsobu.proofs.Splits.{split_code, split_byte, at_code, codes_yes, codes_no, count_codes}

-- ---- a start code at a place
pub code_three : AsksThree at_start_code
unfolding at_start_code
code_three = record { none = refl; one = λ a. refl; two = λ a b. refl }

pub code_at_end : (s : Bytes) (i : ℕ) → length s - i < 3 → at_start_code (drop i s) ≡ false
code_at_end = three_end code_three

pub code_at : (s : Bytes) (i : ℕ) → i + 2 < length s
    → at_start_code (drop i s) ≡ start_code3 (get_or s i 0) (get_or s (i + 1) 0) (get_or s (i + 2) 0)
unfolding at_start_code
code_at = three_at at_start_code start_code3 (λ a b c s. refl)

-- ---- how many bytes stand before the next start code
abbrev pub before : Bytes → ℕ
before s = length (split s).before

pub before_code : (s : Bytes) → at_start_code s ≡ true → before s ≡ 0
before_code s e = ap length (at_code s e)

pub before_byte : (s : Bytes) (i : ℕ) → i < length s → at_start_code (drop i s) ≡ false → before (drop i s) ≡ suc (before (drop (i + 1) s))
before_byte s i h e =
    let n = next s i h in
    ap before n ∙ ap (λ (r : Split). length r.before) (split_byte (get_or s i 0) (drop (i + 1) s) (rw n at e))

pub before_end : (s : Bytes) (i : ℕ) → length s ≤ i → before (drop i s) ≡ 0
unfolding split
before_end s i h = rw (drop_of_length-le s h)

-- ---- what stands before the next start code, and the rest
-- the string from the next start code on has the same payloads and nothing before them
record Cut (s : Bytes) : Type 0 where
  taken : take (before s) s ≡ (split s).before
  rest : split (drop (before s) s) ≡ record { before = []; payloads = payloads s }
  ends : (drop (before s) s ≡ []) ⊎ (at_start_code (drop (before s) s) ≡ true)
  short : before s ≤ length s

cut : (s : Bytes) → Cut s
cut [] = unfold split in record { taken = refl; rest = refl; ends = inl refl; short = omega arith }
cut (a ∷ s) = go (cut s)
  where
    go : Cut s → Cut (a ∷ s)
    go r =
        case (at_start_code (a ∷ s))
        (λ e.
        let b = before_code (a ∷ s) e in
        let z = at_code (a ∷ s) e in
        record {
          taken = ap (λ (n : ℕ). take n (a ∷ s)) b ∙ sym z;
          rest = ap (λ (n : ℕ). split (drop n (a ∷ s))) b ∙ λ i. record { before = z i; payloads = payloads (a ∷ s) };
          ends = inr (ap (λ (n : ℕ). at_start_code (drop n (a ∷ s))) b ∙ e);
          short = omega arith;
        })
        (λ e.
        let p = split_byte a s e in
        let b : before (a ∷ s) ≡ suc (before s) = ap (λ (x : Split). length x.before) p in
        record {
          taken = ap (λ (n : ℕ). take n (a ∷ s)) b ∙ ap (λ (l : Bytes). a ∷ l) r.taken ∙ sym (ap (λ (x : Split). x.before) p);
          rest =
              ap (λ (n : ℕ). split (drop n (a ∷ s))) b ∙ r.rest
              ∙ sym (ap (λ (x : Split). record { before = []; payloads = x.payloads }) p);
          ends = rw b r.ends;
          short = omega (arith, r.short);
        })

pub before_taken : (s : Bytes) → take (before s) s ≡ (split s).before
before_taken s = (cut s).taken

pub before_rest : (s : Bytes) → payloads (drop (before s) s) ≡ payloads s
before_rest s = ap (λ (r : Split). r.payloads) (cut s).rest

pub before_ends : (s : Bytes) → (drop (before s) s ≡ []) ⊎ (at_start_code (drop (before s) s) ≡ true)
before_ends s = (cut s).ends

pub before_short : (s : Bytes) → before s ≤ length s
before_short s = (cut s).short

-- ---- a payload and the rest, from a start code's place on
-- from `at`, where a start code stands: the next one, or the end
abbrev pub next_code : Bytes → ℕ → ℕ
next_code s at = at + 3 + before (drop (at + 3) s)

pub code_fits : (s : Bytes) (at : ℕ) → at_start_code (drop at s) ≡ true → at + 3 ≤ length s
code_fits s at e = omega (arith, three_long code_three (drop at s) e, length-drop at s)

pub next_fits : (s : Bytes) (at : ℕ) → at_start_code (drop at s) ≡ true → next_code s at ≤ length s
next_fits s at e = omega (arith, code_fits s at e, before_short (drop (at + 3) s), length-drop (at + 3) s)

pub open_code : (l : Bytes) → at_start_code l ≡ true → payloads l ≡ (split (drop 3 l)).before ∷ payloads (drop 3 l)
unfolding at_start_code
open_code [] e = clash e refl
open_code (a ∷ []) e = clash e refl
open_code (a ∷ b ∷ []) e = clash e refl
open_code (a ∷ b ∷ c ∷ s) e = ap (λ (r : Split). r.payloads) (split_code a b c s e)

-- the payload between the start code at `at` and the next place
abbrev pub payload_at : Bytes → ℕ → Bytes
payload_at s at = take (next_code s at - (at + 3)) (drop (at + 3) s)

pub payload_is : (s : Bytes) (at : ℕ) → payload_at s at ≡ (split (drop (at + 3) s)).before
payload_is s at =
    let e : next_code s at - (at + 3) ≡ before (drop (at + 3) s) = omega arith in
    ap (λ (n : ℕ). take n (drop (at + 3) s)) e ∙ before_taken (drop (at + 3) s)

pub payload_length : (s : Bytes) (at : ℕ) → length (payload_at s at) ≡ before (drop (at + 3) s)
payload_length s at = ap length (payload_is s at)

-- the payloads from a start code on: its own, and those from the next place on
pub payloads_from : (s : Bytes) (at : ℕ) → at_start_code (drop at s) ≡ true
    → payloads (drop at s) ≡ payload_at s at ∷ payloads (drop (next_code s at) s)
payloads_from s at e =
    let d : drop 3 (drop at s) ≡ drop (at + 3) s = drop-drop 3 at s in
    open_code (drop at s) e
    ∙ ap (λ (t : Bytes). (split t).before ∷ payloads t) d
    ∙ ap₂ (λ (p : Bytes) (ps : List Bytes). p ∷ ps) (sym (payload_is s at))
    (sym (before_rest (drop (at + 3) s)) ∙ ap payloads (drop-drop (before (drop (at + 3) s)) (at + 3) s))

pub payloads_end : (s : Bytes) (at : ℕ) → length s ≤ at → payloads (drop at s) ≡ []
unfolding split
payloads_end s at h = rw (drop_of_length-le s h)

-- the next place is one
pub next_place : (s : Bytes) (at : ℕ) → at_start_code (drop at s) ≡ true → Place s (next_code s at)
next_place s at e =
    let d : drop (before (drop (at + 3) s)) (drop (at + 3) s) ≡ drop (next_code s at) s = drop-drop (before (drop (at + 3) s)) (at + 3) s in
    go (next_code s at) (next_fits s at e) (rw d at (before_ends (drop (at + 3) s)))
  where
    go : (n : ℕ) → n ≤ length s → (drop n s ≡ []) ⊎ (at_start_code (drop n s) ≡ true) → Place s n
    go n h (inl z) = inl (omega (arith, length-drop n s, ap length z))
    go n h (inr c) = inr c

-- at a place before the end a start code stands
pub place_code : (s : Bytes) (at : ℕ) → Place s at → at < length s → at_start_code (drop at s) ≡ true
place_code s at (inl e) h = absurd (omega arith)
place_code s at (inr c) h = c

-- ---- a place where a tsOBU begins, or the end: where a loop over the tsOBUs stands
pub record At (s : Bytes) (code : ℕ) : Type 0 where
  pub place : Place s code
  pub within : code ≤ length s

pub at_start : (s : Bytes) → Place s 0 → At s 0
at_start s p = record { place = p; within = omega arith }

module _ {s : Bytes} {code : ℕ} (a : At s code) (h : code < length s) where
  pub code_here : at_start_code (drop code s) ≡ true
  code_here = place_code s code a.place h

  pub code_room : code + 3 ≤ length s
  code_room = code_fits s code code_here

  pub next_at : At s (next_code s code)
  next_at = record { place = next_place s code code_here; within = next_fits s code code_here }

  pub next_payloads : payloads (drop code s) ≡ payload_at s code ∷ payloads (drop (next_code s code) s)
  next_payloads = payloads_from s code code_here

  -- the payload as it is lent, up to where the next start code was found
  module _ (end : ℕ) (e : end ≡ next_code s code) where
    pub end_room : (code + 3 ≤ end) × (end ≤ length s)
    end_room = (omega arith, omega (arith, next_fits s code code_here))

    pub lent_is : take (end - (code + 3)) (drop (code + 3) s) ≡ payload_at s code
    lent_is = ap (λ (n : ℕ). take (n - (code + 3)) (drop (code + 3) s)) e

-- ---- the OBU index of a place: start codes before it, counted a place at a time
-- the start codes before `at` among those of s from its place `i` on
abbrev pub codes_before : ℕ → ℕ → Bytes → ℕ
codes_before at i s = length (those (λ code. ltb code at) (start_codes_from i (drop i s)))

-- those from a place on, where one stands at it and where none does
module _ (i : ℕ) (s : Bytes) (k : i < length s) where
  codes_code : at_start_code (drop i s) ≡ true → start_codes_from i (drop i s) ≡ i ∷ start_codes_from (i + 1) (drop (i + 1) s)
  codes_code e =
      let n = next s i k in
      ap (start_codes_from i) n ∙ codes_yes i (get_or s i 0) (drop (i + 1) s) (rw n at e)
      ∙ ap (λ (m : ℕ). i ∷ start_codes_from m (drop (i + 1) s)) (sym (add-one i))

  codes_byte : at_start_code (drop i s) ≡ false → start_codes_from i (drop i s) ≡ start_codes_from (i + 1) (drop (i + 1) s)
  codes_byte e =
      let n = next s i k in
      ap (start_codes_from i) n ∙ codes_no i (get_or s i 0) (drop (i + 1) s) (rw n at e)
      ∙ ap (λ (m : ℕ). start_codes_from m (drop (i + 1) s)) (sym (add-one i))

pub index_code : (at i : ℕ) (s : Bytes) → i < at → i < length s → at_start_code (drop i s) ≡ true
    → codes_before at i s ≡ suc (codes_before at (i + 1) s)
index_code at i s h k e =
    ap (λ (l : List ℕ). length (those (λ code. ltb code at) l)) (codes_code i s k e)
    ∙ ap length (those_first (λ code. ltb code at) i (start_codes_from (i + 1) (drop (i + 1) s)) (lt-ltb i at h))

pub index_byte : (at i : ℕ) (s : Bytes) → i < length s → at_start_code (drop i s) ≡ false → codes_before at i s ≡ codes_before at (i + 1) s
index_byte at i s k e = ap (λ (l : List ℕ). length (those (λ code. ltb code at) l)) (codes_byte i s k e)

-- either way
pub index_one : (at i : ℕ) (s : Bytes) (code : Bool) → i < at → i < length s → code ≡ at_start_code (drop i s)
    → codes_before at i s ≡ one code + codes_before at (i + 1) s
index_one at i s true h k e = index_code at i s h k (sym e) ∙ (omega arith)
index_one at i s false h k e = index_byte at i s k (sym e) ∙ (omega arith)

-- from a place on there are none before it
none_before : (at i : ℕ) (s : Bytes) → at ≤ i → those (λ code. ltb code at) (start_codes_from i s) ≡ []
unfolding those start_codes_from
none_before at i [] h = refl
none_before at i (a ∷ s) h =
    case (at_start_code (a ∷ s))
    (λ e.
    ap (those (λ code. ltb code at)) (codes_yes i a s e)
    ∙ those_others (λ code. ltb code at) i (start_codes_from (suc i) s) (le-ltb i at h)
    ∙ none_before at (suc i) s (omega arith))
    (λ e. ap (those (λ code. ltb code at)) (codes_no i a s e) ∙ none_before at (suc i) s (omega arith))

pub index_end : (at i : ℕ) (s : Bytes) → at ≤ i → codes_before at i s ≡ 0
index_end at i s h = ap length (none_before at i (drop i s) h)

-- of the start codes from i on, those before `at` and those from `at` on are all
index_rest : (n at i : ℕ) (s : Bytes) → i + n ≡ at → at ≤ length s
    → codes_before at i s + length (start_codes_from at (drop at s)) ≡ length (start_codes_from i (drop i s))
index_rest zero at i s e h =
    let z : i ≡ at = omega arith in
    omega (arith, index_end at i s (omega arith), ap (λ (k : ℕ). length (start_codes_from k (drop k s))) z)
index_rest (suc n) at i s e h =
    let rest = index_rest n at (i + 1) s (omega arith) h in
    case (at_start_code (drop i s))
    (λ c. omega (arith, rest, index_code at i s (omega arith) (omega arith) c, ap length (codes_code i s (omega arith) c)))
    (λ c. omega (arith, rest, index_byte at i s (omega arith) c, ap length (codes_byte i s (omega arith) c)))

-- so the OBU index of a place is how many payloads stand before it
pub index_count : (s : Bytes) (at : ℕ) → at ≤ length s → obu_index s at + length (payloads (drop at s)) ≡ length (payloads s)
index_count s at h = omega (arith, index_rest at at 0 s (omega arith) h, count_codes at (drop at s), count_codes 0 s)
