-- A block that is escaped two places a turn (`Laid`): each byte is stored with a 03 behind it. What is to come from a place on goes by
-- whether a 03 goes in behind the byte there (`coming`); one that does not stands where something is to come, and may (`fills_stray`).
-- Assumes nothing.
use Prim.Native.Nat.{ℕ, zero, suc, ◌+◌, ◌-◌, ◌≤◌, ◌<◌}
use mathlib.Core.Bool.{Bool}
use mathlib.Core.Path.{◌≡◌, refl, sym, ap, ap₂, subst, subst₂, ◌∙◌}
use mathlib.Core.List.{◌∷◌, ◌++◌}
use native.Mathlib.Omega.{arith}
use mir.Val.{bool_byte}
use lib.Bits.{bit_and, bit_or}
use lib.ListN.{length, take, drop, set, get_or, length-set, length-take, length-drop}
use lib.Seq.{take-set-le, drop-set-lt, get_or-set_same, get_or-set_other}
use lib.Dec.{ltb}
use borrow.Author.Tests.{ltb-true, ltb-false}
use Rattle.lists.specs.Lists.{Bytes}
use Rattle.lists.proofs.Tests.{case}
use Rattle.emulation.specs.Payload.{escape}
use Rattle.emulation.specs.Blocks.{block}
use Rattle.emulation.specs.Parts.{critical}
use Rattle.escaping.specs.Parts.{laid, Flags, Fills, Lays}
use Rattle.emulation.proofs.Theorems.{escape_longer}
use Rattle.emulation.proofs.Hits.{one_most}
use Rattle.emulation.proofs.Machine.{stuffed_is}
use Rattle.emulation.proofs.Critical.{critical_at}
use Rattle.escaping.proofs.Clean.{critical_fits, escape_at_critical, escape_at_uncritical}
use Rattle.emulation.proofs.Outputs.{writes_start, writes_put, writes_then}
use Rattle.escaping.proofs.Laying.{writes_fills, fills_then, fills_place}

-- ---- numbers that are 0 or 1
either : (a b : ℕ) → a ≤ 1 → b ≤ 1 → bit_or a (1 - b) ≡ 1 - (b - a)
either zero zero h k = refl
either zero (suc zero) h k = refl
either (suc zero) zero h k = refl
either (suc zero) (suc zero) h k = refl
either (suc (suc a)) b h k = absurd (omega arith)
either zero (suc (suc b)) h k = absurd (omega arith)
either (suc zero) (suc (suc b)) h k = absurd (omega arith)

pub either_most : (a b : ℕ) → a ≤ 1 → b ≤ 1 → bit_or a (1 - b) ≤ 1
either_most a b h k = omega (arith, either a b h k)

both : (a b : ℕ) → a ≤ 1 → b ≤ 1 → bit_and a b ≡ b - (1 - a)
both zero zero h k = refl
both zero (suc zero) h k = refl
both (suc zero) zero h k = refl
both (suc zero) (suc zero) h k = refl
both (suc (suc a)) b h k = absurd (omega arith)
both zero (suc (suc b)) h k = absurd (omega arith)
both (suc zero) (suc (suc b)) h k = absurd (omega arith)

pub laid_long : (now : Bytes) (n b : ℕ) → length (laid now n b) ≡ length now
laid_long now n b = length-set (set now n b) (n + 1) 3 ∙ length-set now n b

pub laid_below : (now : Bytes) (n b : ℕ) {k : ℕ} → k < length now → k < length (laid now n b)
laid_below now n b {k} h = subst (λ (l : ℕ). k < l) (sym (laid_long now n b)) h

-- ---- the flags of a block: none yet, and one more
pub flags_start : (test : Bytes → Bool) (s : Bytes) (i : ℕ) (flags : Bytes) → Flags test s i 0 flags
flags_start test s i flags = record { within = omega arith; each = λ k h. absurd (omega arith) }

pub flags_next : {test : Bytes → Bool} {s flags : Bytes} {i j : ℕ} (x : ℕ) → Flags test s i j flags → j < length flags
    → x ≡ bool_byte (test (drop (i + j) s))
    → Flags test s i (j + 1) (set flags j x)
flags_next {test} {s} {flags} {i} {j} x a h e =
    record {
      within = omega (arith, length-set flags j x);
      each = λ k l.
          case (ltb k j)
          (λ t.
          let m = ltb-true k j t in
          get_or-set_other flags j k x 0 (λ q. absurd (omega arith)) ∙ a.each k m)
          (λ t.
          let m : j ≡ k = omega (arith, ltb-false k j t) in
          subst (λ (q : ℕ). get_or (set flags j x) q 0 ≡ bool_byte (test (drop (i + q) s))) m (get_or-set_same flags j x 0 h ∙ e));
    }

pub flags_most : {test : Bytes → Bool} {s flags : Bytes} {i n : ℕ} (k : ℕ) → Flags test s i n flags → k < n → get_or flags k 0 ≤ 1
flags_most {test} {s} {i = i} k a h = omega (arith, a.each k h, one_most (test (drop (i + k) s)))

-- ---- what is to be written from place p on, where behind the byte there no 03 goes in, or one
abbrev pub coming : Bytes → ℕ → ℕ → Bytes
coming s p zero = escape (drop p s)
coming s p (suc l) = get_or s p 0 ∷ 3 ∷ escape (drop (p + 1) s)

coming_some : (s : Bytes) (p l : ℕ) → p < length s → 0 < length (coming s p l)
coming_some s p zero h = omega (arith, escape_longer (drop p s), length-drop p s)
coming_some s p (suc l) h = omega arith

-- where none goes in, one goes in behind the next byte if 00 00 and a byte of 0 to 3 stand at p
coming_next : (s : Bytes) (p : ℕ) → p < length s → escape (drop p s) ≡ get_or s p 0 ∷ coming s (p + 1) (bool_byte (critical (drop p s)))
coming_next s p h =
    case (critical (drop p s))
    (λ t.
    let fits = critical_fits s p (omega arith) t in
    let z = stuffed_is (get_or s p 0) (get_or s (p + 1) 0) (get_or s (p + 2) 0) (sym (critical_at s p (omega arith)) ∙ t) in
    let e : p + 2 ≡ p + 1 + 1 = omega arith in
    rw t
    (escape_at_critical s p t ∙ ap₂ (λ (x y : ℕ). x ∷ y ∷ 3 ∷ escape (drop (p + 2) s)) (sym z.0) (sym z.1)
    ∙ ap (λ (k : ℕ). get_or s p 0 ∷ get_or s (p + 1) 0 ∷ 3 ∷ escape (drop k s)) e))
    (λ t. rw t (escape_at_uncritical s p h t))

-- what is stored where something is to come may stand there
fills_stray : {out whole rest now : Bytes} {n m : ℕ} (k x : ℕ) → Fills out n whole m rest now → m ≤ k → k < length now → k < m + length rest
    → Fills out n whole m rest (set now k x)
fills_stray {out} {whole} {rest} {now} {n} {m} k x a h l r =
    let end : ℕ = n + length (take (length out - n) whole) in
    record {
      onward = a.onward;
      within = omega (arith, length-set now k x);
      long = length-set now k x ∙ a.long;
      front = ap (λ (r : Bytes). r ++ take (length out - m) rest) (take-set-le m now k x h) ∙ a.front;
      back = drop-set-lt end now k x (omega (arith, fills_place a, length-take (length out - m) rest, a.long)) ∙ a.back;
    }

lay_stray : {out whole rest now : Bytes} {n m : ℕ} → Fills out n whole m rest now → (b : ℕ) → m + 1 < length now → 1 < length rest
    → Fills out n whole m rest (laid now m b)
lay_stray {now = now} {m = m} a b h k =
    fills_stray (m + 1) 3 (fills_stray m b a (omega arith) (omega arith) (omega arith)) (omega arith) (omega (arith, length-set now m b))
    (omega arith)

-- the byte at p is stored, and a 03 behind it
lay_place : {out whole now : Bytes} {n c : ℕ} (s : Bytes) (p l : ℕ) → l ≤ 1 → p + 1 < length s → c + 1 < length now
    → Fills out n whole c (coming s p l) now
    → Fills out n whole (c + l + 1) (coming s (p + 1) (bool_byte (critical (drop p s)) - l)) (laid now c (get_or s p 0))
lay_place {out} {whole} {now} {n} {c} s p zero h k m a =
    let b : ℕ = get_or s p 0 in
    let f : ℕ = bool_byte (critical (drop p s)) in
    let rest : Bytes = coming s (p + 1) f in
    let given : Fills out n whole (c + 1) rest (set now c b) =
    fills_then (rw (coming_next s p (omega arith)) at a) (writes_fills (writes_put now rest c b (omega arith))) in
    let e : c + 1 ≡ c + 0 + 1 = omega arith in
    let g : f ≡ f - 0 = omega arith in
    subst₂ (λ (d l : ℕ). Fills out n whole d (coming s (p + 1) l) (laid now c b)) e g
    (fills_stray (c + 1) 3 given (omega arith) (omega (arith, length-set now c b)) (omega (arith, coming_some s (p + 1) f k)))
lay_place {out} {whole} {now} {n} {c} s p (suc zero) h k m a =
    let b : ℕ = get_or s p 0 in
    let f : ℕ = bool_byte (critical (drop p s)) in
    let rest : Bytes = escape (drop (p + 1) s) in
    let g : 0 ≡ f - 1 = omega (arith, one_most (critical (drop p s))) in
    subst (λ (l : ℕ). Fills out n whole (c + 1 + 1) (coming s (p + 1) l) (laid now c b)) g
    (fills_then a
    (writes_fills
    (writes_then (writes_put now (3 ∷ rest) c b (omega arith))
    (writes_put (set now c b) rest (c + 1) 3 (omega (arith, length-set now c b))))))
lay_place s p (suc (suc l)) h k m a = absurd (omega arith)

-- where no 03 is left to go in there is nothing to go back to
gone_back : {out whole now : Bytes} {n c : ℕ} (s : Bytes) (p l : ℕ) → l ≤ 1 → Fills out n whole c (coming s p l) now
    → (l ≡ 1 → Fills out n whole (c - 1) (escape (drop (p - 1) s)) now)
    → Fills out n whole (c - l) (escape (drop (p - l) s)) now
gone_back {out} {whole} {now} {n} {c} s p zero h a b =
    let e : c ≡ c - 0 = omega arith in
    let f : p ≡ p - 0 = omega arith in
    subst₂ (λ (d q : ℕ). Fills out n whole d (escape (drop q s)) now) e f a
gone_back s p (suc zero) h a b = b refl
gone_back s p (suc (suc l)) h a b = absurd (omega arith)

-- ---- the first j places of the block at i, and whether a 03 goes in behind the byte at the next; the place before that is gone back to
pub record Laid (s : Bytes) (i : ℕ) (out : Bytes) (n j count last : ℕ) (now : Bytes) : Type 0 where
  pub within : j ≤ block
  pub one : last ≤ 1
  pub most : count ≤ n + j + j
  pub least : n + j ≤ count
  pub written : Fills out n (escape (drop i s)) count (coming s (i + j) last) now
  pub back : Fills out n (escape (drop i s)) (count - last) (escape (drop (i + j - last) s)) now

pub laid_start : (s out : Bytes) (i n : ℕ) → n ≤ length out → Laid s i out n 0 n 0 out
laid_start s out i n h =
    let e : i ≡ i + 0 = omega arith in
    let start = writes_fills (writes_start out (escape (drop i s)) n h) in
    let begun = subst (λ (k : ℕ). Fills out n (escape (drop i s)) n (escape (drop k s)) out) e start in
    record {
      within = omega arith;
      one = omega arith;
      most = omega arith;
      least = omega arith;
      written = begun;
      back = gone_back s (i + 0) 0 (omega arith) begun (λ e. absurd (omega arith));
    }

less_most : (a b : ℕ) → a ≤ 1 → a - b ≤ 1
less_most a b h = omega arith

-- where a 03 is left to go in, none went in before
left_none : (g x next : ℕ) → g ≤ 1 → g - x ≡ next → next ≡ 1 → x ≡ 0
left_none g x next h e f = omega arith

-- so far two places go at most; how far they go by the code's numbers
far_most : (c l x far n j : ℕ) → l ≤ 1 → x ≤ 1 → c + l + 1 + x + 1 ≡ far → c ≤ n + j + j → far ≤ n + (j + 2) + (j + 2)
far_most c l x far n j h k e g = omega arith

pub pair_goes : (c l flag : ℕ) → l ≤ 1 → flag ≤ 1 → c + l + 1 + 2 - bit_or l (1 - flag) ≡ c + l + 1 + (flag - l) + 1
pair_goes c l flag h k = ap (λ (q : ℕ). c + l + 1 + 2 - q) (either l flag h k) ∙ omega arith

pub pair_last : (l flag next : ℕ) → l ≤ 1 → flag ≤ 1 → next ≤ 1 → bit_and (bit_or l (1 - flag)) next ≡ next - (flag - l)
pair_last l flag next h k m =
    ap (λ (q : ℕ). bit_and q next) (either l flag h k) ∙ both (1 - (flag - l)) next (omega arith) m ∙ omega arith

-- two places more
pub laid_pair : {s out now later flags : Bytes} {i n j count last far next : ℕ} → i + block + 2 ≤ length s
    → n + block + block ≤ length out
    → Flags critical s i block flags
    → j + 1 < block
    → Laid s i out n j count last now
    → (far ≡ count + last + 1 + (get_or flags j 0 - last) + 1) × (next ≡ get_or flags (j + 1) 0 - (get_or flags j 0 - last))
    → later ≡ laid (laid now count (get_or s (i + j) 0)) (count + last + 1) (get_or s (i + j + 1) 0)
    → Laid s i out n (j + 2) far next later
laid_pair {s} {out} {now} {later} {flags} {i} {n} {j} {count} {last} {far} {next} h k flagged m a goes stored =
    let p : ℕ = i + j in
    let f : ℕ = bool_byte (critical (drop p s)) in
    let g : ℕ = bool_byte (critical (drop (p + 1) s)) in
    let now₁ : Bytes = laid now count (get_or s p 0) in
    let now₂ : Bytes = laid now₁ (count + last + 1) (get_or s (p + 1) 0) in
    let r : i + (j + 1) ≡ p + 1 = omega arith in
    let ef : get_or flags j 0 ≡ f = flagged.each j (omega arith) in
    let eg : get_or flags (j + 1) 0 ≡ g =
    subst (λ (q : ℕ). get_or flags (j + 1) 0 ≡ bool_byte (critical (drop q s))) r (flagged.each (j + 1) m) in
    let mx = less_most f last (one_most (critical (drop p s))) in
    let l₁ : length now₁ ≡ length now = laid_long now count (get_or s p 0) in
    let room = a.written.long in
    let first = lay_place s p last a.one (omega arith) (omega (arith, a.most, room)) a.written in
    let second = lay_place s (p + 1) (f - last) mx (omega arith) (omega (arith, a.most, a.one, room, l₁)) first in
    let ec : count + last + 1 + (f - last) + 1 ≡ far = sym (goes.0 ∙ ap (λ (q : ℕ). count + last + 1 + (q - last) + 1) ef) in
    let en : g - (f - last) ≡ next = sym (goes.1 ∙ ap₂ (λ (x y : ℕ). x - (y - last)) eg ef) in
    let ep : p + 1 + 1 ≡ i + (j + 2) = omega arith in
    let w₁ = subst₂ (λ (c l : ℕ). Fills out n (escape (drop i s)) c (coming s (p + 1 + 1) l) now₂) ec en second in
    let w₂ = subst₂ (λ (q : ℕ) (l : Bytes). Fills out n (escape (drop i s)) far (coming s q next) l) ep (sym stored) w₁ in
    let mn = subst (λ (q : ℕ). q ≤ 1) en (less_most g (f - last) (one_most (critical (drop (p + 1) s)))) in
    record {
      within = omega arith;
      one = mn;
      most = far_most count last (f - last) far n j a.one mx ec a.most;
      least = omega (arith, ec, a.least);
      written = w₂;
      back =
          gone_back s (i + (j + 2)) next mn w₂
          (λ one.
          let z = left_none g (f - last) next (one_most (critical (drop (p + 1) s))) en one in
          let ed : count + last + 1 ≡ far - 1 = omega (arith, ec, z) in
          let eq : p + 1 ≡ i + (j + 2) - 1 = omega arith in
          let w = subst (λ (l : ℕ). Fills out n (escape (drop i s)) (count + last + 1) (coming s (p + 1) l) now₁) z first in
          let rest = escape_longer (drop (p + 1) s) in
          subst₂ (λ (d q : ℕ). Fills out n (escape (drop i s)) d (escape (drop q s)) later) ed eq
          (subst (λ (l : Bytes). Fills out n (escape (drop i s)) (count + last + 1) (escape (drop (p + 1) s)) l) (sym stored)
          (lay_stray w (get_or s (p + 1) 0) (omega (arith, a.most, a.one, room, l₁)) (omega (arith, rest, length-drop (p + 1) s)))));
    }

pub laid_room : {s out now : Bytes} {i n j count last : ℕ} → n + block + block ≤ length out → j + 1 < block
    → Laid s i out n j count last now
    → count + 3 < length now
laid_room h k a = omega (arith, a.most, a.written.long)

pub laid_end : {s out now : Bytes} {i n j count last : ℕ} → i + block + 2 ≤ length s → Laid s i out n j count last now
    → Lays s i out n (i + j - last) (count - last) now
laid_end h a = record { within = omega (arith, a.within); written = a.back }
