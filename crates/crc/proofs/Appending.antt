-- The register goes on from where it is, so what follows a string starts from the string's register; and the four bytes of a CRC, which
-- follow its string, leave 0. Assumes nothing.
use Prim.Native.Nat.{ℕ, zero, suc, ◌+◌, ◌*◌, ◌/◌, ◌%◌, ◌^◌, ◌<◌}
use mathlib.Core.Path.{◌≡◌, refl, sym, ap, ap₂, ◌∙◌}
use mathlib.Core.List.{List, [], ◌∷◌, ◌++◌}
use native.Mathlib.Omega.{arith}
use lib.Bits.{bit_xor, xor_self, xor_zero_r}
use lib.ListN.{length, take, drop}
use Rattle.std.specs.List.{fold}
use Rattle.std.specs.Simd.{first_chunks}
use Rattle.std.proofs.Math.Seq.{take-add}
use Rattle.std.proofs.lemmas.List.{take-append-drop}
use Rattle.lists.specs.Lists.{Bytes, pick}
use Rattle.crc.specs.Crc.{bit_step, bits_step, byte_step, crc_from, crc, bytes_of, crc_bytes}
use Rattle.crc.specs.Parts.{entry}
use Rattle.crc.proofs.Linear.{byte_lt, byte_entry}

pub crc_append : (r : ℕ) (s t : Bytes) → crc_from r (s ++ t) ≡ crc_from (crc_from r s) t
unfolding crc_from
crc_append r [] t = refl
crc_append r (x ∷ s) t = crc_append (byte_step r x) s t

-- ---- by chunks of n bytes, and the bytes behind them
chunks : (n k r : ℕ) (s : Bytes) → fold crc_from r (first_chunks n k s) ≡ crc_from r (take (k * n) s)
unfolding crc_from
chunks n zero r s = let none : 0 ≡ 0 * n = omega arith in ap (λ (j : ℕ). crc_from r (take j s)) none
chunks n (suc k) r s =
    let more : n + k * n ≡ suc k * n = grind arith in
    chunks n k (crc_from r (take n s)) (drop n s) ∙ sym (crc_append r (take n s) (take (k * n) (drop n s)))
    ∙ ap (crc_from r) (sym (take-add n (k * n) s) ∙ ap (λ (j : ℕ). take j s) more)

-- q is the register after the chunks cs, and t is the bytes behind them
pub by_chunks : (n r q : ℕ) (s t : Bytes) (cs : List Bytes) → q ≡ fold crc_from r cs → cs ≡ first_chunks n (length s / n) s
    → t ≡ drop (length s / n * n) s → crc_from q t ≡ crc_from r s
by_chunks n r q s t cs is front back =
    let k : ℕ = length s / n in
    ap₂ crc_from (is ∙ ap (fold crc_from r) front ∙ chunks n k r s) back ∙ sym (crc_append r (take (k * n) s) (drop (k * n) s))
    ∙ ap (crc_from r) (take-append-drop (k * n) s)

pub by_bytes : (r : ℕ) (s : Bytes) → fold byte_step r s ≡ crc_from r s
unfolding crc_from
by_bytes r [] = refl
by_bytes r (x ∷ s) = by_bytes (byte_step r x) s

-- ---- the register keeps to 32 bits
crc_lt : (r : ℕ) (s : Bytes) → r < 2 ^ 32 → crc_from r s < 2 ^ 32
unfolding crc_from
crc_lt r [] h = h
crc_lt r (x ∷ s) h = crc_lt (byte_step r x) s (byte_lt r x)

-- ---- the register's own bytes
-- its highest byte moves the others up
own_byte : (r x : ℕ) → r < 2 ^ 32 → x ≡ r / 2 ^ 24 → byte_step r x ≡ r % 2 ^ 24 * 256
unfolding entry bits_step bit_step pick
own_byte r x h e =
    byte_entry r x h (omega arith)
    ∙ ap (λ (n : ℕ). bit_xor (r % 2 ^ 24 * 256) (entry (bit_xor (r / 2 ^ 24) n))) e
    ∙ ap (λ (n : ℕ). bit_xor (r % 2 ^ 24 * 256) (entry n)) (xor_self (r / 2 ^ 24)) ∙ xor_zero_r (r % 2 ^ 24 * 256)

own_bytes : (r : ℕ) → r < 2 ^ 32 → crc_from r (bytes_of r) ≡ 0
unfolding crc_from
own_bytes r h =
    let on : (a b x : ℕ) → a ≡ b → b < 2 ^ 32 → x ≡ b / 2 ^ 24
    → byte_step a x ≡ b % 2 ^ 24 * 256 = λ a b x e k f. ap (λ (n : ℕ). byte_step n x) e ∙ own_byte b x k f in
    let r1 = own_byte r (r / 2 ^ 24) h refl in
    let r2 = on _ (r % 2 ^ 24 * 256) (r / 2 ^ 16 % 256) r1 (omega arith) (omega arith) in
    let r3 = on _ (r % 2 ^ 16 * 2 ^ 16) (r / 2 ^ 8 % 256) (r2 ∙ omega arith) (omega arith) (omega arith) in
    on _ (r % 2 ^ 8 * 2 ^ 24) (r % 256) (r3 ∙ omega arith) (omega arith) (omega arith) ∙ omega arith

pub crc_closed : (s : Bytes) → crc (s ++ crc_bytes s) ≡ 0
crc_closed s = crc_append 0xFFFF_FFFF s (crc_bytes s) ∙ own_bytes (crc s) (crc_lt 0xFFFF_FFFF s (omega arith))
