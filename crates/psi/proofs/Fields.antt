-- A section whose common fields are right has its bytes; the CRC that a section carries, read at its place, and the bytes up to it as the
-- code has them. Assumes nothing.
use Prim.Native.Nat.{ℕ, ◌+◌, ◌-◌, ◌≤◌}
use mathlib.Core.Bool.{false, ◌||◌}
use mathlib.Core.Path.{◌≡◌, sym, ap, ap₂, ◌∙◌}
use native.Mathlib.Nat.{add-zero}
use native.Mathlib.Omega.{arith}
use borrow.Author.Tests.{ltb-false}
use lib.Dec.{ltb}
use lib.ListN.{length, take, drop, length-drop}
use lib.Seq.{get_or-drop, length-take-le}
use Rattle.lists.specs.Lists.{Bytes}
use Rattle.lists.specs.Bytes.{byte, word}
use Rattle.lists.proofs.Parts.{drop_take}
use Rattle.lists.proofs.Tests.{or_neither}
use Rattle.psi.specs.Section.{before_crc}
use Rattle.psi.specs.Section.{crc32, up_to_crc, fields_wrong, crc_wrong, common_wrong}

-- a section that is not wrong has so many bytes
pub long_enough : (table : ℕ) (s : Bytes) (least : ℕ) → common_wrong table least s ≡ false → least ≤ length s
unfolding common_wrong
long_enough table s least e =
    let shorter = (or_neither (ltb (length s) least) (fields_wrong table s)
    (or_neither (ltb (length s) least || fields_wrong table s) (crc_wrong s) e).0).0 in
    ltb-false (length s) least shorter

-- ---- the CRC
pub crc_at : (s : Bytes) (at : ℕ) → at ≡ length s - 4 → word (word (word (byte s at) (byte s (at + 1))) (byte s (at + 2))) (byte s (at + 3))
    ≡ crc32 s
crc_at s at e =
    let from : (k : ℕ) → byte s (at + k) ≡ byte (drop (length s - 4) s) k = λ k. ap (λ (n : ℕ). byte s (n + k)) e
    ∙ sym (get_or-drop (length s - 4) s k 0) in
    let first : byte s at ≡ byte s (at + 0) = ap (byte s) (sym (add-zero at)) in
    ap₂ word (ap₂ word (ap₂ word (first ∙ from 0) (from 1)) (from 2)) (from 3)

-- ---- the bytes up to the CRC
-- as `&section[n..length - 4]` is lent
pub up_to_crc_lem : (s : Bytes) (n : ℕ) → n ≤ length s - 4 → take (length s - 4 - n) (drop n s) ≡ up_to_crc n s
up_to_crc_lem s n h = sym (drop_take n (length s - 4) s h)

pub up_to_crc_length : (s : Bytes) (n : ℕ) → length (up_to_crc n s) ≡ length s - 4 - n
up_to_crc_length s n = length-drop n (before_crc s) ∙ ap (λ (k : ℕ). k - n) (length-take-le (length s - 4) s (omega arith))
