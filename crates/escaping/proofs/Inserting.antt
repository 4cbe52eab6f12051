-- A pass that counts the bytes that escaping puts (`Inserts`). Assumes nothing.
use Prim.Native.Nat.{ℕ, suc, ◌+◌, ◌-◌, ◌≤◌, ◌<◌}
use mathlib.Core.Bool.{true, false}
use mathlib.Core.Path.{◌≡◌, ap}
use native.Mathlib.Omega.{arith}
use lib.ListN.{length, drop, get_or, length-drop}
use Rattle.lists.specs.Lists.{Bytes}
use Rattle.lists.proofs.Parts.{next}
use Rattle.emulation.specs.Payload.{escape, inserted}
use Rattle.emulation.specs.Blocks.{hits, block}
use Rattle.emulation.specs.Parts.{critical}
use Rattle.escaping.specs.Parts.{tripled, clean, single, Inserts}
use Rattle.emulation.proofs.Theorems.{escape_longer}
use Rattle.escaping.proofs.Clean.{escape_one, escape_at_critical, escape_at_uncritical, critical_fits, clean_keeps}
use Rattle.emulation.proofs.Keeping.{last_passes}
use Rattle.escaping.proofs.Clean.{escape_keeps}
use Rattle.emulation.proofs.Hits.{one, one_most, is_free, none_counts}
use Rattle.emulation.proofs.Passes.{counts_none, counts_some}

-- a place at which 00 00 and a byte of 0 to 3 do not stand
pub inserts_plain : (s : Bytes) (i j d : ℕ) → Inserts s i j d → j < length s → critical (drop j s) ≡ false → Inserts s i (j + 1) d
inserts_plain s i j d a h e = counts_none a 1 (omega arith) (omega (arith, ap length (escape_at_uncritical s j h e)))

-- a place at which they stand: after the 00 00 a 03 is put
pub inserts_critical : (s : Bytes) (i j d : ℕ) → Inserts s i j d → critical (drop j s) ≡ true → Inserts s i (j + 2) (d + 1)
inserts_critical s i j d a e =
    counts_some a 2 1 (omega arith) (omega (arith, critical_fits s j a.within e))
    (omega (arith, ap length (escape_at_critical s j e)))

-- a clean block
pub inserts_clean : (s : Bytes) (i j d : ℕ) → Inserts s i j d → clean (drop j s) ≡ true → Inserts s i (j + block) d
inserts_clean s i j d a e = clean_keeps s (λ k. Inserts s i k d) (λ k m f p. inserts_plain s i k d p m f) j e a

-- a place at which 00 00 00 does not stand
inserts_one : (s : Bytes) (i j d : ℕ) → Inserts s i j d → j < length s → tripled (drop j s) ≡ false
    → Inserts s i (j + 1) (d + one (critical (drop j s)))
inserts_one s i j d a h e =
    let n = next s j h in
    let l : length (escape (drop j s))
    ≡ suc (one (critical (drop j s)) + length (escape (drop (j + 1) s))) = rw n (escape_one (get_or s j 0) (drop (j + 1) s) (rw n at e)) in
    counts_some a 1 (one (critical (drop j s))) (one_most (critical (drop j s))) (omega arith) (omega arith)

-- a block without 00 00 00
pub inserts_single : (s : Bytes) (i j d : ℕ) → Inserts s i j d → single (drop j s) ≡ true
    → Inserts s i (j + block) (d + hits critical block (drop j s))
inserts_single s i j d a e =
    let h = is_free tripled s j e in
    none_counts tripled critical s (λ k m. Inserts s i k m) (λ k m l f p. inserts_one s i k m p l f) block j d
    (omega (arith, h.0)) h.1 a

-- at most two bytes are left
pub inserts_end : (s : Bytes) (j d : ℕ) → Inserts s 0 j d → length s - 2 ≤ j → d ≡ inserted s
inserts_end s j d a h = omega (arith, a.less, a.within, ap length (last_passes critical escape escape_keeps s j h), length-drop j s)

-- the length of the escaped form
pub escaped_length : (b : Bytes) → length b + inserted b ≡ length (escape b)
escaped_length b = omega (arith, escape_longer b)
