-- Bytes put into an output one string behind the other. Assumes nothing.
use Prim.Native.Nat.{ℕ, zero, suc, ◌+◌, ◌-◌, ◌*◌, ◌/◌, ◌%◌, ◌^◌, ◌≤◌, ◌<◌}
use mathlib.Core.Bool.{Bool, true, false}
use mathlib.Core.Path.{◌≡◌, refl, sym, ap, ap₂, ◌∙◌}
use mathlib.Core.List.{[], ◌∷◌, ◌++◌, append_assoc}
use native.Mathlib.Omega.{arith}
use lib.ListN.{length, take, drop, get_or, set, length-append}
use lib.Seq.{drop-drop, take-append_seam, drop-append_seam}
use Rattle.lists.specs.Lists.{Bytes, over, placed, pick}
use borrow.Rule.Slice.PartMut.{mid_of, put_mid}
use Rattle.lists.proofs.Parts.{tail_placed}
use Rattle.ticks.specs.declared.Ticks27.{Ticks27}
use Rattle.ticks.specs.declared.Ticks90.{Ticks90}
use Rattle.ticks.specs.Writing.{time_bytes}
use Rattle.std.specs.Int.{w32, to_be_bytes}
use Rattle.crc.specs.Crc.{bytes_of}
use Rattle.packet.specs.Writing.{flag, stuffing, header, most, control, adaptation_field, carrying}
use Rattle.psi.specs.Writing.{section_payload}
use Rattle.psi.proofs.Writing.{length_payload}
use Rattle.ticks.specs.Writing.{pcr_bytes}
use Rattle.lists.proofs.Writing.{length_over}
use Rattle.packet_writer.specs.Parts.{base_bytes}

-- v behind w, which stands at the front
pub behind_put : (w v out s : Bytes) (n : ℕ) → n ≡ length w → s ≡ over w out → placed s n v ≡ over (w ++ v) out
behind_put w v out s n e o =
    let r = drop (length w) out in
    ap₂ (λ (k : ℕ) (x : Bytes). take k x ++ over v (drop k x)) e o
    ∙ ap₂ (λ (x y : Bytes). x ++ over v y) (take-append_seam w r) (drop-append_seam w r)
    ∙ ap (λ (x : Bytes). w ++ (v ++ x)) (drop-drop (length v) (length w) out ∙ ap (λ (k : ℕ). drop k out) (sym (length-append w v)))
    ∙ sym (append_assoc w v (drop (length (w ++ v)) out))

-- one byte at the front
pub first_set : (out : Bytes) (b : ℕ) → 0 < length out → set out 0 b ≡ over (b ∷ []) out
first_set [] b h = absurd (omega arith)
first_set (x ∷ out) b h = refl

-- ---- a CRC, the highest byte first
pub crc_high_first : (r : ℕ) → r < 2 ^ 32 → to_be_bytes w32 r ≡ bytes_of r
crc_high_first r h =
    let e : r / 2 ^ 24 % 256 ≡ r / 2 ^ 24 = omega arith in
    ap (λ (b : ℕ). b ∷ r / 2 ^ 16 % 256 ∷ r / 2 ^ 8 % 256 ∷ r % 256 ∷ []) e

-- ---- the header's bytes
pub flag_on : (b : Bool) → b ≡ true → flag b ≡ 1
unfolding flag pick
flag_on b e = rw e

pub flag_off : (b : Bool) → b ≡ false → flag b ≡ 0
unfolding flag pick
flag_off b e = rw e

-- as the code writes it
pub header_by : (start : Bool) (pid control counter f : ℕ) (w : Bytes) → f ≡ flag start * 64 → w ≡ pid / 256 ∷ pid % 256 ∷ []
    → 71 ∷ (f + get_or w 0 0) ∷ get_or w 1 0 ∷ (control * 16 + counter) ∷ [] ≡ header pid start control counter
header_by start pid control counter f w ef ew = rw (ew, ef) refl

pub control_none : (n : ℕ) → n ≡ 0 → 1 ≡ control n
unfolding control
control_none n e = rw e

pub control_some : (n : ℕ) → (n ≡ 0 → ⊥) → 3 ≡ control n
unfolding control
control_some zero e = absurd (e refl)
control_some (suc n) e = refl

-- ---- the adaptation field, by how many bytes it takes
pub field_none : (n flags : ℕ) (out : Bytes) → n ≡ 0 → out ≡ over (adaptation_field n flags) out
unfolding adaptation_field
field_none n flags out e = rw e

pub field_one : (n flags : ℕ) (out : Bytes) → n ≡ 1 → 0 < length out → set out 0 0 ≡ over (adaptation_field n flags) out
unfolding adaptation_field
field_one n flags out e h = rw e (first_set out 0 h)

pub field_more : (n flags : ℕ) → (n ≡ 0 → ⊥) → (n ≡ 1 → ⊥) → (n - 1) ∷ flags ∷ stuffing (n - 2) ≡ adaptation_field n flags
unfolding adaptation_field
field_more zero flags a b = absurd (a refl)
field_more (suc zero) flags a b = absurd (b refl)
field_more (suc (suc n)) flags a b =
    let x : suc (suc n) - 1 ≡ suc n = omega arith in
    let y : suc (suc n) - 2 ≡ n = omega arith in
    ap₂ (λ (i j : ℕ). i ∷ flags ∷ stuffing j) x y

-- v put by a call into what is left behind w
pub put_next : (w v out s after : Bytes) (n : ℕ) → n ≡ length w → s ≡ over w out → length w + length v ≤ length out
    → after ≡ over v (mid_of n (length s - n) s)
    → put_mid n (length s - n) s after ≡ over (w ++ v) out
put_next w v out s after n e o h a =
    let l : length s ≡ length out = ap length o ∙ length_over w out (omega arith) in
    tail_placed n s v after (omega arith) a ∙ behind_put w v out s n e o

pub control_lt : (n : ℕ) → control n < 4
unfolding control
control_lt zero = omega arith
control_lt (suc n) = omega arith

-- ---- the PCR, byte by byte
pub pcr_by : (t : Ticks27) (w : Bytes) (x : ℕ) → w ≡ base_bytes (t.0 / 300) → x ≡ t.0 / 300 % 2 * 128 + 126 + t.0 % 300 / 256
    → get_or w 0 0 ∷ get_or w 1 0 ∷ get_or w 2 0 ∷ get_or w 3 0 ∷ x ∷ t.0 % 300 % 256 ∷ [] ≡ pcr_bytes t
pcr_by t w x e f = rw (e, f)

-- ---- a time stamp, byte by byte
pub time_by : (prefix : ℕ) (t : Ticks90) (a b c : ℕ) → a ≡ prefix * 16 + t.0 / 1073741824 * 2 + 1 → b ≡ t.0 / 32768 % 128 * 2 + 1
    → c ≡ t.0 % 128 * 2 + 1
    → a ∷ t.0 / 4194304 % 256 ∷ b ∷ t.0 / 128 % 256 ∷ c ∷ [] ≡ time_bytes prefix t
time_by prefix t a b c e f g = rw (e, f, g)

-- ---- a section's packet: it has no adaptation field
pub section_as : (pid counter : ℕ) (s : Bytes) → length s ≤ 183
    → header pid true 1 counter ++ (0 ∷ s ++ stuffing (183 - length s)) ≡ carrying pid true counter 0 (section_payload s)
unfolding carrying control adaptation_field
section_as pid counter s h =
    let n : most - length (section_payload s) ≡ 0 = omega (arith, length_payload s h) in
    ap (λ (k : ℕ). header pid true (control k) counter ++ (adaptation_field k 0 ++ section_payload s)) (sym n)
