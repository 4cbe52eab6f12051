-- The header of a PES byte by byte, and how many bytes it has. Assumes nothing.
use Prim.Native.Nat.{ℕ, ◌+◌, ◌*◌, ◌/◌, ◌%◌}
use mathlib.Core.Bool.{true, false}
use mathlib.Core.Path.{◌≡◌, refl, sym, ap, ap₂, ◌∙◌}
use mathlib.Core.List.{[], ◌∷◌, ◌++◌}
use borrow.Author.Tests.{eq-eqb, ne_eqb}
use lib.ListN.{length, get_or}
use Rattle.lists.specs.Lists.{Bytes}
use Rattle.lists.proofs.Picks.{by_true, by_false}
use Rattle.lists.proofs.Tests.{case}
use Rattle.ticks.specs.declared.Ticks90.{Ticks90}
use Rattle.ticks.specs.Writing.{time_bytes}
use Rattle.pes.specs.Writing.{pts_alone, times, time_flags, length_written, pes_header}
use Rattle.pes.proofs.Writing.{times_alone, times_both, flags_alone, flags_both, length_header}
use Rattle.packet_writer.specs.Parts.{field_of}
use Rattle.packet_writer.specs.Putting.{head_size}

module _ (pts dts : Ticks90) (n : ℕ) where
  -- byte by byte, of its length field and its time stamps
  abbrev written : ℕ → ℕ → Bytes → Bytes
  written field flags stamps = 0 ∷ 0 ∷ 1 ∷ 189 ∷ field / 256 ∷ field % 256 ∷ 132 ∷ flags * 64 ∷ length stamps ∷ stamps

  by_parts : (stamps : Bytes) (flags : ℕ) → times pts dts ≡ stamps → time_flags pts dts ≡ flags
      → pes_header pts dts n ≡ written (field_of (3 + length stamps + n)) flags stamps
  unfolding pes_header length_written field_of
  by_parts stamps flags et ef = ap₂ (λ (s : Bytes) (f : ℕ). written (field_of (3 + length s + n)) f s) et ef

  pub header_alone : pts_alone pts dts ≡ true → pes_header pts dts n ≡ written (field_of (8 + n)) 2 (time_bytes 2 pts)
  header_alone e = by_parts (time_bytes 2 pts) 2 (times_alone pts dts e) (flags_alone pts dts e)

  pub header_both : pts_alone pts dts ≡ false → pes_header pts dts n ≡ written (field_of (13 + n)) 3 (time_bytes 3 pts ++ time_bytes 1 dts)
  header_both e = by_parts (time_bytes 3 pts ++ time_bytes 1 dts) 3 (times_both pts dts e) (flags_both pts dts e)

  pub header_size : length (pes_header pts dts n) ≡ head_size pts dts
  unfolding head_size
  header_size =
      case (pts_alone pts dts)
      (λ e. length_header pts dts n ∙ ap (λ (s : Bytes). 9 + length s) (times_alone pts dts e) ∙ by_true _ e refl)
      (λ e. length_header pts dts n ∙ ap (λ (s : Bytes). 9 + length s) (times_both pts dts e) ∙ by_false _ e refl)

-- as the code writes it
pub pts_by : (t : Ticks90) (n f : ℕ) (l w : Bytes) → f ≡ field_of (8 + n) → l ≡ f / 256 ∷ f % 256 ∷ [] → w ≡ time_bytes 2 t
    → 0 ∷ 0 ∷ 1 ∷ 189 ∷ get_or l 0 0 ∷ get_or l 1 0 ∷ 132 ∷ 128 ∷ 5 ∷ get_or w 0 0 ∷ get_or w 1 0 ∷ get_or w 2 0 ∷ get_or w 3 0 ∷
    get_or w 4 0 ∷ [] ≡ pes_header t t n
pts_by t n f l w ef el ew = rw (ew, el, ef) (sym (header_alone t t n (eq-eqb t.0 t.0 refl)))

pub both_by : (t d : Ticks90) (n f : ℕ) (l w v : Bytes) → (t.0 ≡ d.0 → ⊥) → f ≡ field_of (13 + n) → l ≡ f / 256 ∷ f % 256 ∷ []
    → w ≡ time_bytes 3 t → v ≡ time_bytes 1 d
    → 0 ∷ 0 ∷ 1 ∷ 189 ∷ get_or l 0 0 ∷ get_or l 1 0 ∷ 132 ∷ 192 ∷ 10 ∷ get_or w 0 0 ∷ get_or w 1 0 ∷ get_or w 2 0 ∷ get_or w 3 0 ∷
    get_or w 4 0 ∷ get_or v 0 0 ∷ get_or v 1 0 ∷ get_or v 2 0 ∷ get_or v 3 0 ∷ get_or v 4 0 ∷ [] ≡ pes_header t d n
both_by t d n f l w v ne ef el ew ev = rw (ew, ev, el, ef) (sym (header_both t d n (ne_eqb t.0 d.0 ne)))

-- both times are one
pub same_time : (pts dts : Ticks90) → pts.0 ≡ dts.0 → pts ≡ dts
same_time pts dts e = ap (λ (x : ℕ). record { 0 = x }) e
