-- The PES header that the segment writer writes is read as it was given: `opens`. Assumes nothing.
use Prim.Native.Nat.{ℕ, ◌+◌, ◌*◌, ◌/◌, ◌%◌, ◌^◌, ◌<◌}
use mathlib.Core.Bool.{true, false}
use mathlib.Core.Path.{◌≡◌, refl, sym, ap, ap₂, subst, ◌∙◌}
use mathlib.Core.Logic.{◌⊎◌, inl, inr}
use mathlib.Core.List.{◌∷◌, ◌++◌}
use native.Mathlib.Omega.{arith}
use borrow.Author.Tests.{eq-eqb, le-ltb, eqb-true}
use lib.Dec.{eqb, ltb}
use lib.ListN.{length}
use Rattle.lists.specs.Lists.{Bytes, pick, same, any}
use Rattle.lists.specs.Bytes.{bit, bits, word}
use Rattle.lists.proofs.Picks.{by_true, by_false}
use Rattle.lists.proofs.Tests.{case}
use Rattle.ticks.specs.declared.Ticks90.{Ticks90}
use Rattle.ticks.specs.Writing.{time_bytes}
use Rattle.ticks.proofs.Writing.{prefix_back, markers_back, stamp_back}
use Rattle.pes.specs.Pes.{header_wrong, no_times, header_of, pes_data, time_stamp_wrong, times_wrong, times_of, least_length_byte}
use Rattle.pes.specs.Pes.{present_dts, stamps as at_times}
use Rattle.pes.specs.Pes as read
use Rattle.pes.specs.Writing.{pts_alone, times, time_flags, length_written, pes_header}

-- ---- a time stamp
stamp_right : (prefix : ℕ) (t : Ticks90) → prefix < 16 → t.0 < 2 ^ 33
    → time_stamp_wrong prefix (prefix * 2 ^ 4 + t.0 / 2 ^ 30 * 2 + 1) (t.0 / 2 ^ 15 % 128 * 2 + 1) (t.0 % 128 * 2 + 1) ≡ false
unfolding time_stamp_wrong any
stamp_right prefix t hp ht =
    let first = prefix * 2 ^ 4 + t.0 / 2 ^ 30 * 2 + 1 in
    let third = t.0 / 2 ^ 15 % 128 * 2 + 1 in
    let fifth = t.0 % 128 * 2 + 1 in
    let m = markers_back prefix t hp ht in
    let p : eqb (bits 7 4 first) prefix ≡ true = eq-eqb (bits 7 4 first) prefix (prefix_back prefix t hp ht) in
    let a : bit 0 first ≡ true = eq-eqb (bits 0 0 first) 1 m.0 in
    let b : bit 0 third ≡ true = eq-eqb (bits 0 0 third) 1 m.1 in
    let c : bit 0 fifth ≡ true = eq-eqb (bits 0 0 fifth) 1 m.2 in
    rw (p, a, b, c)

-- ---- the header
-- what begins with a PTS alone, and with both times; n is the length field
module _ (n : ℕ) (rest : Bytes) where
  abbrev alone : Ticks90 → Bytes
  alone t = 0x00 ∷ 0x00 ∷ 0x01 ∷ 0xBD ∷ n / 256 ∷ n % 256 ∷ (0b10 * 2 ^ 6 + 1 * 2 ^ 2) ∷ (0b10 * 2 ^ 6) ∷ 5 ∷ time_bytes 0b0010 t ++ rest

  abbrev both : Ticks90 → Ticks90 → Bytes
  both t d =
      0x00 ∷ 0x00 ∷ 0x01 ∷ 0xBD ∷ n / 256 ∷ n % 256 ∷ (0b10 * 2 ^ 6 + 1 * 2 ^ 2) ∷ (0b11 * 2 ^ 6) ∷ 10 ∷ time_bytes 0b0011 t
      ++ time_bytes 0b0001 d ++ rest

  alone_right : (t : Ticks90) → t.0 < 2 ^ 33 → header_wrong (alone t) ≡ false
  unfolding header_wrong any same least_length_byte times_wrong pick
  alone_right t h =
      let l : ltb (length (alone t)) 14 ≡ false = le-ltb (length (alone t)) 14 (omega arith) in
      rw (l, stamp_right 0b0010 t (omega arith) h)

  both_right : (t d : Ticks90) → t.0 < 2 ^ 33 → d.0 < 2 ^ 33 → header_wrong (both t d) ≡ false
  unfolding header_wrong any same least_length_byte times_wrong pick
  both_right t d h k =
      let l : ltb (length (both t d)) 19 ≡ false = le-ltb (length (both t d)) 19 (omega arith) in
      rw (l, stamp_right 0b0011 t (omega arith) h, stamp_right 0b0001 d (omega arith) k)

  whole_length : word (n / 256) (n % 256) ≡ n
  whole_length = omega arith

  alone_says : (t : Ticks90) → t.0 < 2 ^ 33 → header_of (alone t) ≡ record { length = n; size = 14; times = at_times t t }
  unfolding times_of read.dts pick
  alone_says t h =
      ap₂ (λ (x : ℕ) (y : Ticks90). record { length = x; size = 14; times = at_times y y }) whole_length (stamp_back 0b0010 t
      (omega arith) h)

  both_says : (t d : Ticks90) → t.0 < 2 ^ 33 → d.0 < 2 ^ 33 → header_of (both t d) ≡ record { length = n; size = 19; times = at_times t d }
  unfolding times_of read.dts pick
  both_says t d h k =
      ap₂ (λ (x : ℕ) (y : Ticks90). record { length = x; size = 19; times = at_times y (present_dts (both t d)) }) whole_length
      (stamp_back 0b0011 t (omega arith) h)
      ∙ ap (λ (y : Ticks90). record { length = n; size = 19; times = at_times t y }) (stamp_back 0b0001 d (omega arith) k)

-- the header by its parts
abbrev form : ℕ → ℕ → Bytes → Bytes → Bytes
form n flags stamps rest =
    0x00 ∷ 0x00 ∷ 0x01 ∷ 0xBD ∷ n / 256 ∷ n % 256 ∷ (0b10 * 2 ^ 6 + 1 * 2 ^ 2) ∷ flags * 2 ^ 6 ∷ length stamps ∷ stamps ++ rest

module _ (pts dts : Ticks90) where
  -- what is said of a payload that begins with the header of these times and a unit of n bytes
  pub record Opens (payload : Bytes) (n : ℕ) (rest : Bytes) : Type 0 where
    pub right : header_wrong payload ≡ false
    pub timed : no_times payload ≡ false
    pub says : header_of payload ≡ record { length = length_written pts dts n; size = 9 + length (times pts dts); times = at_times pts dts }
    pub data_is : pes_data payload ≡ rest

  by_form : (n : ℕ) (rest stamps : Bytes) (flags : ℕ) → time_flags pts dts ≡ flags → times pts dts ≡ stamps
      → pes_header pts dts n ++ rest ≡ form (length_written pts dts n) flags stamps rest
  unfolding pes_header
  by_form n rest stamps flags ef et = ap₂ (λ (x : ℕ) (y : Bytes). form (length_written pts dts n) x y rest) ef et

  pub times_alone : pts_alone pts dts ≡ true → times pts dts ≡ time_bytes 0b0010 pts
  unfolding times
  times_alone e = sym (by_true _ e refl)

  pub times_both : pts_alone pts dts ≡ false → times pts dts ≡ time_bytes 0b0011 pts ++ time_bytes 0b0001 dts
  unfolding times
  times_both e = sym (by_false _ e refl)

  pub flags_alone : pts_alone pts dts ≡ true → time_flags pts dts ≡ 2
  unfolding time_flags
  flags_alone e = sym (by_true _ e refl)

  pub flags_both : pts_alone pts dts ≡ false → time_flags pts dts ≡ 3
  unfolding time_flags
  flags_both e = sym (by_false _ e refl)

  pub opens : (n : ℕ) (rest : Bytes) → pts.0 < 2 ^ 33 → dts.0 < 2 ^ 33 → Opens (pes_header pts dts n ++ rest) n rest
  opens n rest hp hd =
      let m = length_written pts dts n in
      case (pts_alone pts dts)
      (λ e.
      let d : pts ≡ dts = ap (λ (x : ℕ). record { 0 = x }) (eqb-true pts.0 dts.0 e) in
      let t = times_alone e in
      subst (λ (x : Bytes). Opens x n rest) (sym (by_form n rest (time_bytes 0b0010 pts) 2 (flags_alone e) t))
      (record {
        right = alone_right m rest pts hp;
        timed = refl;
        says =
            alone_says m rest pts hp
            ∙ ap₂ (λ (x : ℕ) (y : Ticks90). record { length = m; size = 9 + x; times = at_times pts y }) (sym (ap length t)) d;
        data_is = refl;
      }))
      (λ e.
      let t = times_both e in
      subst (λ (x : Bytes). Opens x n rest) (sym (by_form n rest (time_bytes 0b0011 pts ++ time_bytes 0b0001 dts) 3 (flags_both e) t))
      (record {
        right = both_right m rest pts dts hp hd;
        timed = refl;
        says =
            both_says m rest pts dts hp hd
            ∙ ap (λ (x : ℕ). record { length = m; size = 9 + x; times = at_times pts dts }) (sym (ap length t));
        data_is = refl;
      }))

  -- the header's length
  pub length_times : (length (times pts dts) ≡ 5) ⊎ (length (times pts dts) ≡ 10)
  length_times = case (pts_alone pts dts) (λ e. inl (ap length (times_alone e))) (λ e. inr (ap length (times_both e)))

  pub length_header : (n : ℕ) → length (pes_header pts dts n) ≡ 9 + length (times pts dts)
  unfolding pes_header
  length_header n = omega arith
