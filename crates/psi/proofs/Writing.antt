-- The sections that the segment writer writes: how each lies in its packet (`placed`, `section_back`), that its CRC is right (`crc_right`),
-- what both tables have in common (`common_right`), and that the PAT is read as it was given (`pat_read`). Assumes nothing.
use Prim.Native.Nat.{ℕ, zero, suc, ◌+◌, ◌-◌, ◌*◌, ◌/◌, ◌%◌, ◌^◌, ◌≤◌}
use mathlib.Core.Bool.{true, false, not}
use mathlib.Core.Path.{◌≡◌, refl, sym, ap, ap₂, ◌∙◌}
use mathlib.Core.List.{[], ◌∷◌, ◌++◌}
use native.Mathlib.Omega.{arith}
use borrow.Author.Tests.{eq-eqb, ne_eqb, le-ltb}
use lib.Dec.{eqb, ltb}
use lib.ListN.{length, take, drop, replicate, length-append, length-replicate}
use lib.Seq.{take-append_seam, drop-append_seam}
use Rattle.lists.specs.Lists.{Bytes, all, those}
use Rattle.lists.specs.Bytes.{byte, bits, bit, word}
use Rattle.lists.proofs.Elements.{those_first}
use Rattle.refusal.specs.Verdict.{passed}
use Rattle.refusal.proofs.Verdicts.{pass_on}
use Rattle.crc.specs.Crc.{crc, crc_bytes}
use Rattle.psi.specs.Section.{before_crc, crc32, up_to_crc, section_size, misplaced, section_of, behind_pointer, fields_wrong, crc_wrong}
use Rattle.psi.specs.Section.{common_wrong}
use Rattle.psi.specs.declared.pat.Program.{Program}
use Rattle.psi.specs.Pat.{read_pat, programs, one_program, map_pid_in_range, not_zero, entry_of}
use Rattle.psi.specs.Writing.{section_body, section, section_payload, pat_rest, pat}

-- ---- the CRC
length_closed : (body : Bytes) → length (body ++ crc_bytes body) ≡ length body + 4
length_closed body = length-append body (crc_bytes body)

before_crc_lem : (body : Bytes) → before_crc (body ++ crc_bytes body) ≡ body
before_crc_lem body =
    let n : length (body ++ crc_bytes body) - 4 ≡ length body = omega (arith, length_closed body) in
    ap (λ (k : ℕ). take k (body ++ crc_bytes body)) n ∙ take-append_seam body (crc_bytes body)

after_crc : (body : Bytes) → drop (length (body ++ crc_bytes body) - 4) (body ++ crc_bytes body) ≡ crc_bytes body
after_crc body =
    let n : length (body ++ crc_bytes body) - 4 ≡ length body = omega (arith, length_closed body) in
    ap (λ (k : ℕ). drop k (body ++ crc_bytes body)) n ∙ drop-append_seam body (crc_bytes body)

register : (r : ℕ) → word (word (word (r / 2 ^ 24) (r / 2 ^ 16 % 256)) (r / 2 ^ 8 % 256)) (r % 256) ≡ r
register r = omega arith

pub crc_right : (body : Bytes) → crc_wrong (body ++ crc_bytes body) ≡ false
unfolding crc_wrong
crc_right body =
    let c : crc32 (body ++ crc_bytes body) ≡ crc body =
    ap (λ (last : Bytes). word (word (word (byte last 0) (byte last 1)) (byte last 2)) (byte last 3)) (after_crc body)
    ∙ register (crc body) in
    ap not (eq-eqb (crc (before_crc (body ++ crc_bytes body))) (crc32 (body ++ crc_bytes body)) (ap crc (before_crc_lem body) ∙ sym c))

-- ---- a section
module _ (table extension : ℕ) (rest : Bytes) (short : length rest ≤ 171) where
  pub length_section : length (section table extension rest) ≡ 12 + length rest
  length_section = omega (arith, length_closed (section_body table extension rest))

  -- what stands behind the eight bytes that both tables begin with
  pub up_to_crc_lem : up_to_crc 8 (section table extension rest) ≡ rest
  up_to_crc_lem = ap (drop 8) (before_crc_lem (section_body table extension rest))

  syntax : bit 7 (0b1011 * 2 ^ 4 + (9 + length rest) / 256) ≡ true
  syntax = eq-eqb (bits 7 7 (0b1011 * 2 ^ 4 + (9 + length rest) / 256)) 1 (omega arith)

  fields_right : fields_wrong table (section table extension rest) ≡ false
  unfolding fields_wrong
  fields_right = rw (eq-eqb table table refl, syntax)

  pub common_right : (least : ℕ) → least ≤ 12 + length rest → common_wrong table least (section table extension rest) ≡ false
  unfolding common_wrong
  common_right least h =
      let l : ltb (length (section table extension rest)) least ≡ false =
      le-ltb (length (section table extension rest)) least (omega (arith, length_section)) in
      rw (l, fields_right) (crc_right (section_body table extension rest))

  -- ---- in its packet's payload
  abbrev stuffing : ℕ → Bytes
  stuffing n = replicate n 0xFF

  abbrev payload_with : ℕ → Bytes
  payload_with n = 0 ∷ section table extension rest ++ stuffing n

  size_back : (n : ℕ) → section_size (behind_pointer (payload_with n)) ≡ length (section table extension rest)
  size_back n = omega (arith, length_section)

  all_stuffing : (n : ℕ) → all (eqb 0xFF) (stuffing n) ≡ true
  unfolding all
  all_stuffing zero = refl
  all_stuffing (suc n) = all_stuffing n

  placed_with : (n : ℕ) → misplaced true (payload_with n) ≡ false
  unfolding misplaced
  placed_with n =
      let s = section table extension rest in
      let l : ltb (length (s ++ stuffing n)) (section_size (s ++ stuffing n)) ≡ false =
      le-ltb (length (s ++ stuffing n)) (section_size (s ++ stuffing n)) (omega (arith, size_back n, length-append s (stuffing n))) in
      let a : all (eqb 0xFF) (drop (section_size (s ++ stuffing n)) (s ++ stuffing n)) ≡ true =
      ap (λ (k : ℕ). all (eqb 0xFF) (drop k (s ++ stuffing n))) (size_back n) ∙ ap (all (eqb 0xFF)) (drop-append_seam s (stuffing n))
      ∙ all_stuffing n in
      rw (l, a)

  back_with : (n : ℕ) → section_of (payload_with n) ≡ section table extension rest
  back_with n =
      ap (λ (k : ℕ). take k (section table extension rest ++ stuffing n)) (size_back n)
      ∙ take-append_seam (section table extension rest) (stuffing n)

  pub placed : misplaced true (section_payload (section table extension rest)) ≡ false
  placed = placed_with (183 - length (section table extension rest))

  pub section_back : section_of (section_payload (section table extension rest)) ≡ section table extension rest
  section_back = back_with (183 - length (section table extension rest))

-- the payload fills its packet
pub length_payload : (s : Bytes) → length s ≤ 183 → length (section_payload s) ≡ 184
length_payload s h = omega (arith, length-append s (replicate (183 - length s) 0xFF), length-replicate {A = ℕ} (183 - length s) 0xFF)

-- ---- the PAT
module _ (program map_pid : ℕ) (some : program ≡ 0 → ⊥) (low : 0x0010 ≤ map_pid) (high : map_pid ≤ 0x1FFE) where
  abbrev pub said : Program
  said = record { number = program; map_pid = map_pid }

  one_entry : entry_of (program / 256) (program % 256) (0b111 * 2 ^ 5 + map_pid / 256) (map_pid % 256) ≡ said
  one_entry =
      let n : word (program / 256) (program % 256) ≡ program = omega arith in
      let m : word (bits 4 0 (0b111 * 2 ^ 5 + map_pid / 256)) (map_pid % 256) ≡ map_pid = omega arith in
      ap₂ (λ (x y : ℕ). record { number = x; map_pid = y }) n m

  in_range : map_pid_in_range said ≡ passed said
  unfolding map_pid_in_range
  in_range = sym (pass_on 25 (le-ltb map_pid 0x0010 low) (pass_on 25 (le-ltb 0x1FFE map_pid high) refl))

  one_program_lem : one_program (those not_zero (programs (pat_rest program map_pid))) ≡ passed said
  unfolding programs one_program those
  one_program_lem =
      ap (λ (p : Program). one_program (those not_zero (p ∷ []))) one_entry
      ∙ ap one_program (those_first not_zero said [] (ap not (ne_eqb program 0 some))) ∙ in_range

  pub pat_read : read_pat (pat program map_pid) ≡ passed said
  unfolding read_pat
  pat_read =
      let e : up_to_crc 8 (pat program map_pid) ≡ pat_rest program map_pid = up_to_crc_lem 0 0 (pat_rest program map_pid) (omega arith) in
      let m : not (eqb (length (up_to_crc 8 (pat program map_pid)) % 4) 0) ≡ false = ap (λ (s : Bytes). not (eqb (length s % 4) 0)) e in
      sym (pass_on 25 (common_right 0 0 (pat_rest program map_pid) (omega arith) 12 (omega arith))
      (pass_on 25 m (sym (ap (λ (s : Bytes). one_program (those not_zero (programs s))) e ∙ one_program_lem))))
