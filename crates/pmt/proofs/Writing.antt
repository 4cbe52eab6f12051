-- The PMT that the segment writer writes is read as the caller gave it: `pmt_read`. Assumes nothing.
use Prim.Native.Nat.{ℕ, ◌+◌, ◌*◌, ◌/◌, ◌%◌, ◌^◌, ◌≤◌}
use mathlib.Core.Bool.{false, not}
use mathlib.Core.Path.{◌≡◌, refl, sym, ap, ap₂, ◌∙◌, subst}
use mathlib.Core.List.{[], ◌∷◌, ◌++◌}
use native.Mathlib.Omega.{arith}
use borrow.Author.Tests.{eq-eqb, ne_eqb, le-ltb, eqb-true, not-false}
use lib.Dec.{ltb}
use lib.ListN.{length, drop, drop_of_length-le}
use Rattle.lists.specs.Lists.{Bytes, pick, same, any, those}
use Rattle.lists.specs.Bytes.{byte, bits, word}
use Rattle.lists.proofs.Parts.{next3}
use Rattle.lists.proofs.Tests.{or_neither}
use Rattle.refusal.specs.Verdict.{passed, ◌>>=◌, ◌>>◌, given}
use Rattle.refusal.proofs.Verdicts.{pass_on, go_on}
use Rattle.descriptor.specs.Descriptor.{wrong, registration, av01}
use Rattle.descriptor.specs.Edition.{current}
use Rattle.psi.specs.Section.{up_to_crc}
use Rattle.psi.proofs.Writing.{common_right, up_to_crc_lem}
use Rattle.pmt.specs.Pmt.{MapEntry, MapContent, read_pmt, entries, entries_after, entry, descriptors, descriptors_within, av1_entry}
use Rattle.pmt.specs.Pmt.{one_av1, is_av1, misplaced_registration, registration_first, registration_later, video_wrong, pid_wrong}
use Rattle.pmt.specs.Writing.{pmt_rest, pmt, map_for}

-- ---- the PMT
-- a video descriptor that 40 does not refuse: its tag, its length, and four bytes
pub six : (d : Bytes) → wrong d ≡ false → d ≡ 0x80 ∷ 0x04 ∷ byte d 2 ∷ byte d 3 ∷ byte d 4 ∷ byte d 5 ∷ []
unfolding wrong
six d e =
    let last = or_neither _ _ e in
    let first = or_neither _ _ last.0 in
    let size = or_neither _ _ first.0 in
    let tag = or_neither _ _ size.0 in
    let long : length d ≡ 6 = eqb-true _ _ (not-false _ tag.0) in
    let t : byte d 0 ≡ 0x80 = eqb-true _ _ (not-false _ tag.1) in
    let z : byte d 1 ≡ 0x04 = eqb-true _ _ (not-false _ size.1) in
    next3 d 0 (omega arith) ∙ ap (λ (l : Bytes). byte d 0 ∷ byte d 1 ∷ byte d 2 ∷ l)
    (next3 d 3 (omega arith) ∙ ap (λ (l : Bytes). byte d 3 ∷ byte d 4 ∷ byte d 5 ∷ l) (drop_of_length-le d {i = 6} (omega arith)))
    ∙ ap₂ (λ (x y : ℕ). x ∷ y ∷ byte d 2 ∷ byte d 3 ∷ byte d 4 ∷ byte d 5 ∷ []) t z

module _ (program map_pid pid a b c f : ℕ) (p0 : pid ≡ 0 → ⊥) (high : pid ≤ 0x1FFE) (p2 : pid ≡ map_pid
    → ⊥) (fine : wrong (0x80 ∷ 0x04 ∷ a ∷ b ∷ c ∷ f ∷ []) ≡ false) where
  abbrev video : Bytes
  video = 0x80 ∷ 0x04 ∷ a ∷ b ∷ c ∷ f ∷ []

  abbrev listed : MapEntry
  listed = record { stream_type = 0x06; pid = pid; descriptors = registration av01 ∷ video ∷ [] }

  abbrev entry_bytes : Bytes
  entry_bytes = 0x06 ∷ (0b111 * 2 ^ 5 + pid / 256) ∷ pid % 256 ∷ 0xF0 ∷ 12 ∷ registration av01 ++ video

  loop_read : descriptors (registration av01 ++ video) ≡ passed (registration av01 ∷ video ∷ [])
  unfolding descriptors_within given pick ◌>>◌ ◌>>=◌
  loop_read = refl

  pid_back : word (bits 4 0 (0b111 * 2 ^ 5 + pid / 256)) (pid % 256) ≡ pid
  pid_back = omega arith

  pid_right : pid_wrong map_pid [] pid ≡ false
  unfolding pid_wrong any
  pid_right = rw (ne_eqb pid 0 p0, ne_eqb pid 0x1FFF (λ (e : pid ≡ 0x1FFF). omega arith), ne_eqb pid map_pid p2)

  entry_read : entry map_pid [] entry_bytes ≡ passed listed
  unfolding entry given pick ◌>>◌ ◌>>=◌
  entry_read = rw (loop_read, pid_back, pid_right)

  entries_read : entries map_pid entry_bytes ≡ passed (listed ∷ [])
  unfolding entries_after ◌>>=◌
  entries_read = rw entry_read

  av1_read : av1_entry current (listed ∷ []) ≡ passed listed
  unfolding av1_entry any misplaced_registration registration_later registration_first same those is_av1 one_av1 video_wrong given pick ◌>>◌
  av1_read = rw fine

  abbrev pub mapped : MapContent
  mapped = record { pcr_pid = pid; entries = listed ∷ []; av1 = listed }

  up_to_entries : up_to_crc 12 (pmt program pid video) ≡ entry_bytes
  up_to_entries = ap (drop 4) (up_to_crc_lem 2 program (pmt_rest pid video) (omega arith))

  pmt_read_six : read_pmt current program map_pid (pmt program pid video) ≡ passed mapped
  unfolding read_pmt descriptors_within ◌>>◌ ◌>>=◌
  pmt_read_six =
      let s = pmt program pid video in
      let n : word (program / 256) (program % 256) ≡ program = omega arith in
      let m : ltb (length (up_to_crc 12 s)) 0 ≡ false = le-ltb (length (up_to_crc 12 s)) 0 (omega arith) in
      let k : entries map_pid (up_to_crc 12 s) ≡ passed (listed ∷ []) = ap (entries map_pid) up_to_entries ∙ entries_read in
      sym (pass_on 26 (common_right 2 program (pmt_rest pid video) (omega arith) 16 (omega arith))
      (pass_on 26 (ap not (eq-eqb (word (program / 256) (program % 256)) program n))
      (pass_on 26 m
      (go_on (listed ∷ []) _ k
      (go_on listed _ av1_read (ap (λ (x : ℕ). passed (record { pcr_pid = x; entries = listed ∷ []; av1 = listed })) (sym pid_back)))))))

-- the same of every descriptor that 40 does not refuse
pub pmt_read : (program map_pid pid : ℕ) (d : Bytes) → (pid ≡ 0 → ⊥) → pid ≤ 0x1FFE → (pid ≡ map_pid → ⊥) → wrong d ≡ false
    → read_pmt current program map_pid (pmt program pid d) ≡ passed (map_for pid d)
pmt_read program map_pid pid d p0 high p2 e =
    let six-bytes = six d e in
    subst (λ (x : Bytes). read_pmt current program map_pid (pmt program pid x) ≡ passed (map_for pid x)) (sym six-bytes)
    (pmt_read_six program map_pid pid (byte d 2) (byte d 3) (byte d 4) (byte d 5) p0 high p2 (ap wrong (sym six-bytes) ∙ e))

pub video_length : (d : Bytes) → wrong d ≡ false → length d ≡ 6
video_length d e = ap length (six d e)
