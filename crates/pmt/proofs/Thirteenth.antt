-- "27 is given where bytes remain after a twelfth that passed": a section that is right up to its entries, with twelve that pass and bytes
-- behind them, is answered by 27, whatever these bytes are (`thirteenth_refused`). Assumes nothing.
use Prim.Native.Nat.{ℕ, zero, suc, ◌+◌, ◌≤◌, ◌<◌}
use mathlib.Core.Bool.{false, not}
use mathlib.Core.Path.{◌≡◌, refl, sym, ap, ◌∙◌}
use mathlib.Core.List.{List, [], ◌∷◌, ◌++◌}
use native.Mathlib.Omega.{arith}
use borrow.Author.Tests.{le-ltb, ltb-false, eq-eqb}
use lib.Dec.{ltb}
use lib.ListN.{length, take, drop, length-append, get_or-append}
use lib.Seq.{take-append-le, drop-append-le}
use Rattle.lists.specs.Lists.{Bytes}
use Rattle.lists.specs.Bytes.{byte}
use Rattle.lists.proofs.Tests.{or_neither}
use Rattle.refusal.specs.Verdict.{passed, refused}
use Rattle.refusal.proofs.Verdicts.{pass_on, go_on, stop, passed_then, passed_after, passed_same, given_passed, never}
use Rattle.descriptor.specs.Edition.{Edition}
use Rattle.psi.specs.Section.{common_wrong, up_to_crc, table_id_extension}
use Rattle.pmt.specs.Pmt.{MapEntry, descriptors, entry_size, entry, pids, most_entries, entries_after, entries, program_info_length}
use Rattle.pmt.specs.Pmt.{program_info, entry_bytes, read_pmt}
use Rattle.pmt.proofs.Reading.{passes}

-- ---- an entry that passed is decided by its own bytes
module _ (map_pid : ℕ) (earlier : List ℕ) (s more : Bytes) (e : MapEntry) (p : entry map_pid earlier s ≡ passed e) where
  fits : (5 ≤ length s) × (entry_size s ≤ length s)
  unfolding entry
  fits =
      let short = or_neither (ltb (length s) 5) (ltb (length s) (entry_size s)) (given_passed 26 _ (passed_after _ _ e p).0) in
      (ltb-false (length s) 5 short.0, ltb-false (length s) (entry_size s) short.1)

  same_byte : (i : ℕ) → i < 5 → byte (s ++ more) i ≡ byte s i
  same_byte i h = let f = fits in get_or-append s more 0 i (omega arith)

  pub same_size : entry_size (s ++ more) ≡ entry_size s
  same_size = rw (same_byte 3 (omega arith), same_byte 4 (omega arith))

  pub entry_alone : entry map_pid earlier (s ++ more) ≡ passed e
  unfolding entry
  entry_alone =
      let f = fits in
      let n = length-append s more in
      let l : ltb (length (s ++ more)) 5 ≡ ltb (length s) 5 = le-ltb (length (s ++ more)) 5 (omega arith) ∙ sym (le-ltb _ _ f.0) in
      let k : ltb (length (s ++ more)) (entry_size s) ≡ ltb (length s) (entry_size s) = le-ltb (length (s ++ more)) (entry_size s)
      (omega arith) ∙ sym (le-ltb _ _ f.1) in
      let t : take (entry_size s) (s ++ more) ≡ take (entry_size s) s = take-append-le (entry_size s) s more f.1 in
      rw (
        same_byte 0 (omega arith),
        same_byte 1 (omega arith),
        same_byte 2 (omega arith),
        same_byte 3 (omega arith),
        same_byte 4 (omega arith),
        t,
        l,
        k,
      ) p

  pub rest_alone : drop (entry_size (s ++ more)) (s ++ more) ≡ drop (entry_size s) s ++ more
  rest_alone = ap (λ (n : ℕ). drop n (s ++ more)) same_size ∙ drop-append-le (entry_size s) s more fits.1

-- ---- as many entries as may come, and bytes behind them
past : (n map_pid : ℕ) (before es : List MapEntry) (s : Bytes) (b : ℕ) (more : Bytes) → entries_after n map_pid before s ≡ passed es
    → length es ≡ length before + n
    → entries_after n map_pid before (s ++ (b ∷ more)) ≡ refused 27 0
unfolding entries_after
past zero map_pid before es [] b more p h = refl
past zero map_pid before es (c ∷ s) b more p h = never p
past (suc n) map_pid before es [] b more p h = absurd (omega (arith, ap length (passed_same before es p)))
past (suc n) map_pid before es (c ∷ s) b more p h =
    let q = passed_then (entry map_pid (pids before) (c ∷ s)) _ es p in
    let e = q.0 in
    let after : List MapEntry = before ++ (e ∷ []) in
    let m : length es ≡ length after + n = omega (arith, length-append before (e ∷ [])) in
    sym
    (go_on e _ (entry_alone map_pid (pids before) (c ∷ s) (b ∷ more) e q.1)
    (sym
    (ap (entries_after n map_pid after) (rest_alone map_pid (pids before) (c ∷ s) (b ∷ more) e q.1)
    ∙ past n map_pid after es (drop (entry_size (c ∷ s)) (c ∷ s)) b more q.2 m)))

-- ---- the section
-- nothing is wrong up to the entries
pub record Right (program : ℕ) (s : Bytes) : Type 0 where
  pub common : common_wrong 2 16 s ≡ false
  pub number : table_id_extension s ≡ program
  pub fits : program_info_length s ≤ length (up_to_crc 12 s)
  pub info : (ds : List Bytes) × (descriptors (program_info s) ≡ passed ds)

pub thirteenth_refused : (edition : Edition) (program map_pid : ℕ) (s : Bytes) → Right program s
    → (twelve : Bytes) (es : List MapEntry) → entries map_pid twelve ≡ passed es → length es ≡ 12
    → (b : ℕ) (more : Bytes) → entry_bytes s ≡ twelve ++ (b ∷ more) → read_pmt edition program map_pid s ≡ refused 27 0
unfolding read_pmt
thirteenth_refused edition program map_pid s r twelve es p n b more e =
    let q : entries map_pid (entry_bytes s) ≡ refused 27 0 =
    ap (entries map_pid) e ∙ past most_entries map_pid [] es twelve b more p (n ∙ refl) in
    sym
    (pass_on 26 r.common
    (pass_on 26 (ap not (eq-eqb _ _ r.number))
    (pass_on 26 (le-ltb _ _ r.fits) (passes r.info.0 r.info.1 (stop 27 0 _ q)))))
