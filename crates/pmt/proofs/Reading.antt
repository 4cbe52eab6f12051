-- The map from the listed entries, and the section as a whole, as the code reads it. Assumes nothing.
use Prim.Native.Nat.{ℕ, ◌+◌, ◌-◌, ◌≤◌, ◌<◌}
use mathlib.Core.Bool.{false, not}
use mathlib.Core.Path.{◌≡◌, refl, sym, ap, ◌∙◌}
use mathlib.Core.List.{List}
use native.Mathlib.Omega.{arith}
use borrow.Author.Tests.{lt-ltb, le-ltb}
use lib.Dec.{eqb, ltb}
use lib.ListN.{length, take, drop, length-drop}
use lib.Seq.{length-take-le, take-take, drop-drop}
use Rattle.lists.specs.Lists.{Bytes}
use Rattle.lists.proofs.Parts.{drop_take}
use Rattle.refusal.specs.Verdict.{Verdict, passed, refused, ◌>>=◌, ◌>>◌, given}
use Rattle.refusal.proofs.Verdicts.{refuse, pass_on, go_on, stops, stop, then_bind}
use Rattle.psi.specs.Section.{common_wrong, before_crc, up_to_crc, table_id_extension}
use Rattle.descriptor.specs.Edition.{Edition}
use Rattle.pmt.specs.Pmt.{MapEntry, MapContent, descriptors, entries, av1_entry, pcr_pid, program_info_length, program_info, entry_bytes}
use Rattle.pmt.specs.Pmt.{read_pmt}
use Rattle.pmt.specs.Answer.{map_of, mapped}
use Rattle.pmt.specs.Parts.{loop_found, list_of, list_read, listed_map, body_map}
use Rattle.pmt.specs.declared.loops.Found.{Found}
use Rattle.pmt.specs.declared.entries.Listed.{Listed}
use Rattle.pmt.specs.declared.section.ProgramMap.{ProgramMap}
use Rattle.pmt.proofs.Finding.{listed_map_lem}
use Rattle.pmt.proofs.Trying.{unfilled_loop, filled_loop}

-- a step with a value that does not count
pub passes : {A B : Type 0} {v : Verdict A} {r w : Verdict B} (a : A) → v ≡ passed a → r ≡ w → r ≡ (v >> w)
unfolding ◌>>◌
passes a e f = rw e f

-- ---- what stands behind the fixed fields
module _ (edition : Edition) (map_pid : ℕ) (s : Bytes) (most : 16 ≤ length s) (n : ℕ) (e : n ≡ program_info_length s) where
  behind : length (up_to_crc 12 s) ≡ length s - 4 - 12
  behind = omega (arith, length-drop 12 (before_crc s), length-take-le (length s - 4) s (omega arith))

  pub info_cut : length s - 4 < 12 + n → refused 26 0 ≡ body_map edition map_pid s
  unfolding body_map
  info_cut h =
      let b : length (up_to_crc 12 s) < program_info_length s = omega (arith, behind) in
      refuse 26 _ (lt-ltb _ _ b)

  module _ (fits : 12 + n ≤ length s - 4) where
    info_fits : ltb (length (up_to_crc 12 s)) (program_info_length s) ≡ false
    info_fits =
        let b : program_info_length s ≤ length (up_to_crc 12 s) = omega (arith, behind) in
        le-ltb _ _ b

    -- the program's descriptors, as they are lent
    info_lent : take (12 + n - 12) (drop 12 s) ≡ program_info s
    info_lent =
        let k : 12 + n - 12 ≡ n = omega arith in
        ap (λ (i : ℕ). take i (drop 12 s)) k ∙ sym (take-take n (length s - 4 - 12) (drop 12 s) (omega arith))
        ∙ ap (take n) (sym (drop_take 12 (length s - 4) s (omega arith))) ∙ ap (λ (i : ℕ). take i (up_to_crc 12 s)) e

    -- the entries, as they are lent
    entries_lent : take (length s - 4 - (12 + n)) (drop (12 + n) s) ≡ entry_bytes s
    entries_lent =
        sym (drop_take (12 + n) (length s - 4) s fits) ∙ sym (drop-drop n 12 (before_crc s)) ∙ ap (λ (i : ℕ). drop i (up_to_crc 12 s)) e

    pub info_unfilled : (number place : ℕ) → loop_found edition (take (12 + n - 12) (drop 12 s)) ≡ refused number place
        → refused number place ≡ body_map edition map_pid s
    unfolding body_map
    info_unfilled number place f =
        pass_on 26 info_fits
        (stops _ (unfilled_loop edition (program_info s) number place (ap (loop_found edition) (sym info_lent) ∙ f)))

    module _ (found : Found) (f : loop_found edition (take (12 + n - 12) (drop 12 s)) ≡ passed found) where
      info_filled : (ds : List Bytes) × (descriptors (program_info s) ≡ passed ds)
      info_filled = let p = filled_loop edition (program_info s) found (ap (loop_found edition) (sym info_lent) ∙ f) in (p.0, p.1)

      body : {r : Verdict ProgramMap} → r ≡ (list_read edition map_pid (entry_bytes s) >>= listed_map (pcr_pid s)) → r ≡ body_map edition
          map_pid s
      unfolding body_map
      body p = pass_on 26 info_fits (passes info_filled.0 info_filled.1 p)

      pub entries_refused : (number place : ℕ)
          → list_read edition map_pid (take (length s - 4 - (12 + n)) (drop (12 + n) s)) ≡ refused number place
          → refused number place ≡ body_map edition map_pid s
      entries_refused number place p = body (stop number place _ (ap (list_read edition map_pid) (sym entries_lent) ∙ p))

      pub entries_passed : (l : Listed) → list_read edition map_pid (take (length s - 4 - (12 + n)) (drop (12 + n) s)) ≡ passed l →
          (pcr : ℕ)
          → pcr ≡ pcr_pid s
          → listed_map pcr l ≡ body_map edition map_pid s
      entries_passed l p pcr q =
          ap (λ (i : ℕ). listed_map i l) q ∙ body (go_on l _ (ap (list_read edition map_pid) (sym entries_lent) ∙ p) refl)

-- ---- the whole section
bind_bind : {A B C : Type 0} (v : Verdict A) (f : A → B) (g : B → C)
    → ((v >>= λ a. passed (f a)) >>= λ b. passed (g b)) ≡ (v >>= λ a. passed (g (f a)))
unfolding ◌>>=◌
bind_bind (passed a) f g = refl
bind_bind (refused number place) f g = refl

abbrev content : ℕ → List MapEntry → MapEntry → MapContent
content pcr es e = record { pcr_pid = pcr; entries = es; av1 = e }

lists_map : (edition : Edition) (pcr : ℕ) (v : Verdict (List MapEntry))
    → ((v >>= λ es. av1_entry edition es >>= λ e. passed (content pcr es e)) >>= λ m. passed (map_of edition m))
    ≡ ((v >>= λ es. passed (list_of edition es)) >>= listed_map pcr)
unfolding ◌>>=◌
lists_map edition pcr (passed es) = bind_bind (av1_entry edition es) (content pcr es) (map_of edition) ∙ sym (listed_map_lem edition pcr es)
lists_map edition pcr (refused number place) = refl

pub section_map : (edition : Edition) (program map_pid : ℕ) (s : Bytes)
    → mapped edition (read_pmt edition program map_pid s) ≡ (given 26 (common_wrong 2 16 s)
    >> (given 26 (not (eqb (table_id_extension s) program)) >> body_map edition map_pid s))
unfolding mapped read_pmt body_map list_read
section_map edition program map_pid s =
    let g : MapContent → Verdict ProgramMap = λ m. passed (map_of edition m) in
    let common = given 26 (common_wrong 2 16 s) in
    let number = given 26 (not (eqb (table_id_extension s) program)) in
    let info = given 26 (ltb (length (up_to_crc 12 s)) (program_info_length s)) in
    then_bind common _ g
    ∙ ap (λ (v : Verdict ProgramMap). common >> v)
    (then_bind number _ g
    ∙ ap (λ (v : Verdict ProgramMap). number >> v)
    (then_bind info _ g
    ∙ ap (λ (v : Verdict ProgramMap). info >> v)
    (then_bind (descriptors (program_info s)) _ g
    ∙ ap (λ (v : Verdict ProgramMap). descriptors (program_info s) >> v)
    (lists_map edition (pcr_pid s) (entries map_pid (entry_bytes s))))))
