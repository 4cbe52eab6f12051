-- One entry, as the code tries it: each of its tests is one of the definition's. Assumes nothing.
use Prim.Native.Nat.{ℕ, ◌+◌, ◌-◌, ◌≤◌, ◌<◌}
use mathlib.Core.Bool.{Bool, true, false, ◌||◌}
use mathlib.Core.Path.{◌≡◌, refl, sym, ap, ap₂, ◌∙◌}
use mathlib.Core.List.{List}
use native.Mathlib.Omega.{arith}
use borrow.Author.Tests.{lt-ltb, le-ltb}
use lib.Dec.{ltb}
use lib.ListN.{length, take, drop}
use Rattle.lists.specs.Lists.{Bytes}
use Rattle.lists.specs.Bytes.{byte}
use Rattle.lists.proofs.Parts.{drop_take}
use Rattle.lists.proofs.Tests.{or_by_true, or_by_false}
use Rattle.refusal.specs.Verdict.{passed, refused}
use Rattle.refusal.proofs.Verdicts.{refuse, pass_on, go_on, stop, passed_then, passed_same, refused_first}
use Rattle.descriptor.specs.Edition.{Edition}
use Rattle.pmt.specs.Pmt.{descriptors, stream_type, elementary_pid, es_info_length, entry_size, es_info, pid_wrong, entry}
use Rattle.pmt.specs.Parts.{found_in, loop_found, kind_from, tried_entry}
use Rattle.pmt.specs.declared.loops.Found.{Found}
use Rattle.pmt.specs.declared.entries.Kind.{Kind}
use Rattle.pmt.specs.declared.entries.Tried.{Tried}

-- ---- what a loop's reading says of its descriptors
pub unfilled_loop : (edition : Edition) (s : Bytes) (number place : ℕ) → loop_found edition s ≡ refused number place
    → descriptors s ≡ refused number place
unfolding loop_found
unfilled_loop edition s number place e = refused_first (descriptors s) (found_in edition) number place e

pub filled_loop : (edition : Edition) (s : Bytes) (f : Found) → loop_found edition s ≡ passed f
    → (ds : List Bytes) × (descriptors s ≡ passed ds) × (found_in edition ds ≡ f)
unfolding loop_found
filled_loop edition s f e =
    let p = passed_then (descriptors s) (λ ds. passed (found_in edition ds)) f e in
    (p.0, p.1, passed_same (found_in edition p.0) f p.2)

-- ---- the entry at the head of s
module _ (edition : Edition) (map_pid : ℕ) (earlier : List ℕ) (s : Bytes) where
  abbrev short : Bool
  short = ltb (length s) 5 || ltb (length s) (entry_size s)

  -- the entry with its stream_type
  abbrev made : ℕ → ℕ → Kind → Tried
  made pid size k = record { entry = record { pid = pid; stream_type = stream_type s }; size = size; kind = k }

  too_short : short ≡ true → refused 26 0 ≡ tried_entry edition map_pid earlier s
  unfolding tried_entry entry
  too_short e = stop 26 0 _ (sym (refuse 26 _ e))

  pub few_bytes : length s < 5 → refused 26 0 ≡ tried_entry edition map_pid earlier s
  few_bytes h = too_short (sym (or_by_true _ (lt-ltb _ _ h) refl))

  module _ (most : 5 ≤ length s) (n : ℕ) (e : n ≡ es_info_length s) where
    pub cut_short : length s < 5 + n → refused 26 0 ≡ tried_entry edition map_pid earlier s
    cut_short h =
        let k : length s < entry_size s = omega arith in
        too_short (sym (or_by_false (le-ltb _ _ most) (sym (lt-ltb _ _ k))))

    module _ (fits : 5 + n ≤ length s) where
      whole : short ≡ false
      whole = let k : entry_size s ≤ length s = omega arith in sym (or_by_false (le-ltb _ _ most) (sym (le-ltb _ _ k)))

      -- the loop that is lent
      lent : take (5 + n - 5) (drop 5 s) ≡ es_info s
      lent =
          sym (drop_take 5 (5 + n) s (omega arith)) ∙ ap (λ (k : ℕ). drop 5 (take (5 + k) s)) e

      pub unfilled : (number place : ℕ) → loop_found edition (take (5 + n - 5) (drop 5 s)) ≡ refused number place
          → refused number place ≡ tried_entry edition map_pid earlier s
      unfolding tried_entry entry
      unfilled number place g =
          let d : descriptors (es_info s) ≡ refused number place =
          unfilled_loop edition (es_info s) number place (ap (loop_found edition) (sym lent) ∙ g) in
          stop number place _ (sym (pass_on 26 whole (stop number place _ d)))

      module _ (f : Found) (g : loop_found edition (take (5 + n - 5) (drop 5 s)) ≡ passed f) (pid : ℕ) (p : pid ≡ elementary_pid s) where
        loop : (ds : List Bytes) × (descriptors (es_info s) ≡ passed ds) × (found_in edition ds ≡ f)
        loop = filled_loop edition (es_info s) f (ap (loop_found edition) (sym lent) ∙ g)

        pub pid_refused : pid_wrong map_pid earlier pid ≡ true → refused 26 0 ≡ tried_entry edition map_pid earlier s
        unfolding tried_entry entry
        pid_refused w =
            stop 26 0 _ (sym (pass_on 26 whole (go_on loop.0 _ loop.1 (refuse 26 _ (ap (pid_wrong map_pid earlier) (sym p) ∙ w)))))

        pub entry_passed : pid_wrong map_pid earlier pid ≡ false → (k : Kind) → k ≡ kind_from (byte s 0) f
            → passed (made pid (5 + n) k) ≡ tried_entry edition map_pid earlier s
        unfolding tried_entry entry
        entry_passed w k h =
            go_on _ _ (sym (pass_on 26 whole (go_on loop.0 _ loop.1 (pass_on 26 (ap (pid_wrong map_pid earlier) (sym p) ∙ w) refl))))
            (ap₂ (λ (i m : ℕ). passed (made i m k)) p (ap (λ (i : ℕ). 5 + i) e)
            ∙ ap (λ (x : Kind). passed (made (elementary_pid s) (entry_size s) x)) (h ∙ ap (kind_from (byte s 0)) (sym loop.2)))
