-- The entries, one a turn: those that passed, and the entries from a place on, are the entries of the whole. Assumes nothing.
use Prim.Native.Nat.{ℕ, zero, suc, ◌+◌, ◌-◌, ◌≤◌, ◌<◌}
use mathlib.Core.Path.{◌≡◌, refl, sym, ap, ap₂, ◌∙◌}
use mathlib.Core.List.{List, [], ◌∷◌, ◌++◌}
use native.Mathlib.Omega.{arith}
use borrow.Author.Tests.{ltb-false}
use lib.Dec.{ltb}
use lib.ListN.{length, take, drop, set, length-drop, length-append, drop_of_length-le}
use lib.Seq.{drop-drop}
use Rattle.lists.specs.Lists.{Bytes}
use Rattle.lists.proofs.Tests.{or_neither}
use Rattle.lists.proofs.Parts.{to_end}
use Rattle.refusal.specs.Verdict.{passed, refused, ◌>>=◌}
use Rattle.refusal.proofs.Verdicts.{go_on, stop, passed_then, passed_after, passed_same, given_passed, refused_first}
use Rattle.descriptor.specs.Edition.{Edition}
use Rattle.pmt.specs.Pmt.{MapEntry, entry_size, entry, pids, most_entries, entries_after}
use Rattle.pmt.specs.Pmt as pmt
use Rattle.pmt.specs.Answer.{listed, slots}
use Rattle.pmt.specs.Parts.{filled, no_entry_yet, kind_of, pids_in, tried_entry, with_kind, with_all, list_read}
use Rattle.pmt.specs.declared.entries.Entry.{Entry}
use Rattle.pmt.specs.declared.slots.Entries.{Entries}
use Rattle.pmt.specs.declared.entries.Av1.{Av1}
use Rattle.pmt.specs.declared.entries.Av1.TheVariants.{Missing}
use Rattle.pmt.specs.declared.entries.Tried.{Tried}
use Rattle.pmt.specs.declared.entries.Listed.{Listed}
use Rattle.pmt.proofs.Filled.{pids_in_slots, slots_set}

-- ---- one entry more
pub none_left : (n map_pid : ℕ) (es : List MapEntry) → entries_after n map_pid es [] ≡ passed es
unfolding entries_after
none_left zero map_pid es = refl
none_left (suc n) map_pid es = refl

pub no_place : (map_pid : ℕ) (es : List MapEntry) (s : Bytes) → 0 < length s → entries_after 0 map_pid es s ≡ refused 27 0
unfolding entries_after
no_place map_pid es [] h = absurd (omega arith)
no_place map_pid es (b ∷ s) h = refl

pub one_more : (n map_pid : ℕ) (es : List MapEntry) (s : Bytes) → 0 < length s
    → entries_after (suc n) map_pid es s ≡ (entry map_pid (pids es) s >>= λ e. entries_after n map_pid (es ++ (e ∷ []))
    (drop (entry_size s) s))
unfolding entries_after
one_more n map_pid es [] h = absurd (omega arith)
one_more n map_pid es (b ∷ s) h = refl

-- an entry that passed lies within the bytes
pub entry_within : (map_pid : ℕ) (earlier : List ℕ) (s : Bytes) (e : MapEntry) → entry map_pid earlier s ≡ passed e → entry_size s ≤ length
    s
unfolding entry
entry_within map_pid earlier s e p =
    let short = given_passed 26 _ (passed_after _ _ e p).0 in
    ltb-false _ _ (or_neither (ltb (length s) 5) (ltb (length s) (entry_size s)) short).1

with_one_more : (edition : Edition) (es : List MapEntry) (e : MapEntry) (slot : ℕ) (a : Av1)
    → with_all edition (es ++ (e ∷ [])) slot a ≡ with_kind (kind_of edition e) (slot + length es) (with_all edition es slot a)
unfolding with_all
with_one_more edition [] e slot a = let n : slot ≡ slot + 0 = omega arith in ap (λ (k : ℕ). with_kind (kind_of edition e) k a) n
with_one_more edition (x ∷ es) e slot a =
    let n : suc slot + length es ≡ slot + suc (length es) = omega arith in
    with_one_more edition es e (suc slot) (with_kind (kind_of edition x) slot a)
    ∙ ap (λ (k : ℕ). with_kind (kind_of edition e) k (with_all edition es (suc slot) (with_kind (kind_of edition x) slot a))) n

-- ---- the entries before a place, as the code has them, and those from there on
pub record Turned (edition : Edition) (map_pid : ℕ) (s : Bytes) (entries : Entries) (av1 : Av1) (at : ℕ) : Type 0 where
  pub within : at ≤ length s
  pub before : List MapEntry
  pub held : entries ≡ filled before
  pub known : av1 ≡ with_all edition before 0 Missing
  pub rest : pmt.entries map_pid s ≡ entries_after (most_entries - entries.count) map_pid before (drop at s)

pub turn_start : {edition : Edition} {entries : Entries} (map_pid : ℕ) (s : Bytes) → entries ≡ no_entry_yet
    → Turned edition map_pid s entries Missing 0
unfolding slots with_all
turn_start map_pid s e =
    record {
      within = omega arith;
      before = [];
      held = e;
      known = refl;
      rest = ap (λ (x : Entries). entries_after (most_entries - x.count) map_pid [] s) (sym e);
    }

abbrev list : Entries → Av1 → Listed
list entries av1 = record { entries = entries; av1 = av1 }

module _ {edition : Edition} {map_pid : ℕ} {s : Bytes} {entries : Entries} {av1 : Av1} {at : ℕ}
    (t : Turned edition map_pid s entries av1 at) where
  counted : entries.count ≡ length t.before
  counted = ap (λ (x : Entries). x.count) t.held

  slotted : entries.slots ≡ slots t.before
  slotted = ap (λ (x : Entries). x.slots) t.held

  -- the entries fill the bytes
  pub turn_end : length s ≤ at → passed (list entries av1) ≡ list_read edition map_pid s
  unfolding list_read ◌>>=◌
  turn_end h =
      let e : pmt.entries map_pid s ≡ passed t.before =
      t.rest ∙ ap (entries_after (most_entries - entries.count) map_pid t.before) (drop_of_length-le s {i = at} h)
      ∙ none_left _ map_pid t.before in
      rw e (ap₂ (λ (x : Entries) (a : Av1). passed (list x a)) t.held t.known)

  module _ (h : at < length s) where
    some : 0 < length (drop at s)
    some = omega (arith, length-drop at s)

    -- bytes remain after a twelfth
    pub turn_full : 12 ≤ entries.count → refused 27 0 ≡ list_read edition map_pid s
    unfolding list_read
    turn_full k =
        let n : most_entries - entries.count ≡ 0 = omega arith in
        stop 27 0 _ (t.rest ∙ ap (λ (m : ℕ). entries_after m map_pid t.before (drop at s)) n
        ∙ no_place map_pid t.before (drop at s) some)

    module _ (k : entries.count < 12) where
      -- the next entry is tried
      turn : pmt.entries map_pid s
          ≡ (entry map_pid (pids t.before) (drop at s)
          >>= λ e. entries_after (most_entries - (entries.count + 1)) map_pid (t.before ++ (e ∷ []))
          (drop (entry_size (drop at s)) (drop at s)))
      turn =
          let n : most_entries - entries.count ≡ suc (most_entries - (entries.count + 1)) = omega arith in
          t.rest ∙ ap (λ (m : ℕ). entries_after m map_pid t.before (drop at s)) n
          ∙ one_more (most_entries - (entries.count + 1)) map_pid t.before (drop at s) some

      -- as it is lent
      lent : tried_entry edition map_pid (pids_in entries) (take (length s - at) (drop at s))
          ≡ tried_entry edition map_pid (pids t.before) (drop at s)
      lent =
          ap₂ (tried_entry edition map_pid)
          (ap pids_in t.held ∙ pids_in_slots t.before)
          (to_end s at)

      pub refines_refused : (number place : ℕ)
          → tried_entry edition map_pid (pids_in entries) (take (length s - at) (drop at s)) ≡ refused number place
          → refused number place ≡ list_read edition map_pid s
      unfolding list_read tried_entry
      refines_refused number place e =
          let r : entry map_pid (pids t.before) (drop at s) ≡ refused number place = refused_first _ _ number place (sym lent ∙ e) in
          stop number place _ (turn ∙ sym (stop number place _ r))

      module _ (x : Tried) (p : tried_entry edition map_pid (pids_in entries) (take (length s - at) (drop at s)) ≡ passed x) where
        next : (e : MapEntry) × (entry map_pid (pids t.before) (drop at s) ≡ passed e)
            × (record { entry = listed e; size = entry_size (drop at s); kind = kind_of edition e } ≡ x)
        unfolding tried_entry
        next =
            let q = passed_then (entry map_pid (pids t.before) (drop at s)) _ x (sym lent ∙ p) in
            (q.0, q.1, passed_same _ x q.2)

        size_is : x.size ≡ entry_size (drop at s)
        size_is = sym (ap (λ (y : Tried). y.size) next.2)

        pub turn_within : at + x.size ≤ length s
        turn_within = omega (arith, size_is, entry_within map_pid (pids t.before) (drop at s) next.0 next.1, length-drop at s)

        pub turn_further : 0 < x.size
        turn_further = omega (arith, size_is)

        pub turn_next : (a : Av1) → a ≡ with_kind x.kind entries.count av1
            → Turned edition map_pid s (record { slots = set entries.slots entries.count x.entry; count = entries.count + 1 }) a
            (at + x.size)
        turn_next a f =
            let e = next.0 in
            let z = size_is in
            let w = turn_within in
            let n : 0 + length t.before ≡ entries.count = omega (arith, counted) in
            record {
              within = w;
              before = t.before ++ (e ∷ []);
              held =
                  ap₂ (λ (l : List Entry) (n : ℕ). record { slots = l; count = n })
                  (ap₂ (λ (l : List Entry) (y : Tried). set l entries.count y.entry) slotted (sym next.2)
                  ∙ ap (λ (i : ℕ). set (slots t.before) i (listed e)) counted ∙ slots_set t.before e (omega (arith, counted)))
                  (omega (arith, length-append t.before (e ∷ []), counted));
              known =
                  f ∙ ap₂ (λ (y : Tried) (b : Av1). with_kind y.kind entries.count b) (sym next.2) t.known
                  ∙ ap (λ (i : ℕ). with_kind (kind_of edition e) i (with_all edition t.before 0 Missing)) (sym n)
                  ∙ sym (with_one_more edition t.before e 0 Missing);
              rest =
                  turn ∙ sym (go_on e _ next.1 refl)
                  ∙ ap (entries_after (most_entries - (entries.count + 1)) map_pid (t.before ++ (e ∷ [])))
                  (ap (λ (i : ℕ). drop i (drop at s)) (sym z) ∙ drop-drop x.size at s);
            }
