-- What a packet's PID is, from the tables as the code keeps them, and the last PCR that counted. Assumes nothing.
use Rattle.std.specs.Prelude.{Option, Some, None}
use Rattle.std.specs.Option.{option_or}
use Prim.Native.Nat.{ℕ, suc}
use mathlib.Core.Path.{◌≡◌, refl, sym, ap, ap₂, ◌∙◌}
use mathlib.Core.List.{List, [], ◌∷◌}
use native.Mathlib.Omega.{arith}
use borrow.Author.Tests.{eq-eqb, ne_eqb}
use lib.Dec.{eqb}
use lib.ListN.{length, length-map}
use Rattle.lists.specs.Lists.{Bytes, pick, any}
use Rattle.lists.proofs.Picks.{by_eq, by_ne, by_true, by_false}
use Rattle.ticks.specs.declared.Ticks27.{Ticks27}
use Rattle.descriptor.specs.Naming.{edition_says}
use Rattle.packet.specs.declared.header.Header.{Header}
use Rattle.packet.specs.Header.{pid, null_pid, pcr, fields}
use Rattle.packet.specs.Counter.{StreamRecord, pids_of, record_of}
use Rattle.packet.specs.Streams.{look_up, look_up_from, listed_pids, streams_of}
use Rattle.packet.proofs.Slots.{look_up_none}
use Rattle.packet.proofs.Recorded.{next_slot, look_first, look_past, look_nowhere, any_at, any_none, unrecorded_none}
use Rattle.pmt.specs.Pmt.{MapEntry, is_av1, pids}
use Rattle.pmt.specs.Answer.{first_of}
use Rattle.pmt.proofs.Passed.{slot_within, av1_pid}
use Rattle.segment_rules.specs.State as state
use Rattle.segment_rules.specs.State.{FirstPat, FirstPmt, is_map_pid, listed_as, kind_of}
use Rattle.segment_rules.specs.Rules.{counting_pcr, last_pcr}
use Rattle.segment_rules.specs.Named.{named_pids}
use Rattle.segment_rules.proofs.Naming.{pat_before}
use Rattle.tables.specs.declared.state.Kind.{Kind}
use Rattle.tables.specs.declared.state.Kind.TheVariants as slot
use Rattle.tables.specs.declared.state.PatFound.{PatFound}
use Rattle.tables.specs.declared.state.PmtFound.{PmtFound}
use Rattle.tables.specs.declared.tables.Tables.{Tables}
use Rattle.packet.specs.declared.streams.Streams.{Streams}
use Rattle.tables.specs.Tables.{tables_kept, Kept, kind_says, slot_in}
use Rattle.tables.proofs.Seeing.{no_pat_yet, pat_yet, no_pmt_yet, pmt_yet, no_pat_pids, no_pmt_pids, all_pids, all_records}
use Rattle.tables.proofs.Seeing.{pmt_says, few_entries}
use Rattle.packet.proofs.Keeping.{listed_kept, look_behind_two}

-- ---- the lookup among the PIDs that are named
zero_first : (n : ℕ) (q : Option FirstPat) (m : Option FirstPmt) → n ≡ 0 → look_up n (named_pids q m) ≡ Some 0
zero_first n None m e = look_first n 0 [] e
zero_first n (Some q) None e = look_first n 0 _ e
zero_first n (Some q) (Some m) e = look_first n 0 _ e

map_second : (n : ℕ) (q : FirstPat) (m : Option FirstPmt) → (n ≡ 0 → ⊥) → n ≡ q.says.map_pid → look_up n (named_pids (Some q) m) ≡
    Some 1
map_second n q None z e = look_past n 0 _ z ∙ ap next_slot (look_first n q.says.map_pid _ e)
map_second n q (Some m) z e = look_past n 0 _ z ∙ ap next_slot (look_first n q.says.map_pid _ e)

-- a PID that is neither of the first two is among the others, or is not
behind_two : (n a b : ℕ) (l : List ℕ) → (n ≡ a → ⊥) → (n ≡ b → ⊥) → any (eqb n) (a ∷ b ∷ l) ≡ any (eqb n) l
unfolding any
behind_two n a b l z y = rw (ne_eqb n a z, ne_eqb n b y)

module _ {segment : Bytes} {c : Tables} {streams : Streams} {t : state.Tables} (k : Kept segment c streams t) (n : ℕ) where
  abbrev Is : Kind → Type 0
  Is j = (kind_says j ≡ kind_of t n) × (look_up n (pids_of t.records) ≡ slot_in j)

  pub kind_null : n ≡ null_pid → Is slot.Null
  unfolding kind_of
  kind_null e =
      (by_eq _ e refl, unrecorded_none n t.records (ap (λ (m : ℕ). record_of m t.records) e ∙ k.valid.named.null))

  module _ (a : n ≡ null_pid → ⊥) where
    pub kind_pat : n ≡ 0 → Is slot.Pat
    unfolding kind_of
    kind_pat e = (by_ne _ a (by_eq _ e refl), ap (look_up n) k.valid.named.pids ∙ zero_first n t.pat t.pmt e)

    module _ (b : n ≡ 0 → ⊥) where
      neither_of : {j : state.Kind} → j ≡ pick (is_map_pid t.pat n) state.Map (listed_as t.pmt n) → j ≡ kind_of t n
      unfolding kind_of
      neither_of e = by_ne _ a (by_ne _ b e)

      pub no_pat : c.pat ≡ None → Is slot.Unlisted
      unfolding is_map_pid listed_as pick
      no_pat e =
          let q = no_pat_yet t k.tables e in
          let m = pat_before t.pat t.pmt q k.valid.named.pat_first in (
            neither_of (rw (q, m)),
            ap (look_up n) (no_pat_pids k.valid q) ∙ look_past n 0 [] b ∙ ap next_slot (look_nowhere n),
          )

      module _ (f : PatFound) (e : c.pat ≡ Some f) where
        same_pid : f.says.map_pid ≡ (pat_yet t k.tables f e).0.says.map_pid
        same_pid = ap (λ (x : PatFound). x.says.map_pid) (pat_yet t k.tables f e).2

        pub kind_map : n ≡ f.says.map_pid → Is slot.Map
        unfolding is_map_pid
        kind_map h =
            let first = pat_yet t k.tables f e in (
              neither_of (by_true _ (ap (λ (x : Option FirstPat). is_map_pid x n) first.1 ∙ eq-eqb _ _ (h ∙ same_pid)) refl),
              ap (look_up n) (k.valid.named.pids ∙ ap (λ (x : Option FirstPat). named_pids x t.pmt) first.1)
                  ∙ map_second n first.0 t.pmt b (h ∙ same_pid),
            )

        pub kind_listed : (j : Kind) → (n ≡ f.says.map_pid → ⊥)
            → (kind_says j ≡ listed_as t.pmt n) × (look_up n (pids_of t.records) ≡ slot_in j) → Is j
        unfolding is_map_pid
        kind_listed j d l =
            let first = pat_yet t k.tables f e in (
              neither_of (by_false _ (ap (λ (x : Option FirstPat). is_map_pid x n) first.1 ∙ ne_eqb _ _ (λ z. d (z ∙ sym same_pid)))
                  l.0),
              l.1,
            )

  -- ---- among the listed PIDs
  module _ (f : PatFound) (e : c.pat ≡ Some f) (b : n ≡ 0 → ⊥) (d : n ≡ f.says.map_pid → ⊥) where
    abbrev ListedIs : Kind → Type 0
    ListedIs j = (kind_says j ≡ listed_as t.pmt n) × (look_up n (pids_of t.records) ≡ slot_in j)

    abbrev the_pat : FirstPat
    the_pat = (pat_yet t k.tables f e).0

    abbrev pat_there : t.pat ≡ Some the_pat
    pat_there = (pat_yet t k.tables f e).1

    other : n ≡ the_pat.says.map_pid → ⊥
    other z = d (z ∙ sym (ap (λ (x : PatFound). x.says.map_pid) (pat_yet t k.tables f e).2))

    pub no_map_lem : c.pmt ≡ None → ListedIs slot.Unlisted
    unfolding listed_as
    no_map_lem h =
        let m = no_pmt_yet t k.tables h in (
          ap (λ (x : Option FirstPmt). listed_as x n) (sym m),
          ap (look_up n) (no_pmt_pids k.valid the_pat pat_there m) ∙ look_past n 0 _ b
              ∙ ap next_slot (look_past n _ [] other ∙ ap next_slot (look_nowhere n)),
        )

    module _ (g : PmtFound) (h : c.pmt ≡ Some g) where
      abbrev the_map : FirstPmt
      the_map = (pmt_yet t k.tables g h).0

      abbrev map_there : t.pmt ≡ Some the_map
      map_there = (pmt_yet t k.tables g h).1

      abbrev entries : List MapEntry
      entries = the_map.says.entries

      abbrev named : pids_of t.records ≡ 0 ∷ the_pat.says.map_pid ∷ pids entries
      named = all_pids k.valid the_pat pat_there the_map map_there

      -- the code looks among the listed PIDs alone
      module _ (l : Option ℕ) (looked : l ≡ look_up_from 2 n (listed_pids g.listed streams)) where
        in_all : look_up n (pids_of t.records) ≡ l
        in_all =
            let all = all_records k.valid the_pat pat_there the_map map_there in
            let rest = all.2 in
            let few = few_entries k.valid the_pat pat_there the_map map_there in
            let count = ap (λ (x : PmtFound). x.listed) (pmt_yet t k.tables g h).2 in
            let many : g.listed ≡ length rest =
            count ∙ sym (length-map entries (λ (x : MapEntry). x.pid)) ∙ sym (ap length all.4)
            ∙ length-map rest (λ (x : StreamRecord). x.pid) in
            ap (look_up n) named ∙ look_behind_two n 0 _ (pids entries) b other
            ∙ ap (look_up_from 2 n) (sym all.4 ∙ sym (listed_kept all.0 all.1 rest (omega (arith, few, count, many)))
            ∙ ap (λ (x : List StreamRecord). listed_pids (length rest) (streams_of x)) (sym all.3)
            ∙ ap (listed_pids (length rest)) (sym k.records) ∙ ap (λ (x : ℕ). listed_pids x streams) (sym many))
            ∙ sym looked

        seen_as : {x : state.Kind} → x ≡ listed_as (Some the_map) n → x ≡ listed_as t.pmt n
        seen_as z = z ∙ ap (λ (m : Option FirstPmt). listed_as m n) (sym map_there)

        found : look_up n (0 ∷ the_pat.says.map_pid ∷ pids entries) ≡ l
        found = ap (look_up n) (sym named) ∙ in_all

        among : any (eqb n) (0 ∷ the_pat.says.map_pid ∷ pids entries) ≡ any (eqb n) (pids entries)
        among = behind_two n 0 the_pat.says.map_pid (pids entries) b other

        pub in_no_slot : l ≡ None → ListedIs slot.Unlisted
        unfolding listed_as
        in_no_slot z =
            let one = (pmt_says k.valid the_pat pat_there the_map map_there).one in
            let rules = edition_says c.edition in
            let within = slot_within rules entries the_map.says.av1 one in
            let not_av1 : n ≡ the_map.says.av1.pid → ⊥ =
            λ y. look_up_none n (0 ∷ the_pat.says.map_pid ∷ pids entries) (found ∙ z) (suc (suc (first_of (is_av1 rules) entries)))
            (omega (arith, within, length-map entries (λ (x : MapEntry). x.pid)))
            (av1_pid rules entries the_map.says.av1 one ∙ sym y) in (
              seen_as (by_ne _ not_av1 (by_false _ (sym among ∙ any_none n _ (found ∙ z)) refl)),
              in_all ∙ z,
            )

        module _ (i : ℕ) (z : l ≡ Some i) where
          av1_there : g.av1_pid ≡ the_map.says.av1.pid
          av1_there = ap (λ (x : PmtFound). x.av1_pid) (pmt_yet t k.tables g h).2

          pub as_av1 : n ≡ g.av1_pid → ListedIs (slot.Av1 i)
          unfolding listed_as
          as_av1 y = (seen_as (by_eq _ (y ∙ av1_there) refl), in_all ∙ z)

          pub as_other : (n ≡ g.av1_pid → ⊥) → ListedIs (slot.Listed i)
          unfolding listed_as
          as_other y = (
            seen_as (by_ne _ (λ w. y (w ∙ sym av1_there)) (by_true _ (sym among ∙ any_at n _ i (found ∙ z)) refl)),
            in_all ∙ z,
          )

-- ---- the last PCR that counted
module _ {c : Tables} (t : state.Tables) (kept : c ≡ tables_kept c.edition t) (p : Bytes) (h : Header) (e : h ≡ fields p) where
  abbrev last : (Option Ticks27)
  last = last_pcr t.pcr (counting_pcr t.pmt p)

  as_before : counting_pcr t.pmt p ≡ None → c.pcr ≡ last
  as_before k = ap (λ (x : Tables). x.pcr) kept ∙ ap (last_pcr t.pcr) (sym k)

  pub no_map_yet : c.pmt ≡ None → c.pcr ≡ last
  unfolding counting_pcr
  no_map_yet k = as_before (ap (λ (m : Option FirstPmt). counting_pcr m p) (no_pmt_yet t kept k))

  module _ (g : PmtFound) (k : c.pmt ≡ Some g) where
    pcr_pid_lem : g.pcr_pid ≡ (pmt_yet t kept g k).0.says.pcr_pid
    pcr_pid_lem = ap (λ (x : PmtFound). x.pcr_pid) (pmt_yet t kept g k).2

    counts_by : counting_pcr t.pmt p ≡ pick (eqb (pid p) (pmt_yet t kept g k).0.says.pcr_pid) (pcr p) None
    unfolding counting_pcr
    counts_by = ap (λ (m : Option FirstPmt). counting_pcr m p) (pmt_yet t kept g k).1

    pub another_pid : (h.pid ≡ g.pcr_pid → ⊥) → c.pcr ≡ last
    another_pid n = as_before (counts_by ∙ sym (by_ne _ (λ z. n (ap (λ (x : Header). x.pid) e ∙ z ∙ sym pcr_pid_lem)) refl))

    module _ (q : h.pid ≡ g.pcr_pid) where
      here : counting_pcr t.pmt p ≡ h.pcr
      here = counts_by ∙ sym (by_eq _ (sym (ap (λ (x : Header). x.pid) e) ∙ q ∙ pcr_pid_lem) (ap (λ (x : Header). x.pcr) e))

      pub this_pid : (r : Option Ticks27) → r ≡ option_or h.pcr c.pcr → r ≡ last
      this_pid r y =
          y ∙ either h.pcr ∙ ap₂ last_pcr (ap (λ (x : Tables). x.pcr) kept) (sym here)
        where
          either : (o : Option Ticks27) → option_or o c.pcr ≡ last_pcr c.pcr o
          either None = refl
          either (Some x) = refl
