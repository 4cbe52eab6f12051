-- The first PMT: what the map that the code was answered with holds, the PIDs that are put in the slots, and the rule. Assumes nothing.
use Rattle.tables.specs.declared.state.PmtFound.{PmtFound}
use Rattle.std.specs.Prelude.{Ok, Option, Some, None}
use Prim.Native.Nat.{ℕ, suc, ◌+◌, ◌≤◌, ◌<◌}
use mathlib.Core.Path.{◌≡◌, refl, sym, ap, ap₂, ◌∙◌}
use mathlib.Core.List.{List, [], ◌∷◌, ◌++◌, map}
use native.Mathlib.Numerals.{add-one}
use native.Mathlib.Omega.{arith}
use lib.ListN.{length, get_or, drop, drop_of_length-le, length-map, get_or-append, get_or-map}
use lib.Seq.{drop-cons}
use Rattle.lists.specs.Lists.{Bytes, pick}
use Rattle.refusal.specs.Verdict.{Verdict, passed}
use Rattle.refusal.specs.Number.{refused_by}
use Rattle.refusal.specs.declared.Refused.{Refused}
use Rattle.refusal.proofs.Verdicts.{go_on, stop, refused_first}
use Rattle.descriptor.specs.Edition.{Edition}
use Rattle.descriptor.specs.Naming.{edition_says}
use Rattle.packet.specs.Counter.{StreamRecord, named, last_kept}
use Rattle.packet.specs.Streams.{streams_of, with_pid}
use Rattle.pmt.specs.declared.entries.Entry.{Entry}
use Rattle.pmt.specs.declared.section.ProgramMap.{ProgramMap}
use Rattle.pmt.specs.Pmt.{MapEntry, MapContent, is_av1, av1_entry, pids, read_pmt}
use Rattle.pmt.specs.Answer.{listed, no_entry, no_entries, slots, first_of, map_of, mapped}
use Rattle.pmt.proofs.Passed.{Says, says, stands_there, slot_within, map_says, at_most_twelve}
use Rattle.segment_rules.specs.State as state
use Rattle.segment_rules.specs.State.{FirstPat, FirstPmt, with_pmt}
use Rattle.segment_rules.specs.Rules.{pmt_section}
use Rattle.tables.specs.declared.state.PatFound.{PatFound}
use Rattle.tables.specs.declared.tables.Tables.{Tables}
use Rattle.packet.specs.declared.streams.Streams.{Streams}
use Rattle.tables.specs.Tables.{Refines, pmt_kept, Kept}
use Rattle.tables.specs.Parts.{with_pids}
use Rattle.tables.proofs.Seeing.{pat_yet, no_pmt_yet, two_records}
use Rattle.tables.proofs.Reading.{After}

abbrev pid_of : Entry → ℕ
pid_of e = e.pid

-- ---- the PIDs in the slots
-- those from entry i on, of which the first is put
pub put_next : (entries : List Entry) (i : ℕ) (d : Entry) → i < length entries → (streams after : Streams)
    → after ≡ with_pid streams (2 + i) (get_or entries i d).pid
    → with_pids (2 + i) (drop i entries) streams ≡ with_pids (2 + (i + 1)) (drop (i + 1) entries) after
unfolding with_pids
put_next entries i d h streams after e =
    let next : suc (2 + i) ≡ 2 + (i + 1) = omega arith in
    ap (λ (l : List Entry). with_pids (2 + i) l streams) (drop-cons entries i d h)
    ∙ ap (λ (n : ℕ). with_pids n (drop (suc i) entries) (with_pid streams (2 + i) (get_or entries i d).pid)) next
    ∙ ap₂ (λ (n : ℕ) (l : Streams). with_pids (2 + (i + 1)) (drop n entries) l) (sym (add-one i)) (sym e)

-- none is left
pub put_all : (entries : List Entry) (i : ℕ) → length entries ≤ i → (streams : Streams) → with_pids (2 + i) (drop i entries) streams ≡
    streams
unfolding with_pids
put_all entries i h streams = ap (λ (l : List Entry). with_pids (2 + i) l streams) (drop_of_length-le entries {i = i} h)

-- ---- the entries' PIDs behind two records, and the AV1 entry's in its slot
two_put : (a b : StreamRecord) (es : List MapEntry) → length es ≤ 12
    → with_pids 2 (slots es) (streams_of (a ∷ b ∷ [])) ≡ streams_of (a ∷ b ∷ map named (pids es))
unfolding slots last_kept with_pids with_pid pick
two_put a b [] h = refl
two_put a b (c ∷ []) h = refl
two_put a b (c ∷ d ∷ []) h = refl
two_put a b (c ∷ d ∷ e ∷ []) h = refl
two_put a b (c ∷ d ∷ e ∷ f ∷ []) h = refl
two_put a b (c ∷ d ∷ e ∷ f ∷ g ∷ []) h = refl
two_put a b (c ∷ d ∷ e ∷ f ∷ g ∷ i ∷ []) h = refl
two_put a b (c ∷ d ∷ e ∷ f ∷ g ∷ i ∷ j ∷ []) h = refl
two_put a b (c ∷ d ∷ e ∷ f ∷ g ∷ i ∷ j ∷ k ∷ []) h = refl
two_put a b (c ∷ d ∷ e ∷ f ∷ g ∷ i ∷ j ∷ k ∷ l ∷ []) h = refl
two_put a b (c ∷ d ∷ e ∷ f ∷ g ∷ i ∷ j ∷ k ∷ l ∷ m ∷ []) h = refl
two_put a b (c ∷ d ∷ e ∷ f ∷ g ∷ i ∷ j ∷ k ∷ l ∷ m ∷ n ∷ []) h = refl
two_put a b (c ∷ d ∷ e ∷ f ∷ g ∷ i ∷ j ∷ k ∷ l ∷ m ∷ n ∷ o ∷ []) h = refl
two_put a b (c ∷ d ∷ e ∷ f ∷ g ∷ i ∷ j ∷ k ∷ l ∷ m ∷ n ∷ o ∷ p ∷ es) h = absurd (omega arith)

av1_slot : (edition : Edition) (es : List MapEntry) (e : MapEntry) → av1_entry edition es ≡ passed e → (get_or (slots es)
    (first_of (is_av1 edition) es) no_entry).pid ≡ e.pid
unfolding slots
av1_slot edition es e p =
    let slot = first_of (is_av1 edition) es in
    let d : MapEntry = record { stream_type = 0; pid = 0; descriptors = [] } in
    ap pid_of
    (get_or-append (map listed es) (drop (length es) no_entries) no_entry slot
    (omega (arith, length-map es listed, slot_within edition es e p))
    ∙ get_or-map listed es slot d ∙ ap listed (stands_there edition es e p d))

-- ---- the rule of the first PMT
module _ {segment : Bytes} {c : Tables} {streams : Streams} {t : state.Tables} (k : Kept segment c streams t) (i : ℕ) (section : Bytes)
    (f : PatFound) (e : c.pat ≡ Some f) (h : c.pmt ≡ None) where
  abbrev rules : Edition
  rules = edition_says c.edition

  abbrev rule : Verdict state.Tables
  rule = pmt_section rules i t.pat t.pmt section t

  abbrev answered : Verdict MapContent
  answered = read_pmt rules f.says.number f.says.map_pid section

  abbrev the_pat : FirstPat
  the_pat = (pat_yet t k.tables f e).0

  same_read : read_pmt rules the_pat.says.number the_pat.says.map_pid section ≡ answered
  same_read = ap (λ (x : PatFound). read_pmt rules x.says.number x.says.map_pid section) (sym (pat_yet t k.tables f e).2)

  first : {v : Verdict state.Tables} → v ≡ pmt_section rules i (Some the_pat) None section t → v ≡ rule
  first z =
      z ∙ ap₂ (λ (x : Option FirstPat) (y : Option FirstPmt). pmt_section rules i x y section t) (sym (pat_yet t k.tables f e).1)
      (sym (no_pmt_yet t k.tables h))

  pub pmt_refused : (r : Refused) → refused_by r ≡ mapped rules answered → rule ≡ refused_by r
  unfolding pmt_section mapped
  pmt_refused r read = sym (first (stop _ _ _ (same_read ∙ refused_first answered (map_of rules) _ _ (sym read))))

  -- what the map says is kept, and the listed PIDs are put in their slots
  pub pmt_read : (p : ProgramMap) → passed p ≡ mapped rules answered → (n : ℕ) (after : Streams) → n ≡ (get_or p.entries p.av1 no_entry).pid
      → after ≡ with_pids 2 p.entries streams
      → Refines (Ok tt) rule
      (After c
      (record {
        edition = c.edition;
        pat = c.pat;
        pmt = Some (record { packet = i; pcr_pid = p.pcr_pid; av1_pid = n; listed = p.count });
        pcr = c.pcr;
      }) after)
  unfolding pmt_section
  pmt_read p read n after pid put =
      let q = map_says rules answered p (sym read) in
      let m = q.0 in
      let said : Says rules f.says.number f.says.map_pid section m = says _ _ _ _ m q.1 in
      let two = two_records k.valid the_pat (pat_yet t k.tables f e).1 (no_pmt_yet t k.tables h) in
      let found : n ≡ m.av1.pid =
      pid ∙ ap (λ (x : ProgramMap). (get_or x.entries x.av1 no_entry).pid) (sym q.2)
      ∙ av1_slot rules m.entries m.av1 said.one in
      let map-kept : Some (record { packet = i; pcr_pid = p.pcr_pid; av1_pid = n; listed = p.count })
      ≡ pmt_kept (Some (record { packet = i; section = section; says = m })) =
      ap₂ (λ (x : ProgramMap) (y : ℕ). Some (record { packet = i; pcr_pid = x.pcr_pid; av1_pid = y; listed = x.count }))
      (sym q.2) found in (
        with_pmt (record { packet = i; section = section; says = m }) (map named (pids m.entries)) t,
        sym (first (go_on m _ (same_read ∙ q.1) refl)),
        (
          ap₂ (λ (x : Tables) (y : Option PmtFound). record { edition = c.edition; pat = x.pat; pmt = y; pcr = x.pcr }) k.tables map-kept,
          put ∙ ap₂ (λ (x : ProgramMap) (y : Streams). with_pids 2 x.entries y) (sym q.2)
              (k.records ∙ ap streams_of two.2)
              ∙ two_put two.0 two.1 m.entries (at_most_twelve f.says.map_pid _ m.entries said.listed)
              ∙ ap (λ (x : List StreamRecord). streams_of (x ++ map named (pids m.entries))) (sym two.2),
        ),
      )
