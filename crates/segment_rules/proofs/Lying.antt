-- What the tables say lies in the segment: before the first packet (`valid_start`), and after each packet of the segment (`valid_packet`,
-- `valid_run`), since a record's last packet is the one that was checked, and a first section that of the packet that brought it. The
-- records are at most fourteen (`few_records`), since a map that was read has at most twelve entries. Assumes nothing.
use Rattle.std.specs.Prelude.{Option, Some, None}
use Prim.Native.Nat.{ℕ, zero, suc, ◌+◌, ◌*◌, ◌≤◌, ◌/◌}
use mathlib.Core.Bool.{Bool, true, false}
use mathlib.Core.Path.{◌≡◌, refl, sym, ap, ◌∙◌, subst}
use mathlib.Core.List.{List, [], ◌∷◌, ◌++◌, map}
use native.Mathlib.Omega.{arith}
use lib.Dec.{eqb}
use lib.ListN.{length, take, drop, length-map}
use lib.Seq.{drop-drop}
use Rattle.lists.specs.Lists.{Bytes, pick}
use Rattle.refusal.specs.Verdict.{passed, ◌>>=◌}
use Rattle.refusal.proofs.Verdicts.{passed_same, passed_then}
use Rattle.descriptor.specs.Edition.{Edition}
use Rattle.packet.specs.Header.{packet_length, packets_of, packets, packet_at, pid, payload, payload_unit_start_indicator}
use Rattle.packet.specs.Counter.{StreamRecord, named, check, checked_in, pids_of, record_of}
use Rattle.packet.specs.Streams.{most_records}
use Rattle.packet.proofs.Counters.{check_passed, some_not_none}
use Rattle.psi.specs.Section.{section_of}
use Rattle.pmt.specs.Pmt.{MapEntry, pids, entry_bytes}
use Rattle.pmt.proofs.Passed.{says, at_most_twelve}
use Rattle.segment_rules.specs.State.{FirstPat, FirstPmt, Tables, State, no_tables}
use Rattle.segment_rules.specs.State.{Kind, Null, Pat, Map, Av1, Listed, Unlisted}
use Rattle.segment_rules.specs.Rules.{Rooms, later_section, pat_section, pmt_section, section_read, clocked, checked, packet_rules}
use Rattle.segment_rules.specs.Check.{Progress, run, start}
use Rattle.segment_rules.specs.Named.{Named, named_pids}
use Rattle.segment_rules.specs.Lying.{RecordLies, RecordsLie, PatLies, PmtLies, Valid}
use Rattle.segment_rules.proofs.Keeping.{passed_at, Holds, holds_then, holds_each, holds_where}
use Rattle.segment_rules.proofs.Lasting.{Each, packet_lasts, run_lasts}
use Rattle.segment_rules.proofs.Naming.{clocked_named, checked_named, section_named}

-- ---- the records
module _ (segment : Bytes) where
  lie_append : (a b : List StreamRecord) → RecordsLie segment a → RecordsLie segment b → RecordsLie segment (a ++ b)
  lie_append [] b h k = k
  lie_append (r ∷ a) b h k = (h.0, lie_append a b h.1 k)

  -- those of PIDs that have just been named
  named_lie : (l : List ℕ) → RecordsLie segment (map named l)
  named_lie [] = tt
  named_lie (n ∷ l) = (tt, named_lie l)

  -- the check of a packet of the segment
  records_checked : (i : ℕ) (p : Bytes) → p ≡ packet_at segment i → (records after : List StreamRecord)
      → checked_in i records p ≡ passed after → RecordsLie segment records → RecordsLie segment after
  unfolding checked_in pick
  records_checked i p at [] after e h = subst (RecordsLie segment) (passed_same [] after e) tt
  records_checked i p at (r ∷ records) after e h =
      go (λ l k. records_checked i p at records l k h.1) (eqb r.pid (pid p)) e
    where
      go : ((l : List StreamRecord) → checked_in i records p ≡ passed l → RecordsLie segment l) → (b : Bool)
          → pick b (check i r p >>= λ r'. passed (r' ∷ records)) (checked_in i records p >>= λ records'. passed (r ∷ records'))
          ≡ passed after
          → RecordsLie segment after
      go more true k =
          let q = passed_then (check i r p) (λ r'. passed (r' ∷ records)) after k in
          subst (RecordsLie segment) (passed_same (q.0 ∷ records) after q.2)
          (subst (RecordLies segment) (sym (check_passed i r q.0 p q.1).1) at, h.1)
      go more false k =
          let q = passed_then (checked_in i records p) (λ records'. passed (r ∷ records')) after k in
          subst (RecordsLie segment) (passed_same (r ∷ q.0) after q.2) (h.0, more q.0 q.1)

-- ---- a packet's PCR, counter and section
module _ (edition : Edition) (segment : Bytes) where
  pub valid_start : Valid edition segment no_tables
  unfolding record_of pick
  valid_start = record { named = record { pat_first = tt; pids = refl; null = refl }; records = (tt, tt); pat = tt; pmt = tt }

  pub few_records : (t : Tables) → Valid edition segment t → length t.records ≤ most_records
  few_records t v = go t.pat t.pmt v.pmt v.named.pids
    where
      go : (pat : Option FirstPat) (pmt : Option FirstPmt) → PmtLies segment edition pat pmt → pids_of t.records ≡ named_pids pat pmt
          → length t.records ≤ most_records
      go None pmt h e = omega (arith, length-map t.records (λ (r : StreamRecord). r.pid), ap length e)
      go (Some f) None h e = omega (arith, length-map t.records (λ (r : StreamRecord). r.pid), ap length e)
      go (Some f) (Some m) h e =
          let read = says edition f.says.number f.says.map_pid m.section m.says h.1 in
          let few = at_most_twelve f.says.map_pid (entry_bytes m.section) m.says.entries read.listed in
          omega (
            arith,
            length-map t.records (λ (r : StreamRecord). r.pid),
            ap length e,
            few,
            length-map m.says.entries (λ (x : MapEntry). x.pid),
          )

  pub valid_clocked : (i : ℕ) (p : Bytes) (t : Tables) → Valid edition segment t → Valid edition segment (clocked i p t)
  valid_clocked i p t v = record { named = clocked_named i p t v.named; records = v.records; pat = v.pat; pmt = v.pmt }

  -- but for which PIDs have a record
  abbrev Lies : Tables → Type 0
  Lies t = RecordsLie segment t.records × PatLies segment t.pat × PmtLies segment edition t.pat t.pmt

  lies : (t : Tables) → Valid edition segment t → Lies t
  lies t v = (v.records, v.pat, v.pmt)

  also_named : (t : Tables) → Named t → Lies t → Valid edition segment t
  also_named t n h = record { named = n; records = h.0; pat = h.1; pmt = h.2 }

  checked_lies : (i : ℕ) (p : Bytes) → p ≡ packet_at segment i → (t : Tables) → Lies t → Holds Lies (checked i p t)
  unfolding checked
  checked_lies i p at t h =
      holds_each Lies _ _
      (λ records e. let k = passed_at i (checked_in i t.records p) records e in
      (records_checked segment i p at t.records records k h.0, h.1, h.2))

  pub valid_checked : (i : ℕ) (p : Bytes) (t t' : Tables) → p ≡ packet_at segment i → checked i p t ≡ passed t'
      → Valid edition segment t → Valid edition segment t'
  valid_checked i p t t' at e v =
      also_named t' (subst (Holds Named) e (checked_named i p t v.named)) (subst (Holds Lies) e (checked_lies i p at t (lies t v)))

  -- before a PAT there is no PMT
  no_map_yet : (pat : Option FirstPat) (pmt : Option FirstPmt) → pat ≡ None → PmtLies segment edition pat pmt → (first : FirstPat)
      → PmtLies segment edition (Some first) pmt
  no_map_yet None None e h first = tt
  no_map_yet None (Some m) e h first = absurd h
  no_map_yet (Some f) pmt e h first = absurd (some_not_none f e)

  module _ (i : ℕ) (p : Bytes) (at : p ≡ packet_at segment i) (t : Tables) (h : Lies t) where
    later_lies : (number : ℕ) (first section : Bytes) → Holds Lies (later_section number first section t)
    unfolding later_section
    later_lies number first section = holds_then Lies _ _ (λ _ _. h)

    pat_lies : (pat : Option FirstPat) → t.pat ≡ pat → Holds Lies (pat_section i pat (section_of (payload p)) t)
    unfolding pat_section
    pat_lies None e =
        holds_each Lies _ _
        (λ program _. (
          lie_append segment t.records (named program.map_pid ∷ []) h.0 (tt, tt),
          ap (λ (q : Bytes). section_of (payload q)) at,
          no_map_yet t.pat t.pmt e h.2 (record { packet = i; section = section_of (payload p); says = program }),
        ))
    pat_lies (Some first) e = later_lies 25 first.section (section_of (payload p))

    pmt_lies : (pat : Option FirstPat) (pmt : Option FirstPmt) → t.pat ≡ pat
        → Holds Lies (pmt_section edition i pat pmt (section_of (payload p)) t)
    unfolding pmt_section
    pmt_lies None pmt e = h
    pmt_lies (Some f) None e =
        holds_each Lies _ _
        (λ m r. let first : FirstPmt = record { packet = i; section = section_of (payload p); says = m } in (
          lie_append segment t.records (map named (pids m.entries)) h.0 (named_lie segment (pids m.entries)),
          h.1,
          subst (λ (x : Option FirstPat). PmtLies segment edition x (Some first)) (sym e)
              (ap (λ (q : Bytes). section_of (payload q)) at, r),
        ))
    pmt_lies (Some f) (Some first) e = later_lies 26 first.section (section_of (payload p))

    section_lies : (kind : Kind) (b : Bool) → Holds Lies (section_read edition kind i b (payload p) t)
    unfolding section_read
    section_lies Null b = h
    section_lies Pat b = holds_then Lies _ _ (λ _ _. pat_lies t.pat refl)
    section_lies Map b = holds_then Lies _ _ (λ _ _. pmt_lies t.pat t.pmt refl)
    section_lies Av1 b = h
    section_lies Listed b = h
    section_lies Unlisted b = h

  pub valid_section : (i : ℕ) (p : Bytes) (kind : Kind) (start : Bool) (t t' : Tables) → p ≡ packet_at segment i
      → section_read edition kind i start (payload p) t ≡ passed t' → Valid edition segment t → Valid edition segment t'
  valid_section i p kind start t t' at e v =
      also_named t' (subst (Holds Named) e (section_named t v.named edition kind i start (payload p)))
      (subst (Holds Lies) e (section_lies i p at t (lies t v) kind start))

  -- ---- a packet, a run
  abbrev InPlace : ℕ → Bytes → Type 0
  InPlace i p = p ≡ packet_at segment i

  checked_holds : (i : ℕ) (p : Bytes) (t : Tables) → InPlace i p → Valid edition segment t → Holds (Valid edition segment) (checked i p t)
  checked_holds i p t at v = holds_where (Valid edition segment) (checked i p t) (λ t' e. valid_checked i p t t' at e v)

  section_holds : (i : ℕ) (p : Bytes) (kind : Kind) (t : Tables) → InPlace i p → Valid edition segment t
      → Holds (Valid edition segment) (section_read edition kind i (payload_unit_start_indicator p) (payload p) t)
  section_holds i p kind t at v =
      holds_where (Valid edition segment) _ (λ t' e. valid_section i p kind (payload_unit_start_indicator p) t t' at e v)

  pub valid_packet : (rooms : Rooms) (i : ℕ) (p : Bytes) (kind : Kind) (st st' : State) → p ≡ packet_at segment i
      → packet_rules edition rooms i p kind st ≡ passed st' → Valid edition segment st.tables → Valid edition segment st'.tables
  valid_packet rooms i p kind st st' at e v =
      subst (Holds (λ (x : State). Valid edition segment x.tables)) e
      (packet_lasts edition rooms (Valid edition segment) InPlace valid_clocked checked_holds section_holds i p at kind st v)

  each_in_place : (n i : ℕ) (s : Bytes) → s ≡ drop (i * packet_length) segment → Each InPlace i (packets_of n s)
  unfolding packets_of
  each_in_place zero i s e = tt
  each_in_place (suc n) i s e =
      let next : i * packet_length + packet_length ≡ (i + 1) * packet_length = omega arith in (
        ap (take packet_length) e,
        each_in_place n (i + 1) (drop packet_length s)
            (ap (drop packet_length) e ∙ drop-drop packet_length (i * packet_length) segment ∙ ap (λ (k : ℕ). drop k segment) next),
      )

  pub valid_run : (rooms : Rooms) (g : Progress) → run edition rooms start (packets segment) ≡ passed g
      → Valid edition segment g.state.tables
  valid_run rooms g e =
      run_lasts edition rooms (Valid edition segment) InPlace valid_clocked checked_holds section_holds start (packets segment) g
      (each_in_place (length segment / packet_length) 0 segment refl) valid_start e
