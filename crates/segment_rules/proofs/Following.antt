-- The records of a segment's PIDs: each follows the packets of its PID since the PID was named (`records_follow`), so that 24 is given
-- exactly where the sentence of the counter fails after them (`counter_wrong`, `counter_right`). Assumes nothing.
use Rattle.std.specs.Prelude.{Option, Some, None}
use Prim.Native.Nat.{ℕ}
use mathlib.Core.Bool.{Bool, true, false}
use mathlib.Core.Path.{◌≡◌, refl, sym, ap, ◌∙◌, subst}
use mathlib.Core.List.{List, [], ◌∷◌, ◌++◌, map, append-nil, append_assoc}
use lib.Dec.{eqb}
use Rattle.lists.specs.Lists.{Bytes, pick}
use Rattle.refusal.specs.Verdict.{Verdict, passed, refused, ◌>>=◌, ◌>>◌, at_place}
use Rattle.refusal.proofs.Verdicts.{passed_same, passed_then}
use Rattle.descriptor.specs.Edition.{Edition}
use Rattle.packet.specs.declared.header.Header.{Header}
use Rattle.packet.specs.Header.{header_of, pid}
use Rattle.packet.specs.Counter.{StreamRecord, named, updated, follows, right_after, record_of, checked_in, history_after, history, Follows}
use Rattle.packet.proofs.Counters.{record_after, checked_record, kept_record, new_record, named_record, follows_next}
use Rattle.packet.proofs.Counters.{named_follows, history_follows, some_not_none, some_same, wrong_refused, right_passes}
use Rattle.pmt.specs.Pmt.{pids}
use Rattle.segment_rules.specs.State.{FirstPat, FirstPmt, Tables, State, Kind, Null, Pat}
use Rattle.segment_rules.specs.State.{Map, Av1, Listed, Unlisted, kind_of, with_tables, with_records}
use Rattle.segment_rules.specs.Rules.{Rooms, in_sequence, on_tables, later_section, pat_section, pmt_section, section_read}
use Rattle.segment_rules.specs.Rules.{clocked, checked, rules25to28, closing, rule29, rule30, rule31}
use Rattle.segment_rules.specs.Rules.{rule34, rule8, carried, up_to24, pes_rules, after24, packet_rules}
use Rattle.segment_rules.specs.Check.{Progress, step, run, start}
use Rattle.segment_rules.proofs.Sequence.{up_to_24}
use Rattle.segment_rules.proofs.Keeping.{passed_at, Holds, holds_at, holds_pick, holds_then, holds_after}
use Rattle.segment_rules.proofs.Keeping.{holds_each, holds_unless, sequence_keeps, rule_keeps, tables_kept}
use Rattle.segment_rules.proofs.Running.{run_append, step_passed}

-- ---- one packet: its PID's record is checked, and a section may name PIDs
-- these records, and those of PIDs that have just been named
abbrev Naming : List StreamRecord → Tables → Type 0
Naming records t = (new : List ℕ) × (t.records ≡ records ++ map named new)

module _ (edition : Edition) (i : ℕ) (t : Tables) where
  none_named : Naming t.records t
  none_named = ([], sym (append-nil t.records))

  later_names : (number : ℕ) (first section : Bytes) → Holds (Naming t.records) (later_section number first section t)
  unfolding later_section
  later_names number first section = holds_then (Naming t.records) _ _ (λ _ _. none_named)

  pat_names : (pat : Option FirstPat) (section : Bytes) → Holds (Naming t.records) (pat_section i pat section t)
  unfolding pat_section
  pat_names None section = holds_each (Naming t.records) _ _ (λ program _. (program.map_pid ∷ [], refl))
  pat_names (Some first) section = later_names 25 first.section section

  pmt_names : (pat : Option FirstPat) (pmt : Option FirstPmt) (section : Bytes)
      → Holds (Naming t.records) (pmt_section edition i pat pmt section t)
  unfolding pmt_section
  pmt_names None pmt section = none_named
  pmt_names (Some pat) None section = holds_each (Naming t.records) _ _ (λ m _. (pids m.entries, refl))
  pmt_names (Some pat) (Some first) section = later_names 26 first.section section

  section_names : (kind : Kind) (b : Bool) (w : Bytes) → Holds (Naming t.records) (section_read edition kind i b w t)
  unfolding section_read
  section_names Null b w = none_named
  section_names Pat b w = holds_then (Naming t.records) _ _ (λ _ _. pat_names t.pat _)
  section_names Map b w = holds_then (Naming t.records) _ _ (λ _ _. pmt_names t.pat t.pmt _)
  section_names Av1 b w = none_named
  section_names Listed b w = none_named
  section_names Unlisted b w = none_named

-- the record of the packet's PID is checked in these records
abbrev CheckedFrom : ℕ → List StreamRecord → Bytes → Tables → Type 0
CheckedFrom i records p t = checked_in i records p ≡ passed t.records

module _ (edition : Edition) (rooms : Rooms) (i : ℕ) (p : Bytes) where
  -- up to 24
  tables_checked : (t : Tables) → Holds (CheckedFrom i t.records p) (checked i p (clocked i p t))
  unfolding checked
  tables_checked t = holds_each (CheckedFrom i t.records p) _ _ (λ records e. passed_at i (checked_in i t.records p) records e)

  checked_first : (st : State) → Holds (λ (st1 : State). CheckedFrom i st.tables.records p st1.tables) (in_sequence (up_to24 i p) st)
  unfolding on_tables
  checked_first st =
      subst (Holds (λ (st1 : State). CheckedFrom i st.tables.records p st1.tables)) (sym (up_to_24 i p st))
      (holds_then (λ (st1 : State). CheckedFrom i st.tables.records p st1.tables) _ _
      (λ _ _. holds_after (λ (st1 : State). CheckedFrom i st.tables.records p st1.tables) (CheckedFrom i st.tables.records p) _ _
      (tables_checked st.tables)
      (λ _ h. h)))

  -- after 24
  module _ (kind : Kind) where
    pes_names : (records : List StreamRecord) (st : State) → Naming records st.tables
        → Holds (λ (st1 : State). Naming records st1.tables) (in_sequence (pes_rules edition rooms i p kind) st)
    unfolding closing rule29 rule30 rule31 rule34 rule8 carried
    pes_names records =
        sequence_keeps (λ (st : State). Naming records st.tables) (pes_rules edition rooms i p kind) (
          tables_kept (Naming records) _,
          (
            rule_keeps (λ (st : State). Naming records st.tables) i p 29 _,
            (
              rule_keeps (λ (st : State). Naming records st.tables) i p 30 _,
              (
                rule_keeps (λ (st : State). Naming records st.tables) i p 31 _,
                (
                  rule_keeps (λ (st : State). Naming records st.tables) i p 34 _,
                  (rule_keeps (λ (st : State). Naming records st.tables) i p 8 _, (tables_kept (Naming records) _, tt)),
                ),
              ),
            ),
          ),
        )

    named_then : (st : State)
        → Holds (λ (st1 : State). Naming st.tables.records st1.tables) (in_sequence (after24 edition rooms i p kind) st)
    unfolding in_sequence rules25to28 on_tables
    named_then st =
        holds_after (λ (st1 : State). Naming st.tables.records st1.tables)
        (λ (st1 : State). Naming st.tables.records st1.tables) _ _
        (holds_after (λ (st1 : State). Naming st.tables.records st1.tables) (Naming st.tables.records) _ _
        (holds_pick (Naming st.tables.records) _ _ _
        (holds_at (Naming st.tables.records) i _ (section_names edition i st.tables kind _ _)) (none_named edition i st.tables))
        (λ _ h. h))
        (pes_names st.tables.records)

    -- the whole packet
    pub packet_records : (st st' : State) → packet_rules edition rooms i p kind st ≡ passed st'
        → (after : List StreamRecord) × (checked_in i st.tables.records p ≡ passed after) × Naming after st'.tables
    unfolding packet_rules
    packet_records st st' e =
        let k = passed_then (in_sequence (up_to24 i p) st) _ st' e in (
          k.0.tables.records,
          subst (Holds (λ (st1 : State). CheckedFrom i st.tables.records p st1.tables)) k.1 (checked_first st),
          subst (Holds (λ (st1 : State). Naming k.0.tables.records st1.tables)) k.2
              (holds_unless (λ (st1 : State). Naming k.0.tables.records st1.tables) p _ k.0 (none_named edition i k.0.tables)
              (named_then k.0)),
        )

-- ---- the run
module _ (edition : Edition) (rooms : Rooms) where
  -- of the packets of a run, PID n was named after those before, and the record follows its packets among those after
  pub record SinceNamed (n : ℕ) (r : StreamRecord) (ps : List Bytes) : Type 0 where
    pub before : List Bytes
    pub after : List Bytes
    pub parts : ps ≡ before ++ after
    pub there : Progress
    pub passes : run edition rooms start before ≡ passed there
    pub fresh : record_of n there.state.tables.records ≡ Some (named n)
    pub follows : Follows r (history n after)

  abbrev Followed : List Bytes → Progress → Type 0
  Followed ps g = (n : ℕ) (r : StreamRecord) → record_of n g.state.tables.records ≡ Some r → SinceNamed n r ps

  -- a PID that has just been named
  just_named : (n : ℕ) (r : StreamRecord) (ps : List Bytes) (g : Progress) → run edition rooms start ps ≡ passed g
      → record_of n g.state.tables.records ≡ Some r → r ≡ named n → SinceNamed n r ps
  unfolding history_after
  just_named n r ps g e h k =
      record {
        before = ps;
        after = [];
        parts = sym (append-nil ps);
        there = g;
        passes = e;
        fresh = h ∙ ap Some k;
        follows = subst (λ (t : StreamRecord). Follows t (history n [])) (sym k) (named_follows n);
      }

  -- one packet more
  module _ (ps : List Bytes) (g g' : Progress) (p : Bytes) (e : run edition rooms start (ps ++ (p ∷ [])) ≡ passed g')
      (f : Followed ps g) where
    -- the record was there
    longer : (n : ℕ) (r r' : StreamRecord) → record_of n g.state.tables.records ≡ Some r
        → r' ≡ pick (eqb (pid p) n) (updated g.index r p) r → SinceNamed n r' (ps ++ (p ∷ []))
    longer n r r' h k =
        let s = f n r h in
        record {
          before = s.before;
          after = s.after ++ (p ∷ []);
          parts = ap (λ (l : List Bytes). l ++ (p ∷ [])) s.parts ∙ append_assoc s.before s.after (p ∷ []);
          there = s.there;
          passes = s.passes;
          fresh = s.fresh;
          follows = subst (λ (t : StreamRecord). Follows t (history n (s.after ++ (p ∷ [])))) (sym k)
              (follows_next g.index n r s.after p s.follows);
        }

    -- it was there, or it is new
    either : (n : ℕ) (r' : StreamRecord) (after : List StreamRecord) (new : List ℕ) → record_of n g'.state.tables.records ≡ Some r'
        → g'.state.tables.records ≡ after ++ map named new → (o o' : Option StreamRecord) → record_of n g.state.tables.records ≡ o
        → record_of n after ≡ o' → o' ≡ record_after g.index n p o → SinceNamed n r' (ps ++ (p ∷ []))
    either n r' after new h split None None ho ha hc =
        just_named n r' (ps ++ (p ∷ [])) g' e h
        (named_record n r' new (sym (new_record n after (map named new) ha) ∙ ap (record_of n) (sym split) ∙ h))
    either n r' after new h split None (Some s) ho ha hc = absurd (some_not_none s hc)
    either n r' after new h split (Some r) None ho ha hc = absurd (some_not_none _ (sym hc))
    either n r' after new h split (Some r) (Some s) ho ha hc =
        longer n r r' ho
        (some_same r' s (sym h ∙ ap (record_of n) split ∙ kept_record n after (map named new) s ha) ∙ some_same s _ hc)

    step_follows : step edition rooms g p ≡ passed g' → Followed (ps ++ (p ∷ [])) g'
    step_follows s n r h =
        let k = step_passed edition rooms g g' p s in
        let q = packet_records edition rooms g.index p (kind_of g.state.tables (pid p)) g.state k.0 k.1 in
        let split : g'.state.tables.records ≡ q.0 ++ map named q.2.0 = ap (λ (x : Progress). x.state.tables.records) k.2
        ∙ q.2.1 in
        either n r q.0 q.2.0 h split (record_of n g.state.tables.records) (record_of n q.0) refl refl
        (checked_record g.index n p g.state.tables.records q.0 q.1)

  run_follows : (ps : List Bytes) (g : Progress) (more : List Bytes) (g' : Progress) → run edition rooms start ps ≡ passed g → Followed ps g
      → run edition rooms g more ≡ passed g' → Followed (ps ++ more) g'
  unfolding run ◌>>=◌
  run_follows ps g [] g' e f h =
      subst (λ (l : List Bytes). Followed l g') (sym (append-nil ps)) (subst (Followed ps) (passed_same g g' h) f)
  run_follows ps g (p ∷ more) g' e f h =
      let k = passed_then (step edition rooms g p) (λ g''. run edition rooms g'' more) g' h in
      let one : run edition rooms start (ps ++ (p ∷ [])) ≡ passed k.0 =
      run_append edition rooms start ps (p ∷ []) ∙ ap (λ (v : Verdict Progress). v >>= λ g''. run edition rooms g'' (p ∷ [])) e
      ∙ ap (λ (v : Verdict Progress). v >>= passed) k.1 in
      subst (λ (l : List Bytes). Followed l g') (append_assoc ps (p ∷ []) more)
      (run_follows (ps ++ (p ∷ [])) k.0 more g' one (step_follows ps g k.0 p one f k.1) k.2)

  -- each record follows the packets of its PID since the PID was named
  pub records_follow : (ps : List Bytes) (g : Progress) → run edition rooms start ps ≡ passed g
      → (n : ℕ) (r : StreamRecord) → record_of n g.state.tables.records ≡ Some r → SinceNamed n r ps
  unfolding run
  records_follow ps g e = run_follows [] start ps g refl (λ n r h. just_named n r [] start refl h (named_record n r (0 ∷ []) h)) e

  -- ---- 24
  -- after a run, of a packet whose header is right and whose PID was named: 24 is given exactly where the sentence fails after the PID's
  -- packets since then
  module _ (ps : List Bytes) (g : Progress) (p : Bytes) (e : run edition rooms start ps ≡ passed g) (h : Header)
      (right : header_of p ≡ passed h)
      (r : StreamRecord) (has : record_of (pid p) g.state.tables.records ≡ Some r) where
    abbrev since : List Bytes
    since = history (pid p) (records_follow ps g e (pid p) r has).after

    same_sentence : follows r p ≡ right_after since p
    same_sentence = history_follows g.index r since p (records_follow ps g e (pid p) r has).follows

    refused_24 : right_after since p ≡ false → in_sequence (up_to24 g.index p) g.state ≡ refused 24 g.index
    unfolding on_tables checked ◌>>=◌ ◌>>◌ at_place
    refused_24 w =
        up_to_24 g.index p g.state ∙ rw (right, wrong_refused g.index p r g.state.tables.records has (same_sentence ∙ w))

    pub counter_wrong : right_after since p ≡ false → step edition rooms g p ≡ refused 24 g.index
    unfolding step packet_rules ◌>>=◌
    counter_wrong w = rw (refused_24 w)

    pub counter_right : right_after since p ≡ true → (st : State) × (in_sequence (up_to24 g.index p) g.state ≡ passed st)
    unfolding on_tables checked ◌>>=◌ ◌>>◌ at_place
    counter_right w =
        let q = right_passes g.index p r g.state.tables.records has (same_sentence ∙ w) in (
          with_tables (with_records q.0 (clocked g.index p g.state.tables)) g.state,
          up_to_24 g.index p g.state
              ∙ rw (right, q.1),
        )
