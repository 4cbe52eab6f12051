-- 2026-08. "under draft 30 never occurs" (`never_30`); "44 at place 0 for an unknown edition, before 20" (`unknown_refused`); a unit's two
-- times are 8,589,934,592 exactly where its PES had PTS_DTS_flags 00, and otherwise both have 33 bits (`times_where`); where a segment has
-- no registration of either kind, two editions give the same verdict (`same_verdict`), since no PMT passes 28. Assumes nothing.
use Rattle.std.specs.Prelude.{Option, Some, None}
use Prim.Native.Nat.{ℕ, suc, ◌/◌}
use mathlib.Core.Bool.{Bool, true, false, not, and-false}
use mathlib.Core.Path.{◌≡◌, refl, sym, ap, ◌∙◌, subst}
use mathlib.Core.List.{List, [], ◌∷◌, map}
use borrow.Author.Tests.{eqb-false}
use lib.Dec.{eqb, ltb}
use lib.ListN.{length, get_or}
use Rattle.lists.specs.Lists.{Bytes, pick, any, those}
use Rattle.lists.proofs.Tests.{or_neither}
use Rattle.lists.proofs.Elements.{those_others}
use Rattle.refusal.specs.Verdict.{Verdict, passed, refused, ◌>>=◌, ◌>>◌, given, at_place}
use Rattle.refusal.proofs.Verdicts.{All, all_so, never, passed_then}
use Rattle.refusal.proofs.Refusing.{refuses_given, refuses_at, refuses_pick, refuses_then, refuses_bind}
use Rattle.refusal.proofs.Turns.{Without}
use Rattle.descriptor.specs.Edition.{Edition, current, draft, edition_of}
use Rattle.packet.specs.Header.{pid, null_pid, packets, has_payload, payload, payload_unit_start_indicator, packet_length}
use Rattle.packet.specs.Counter.{named}
use Rattle.pes.specs.declared.header.Times.{Times}
use Rattle.pes.specs.Pes.{no_times, times_of}
use Rattle.psi.specs.Section.{section_of, common_wrong, up_to_crc, table_id_extension}
use Rattle.pmt.specs.Pmt.{MapEntry, MapContent, pcr_pid, pids, descriptors, program_info, program_info_length, entries, entry_bytes}
use Rattle.pmt.specs.Pmt.{is_registration, registration_first, registration_later, is_av1, misplaced_registration, one_av1, av1_entry}
use Rattle.pmt.specs.Pmt.{read_pmt}
use Rattle.lists.specs.Bytes.{Octets}
use Rattle.segment_rules.specs.State as state
use Rattle.segment_rules.specs.State.{FirstPat, FirstPmt, Tables, State, Kind, kind_of, listed_as, is_map_pid, with_tables, with_pmt}
use Rattle.segment_rules.specs.Rules as rules
use Rattle.segment_rules.specs.Rules.{Rooms, in_sequence}
use Rattle.segment_rules.specs.Check.{Progress, Accepted, one_more, step, run, start}
use Rattle.segment_rules.specs.Check.{ending, rule20, check_segment, check_in, pts_and_dts, no_time}
use Rattle.segment_rules.proofs.Accepting.{octets_payload, octets_packet, Timed, stamped, times_said}
use Rattle.segment_rules.proofs.Keeping.{Holds, holds_then, holds_each}
use Rattle.segment_rules.proofs.Lasting.{to_24, step_lasts}
use Rattle.segment_rules.proofs.Moving.{passed_so}
use Rattle.segment_rules.proofs.Sequence.{bind_same, bind_where, then_same, rest_same, not_av1}
use Rattle.segment_rules.proofs.Numbers.{Apart, sequence_apart, rule_apart, units_apart, to_24_apart}
use Rattle.segment_rules.proofs.Numbers.{sections_apart, close_apart, end_apart, run_apart}

-- ---- 44
pub unknown_refused : (n : ℕ) (rooms : Rooms) (s : Bytes) → check_in (suc (suc n)) rooms s ≡ refused 44 0
unfolding check_in edition_of ◌>>=◌
unknown_refused n rooms s = refl

-- ---- 30
apart : (n : ℕ) → eqb n 8 ≡ false → eqb n 30 ≡ false → n ≡ 30 → ⊥
apart n e8 e30 = eqb-false n 30 e30

module _ (edition : Edition) (rooms : Rooms) (unneeded : edition.times_needed ≡ false) where
  module _ (i : ℕ) (p : Bytes) (kind : Kind) where
    rule30_passes : (st : State) → rules.rule30 i p kind edition st ≡ passed st
    unfolding rules.rule rules.rule30 given at_place pick ◌>>◌
    rule30_passes st = rw (unneeded, and-false (rules.av1_start i p kind))

    -- 8 is another number too
    rule8_apart : Apart 30 apart (rules.rule8 i p kind rooms)
    unfolding rules.rule8 rules.rule
    rule8_apart st = refuses_then _ _ _ (refuses_at _ i _ (refuses_given _ 8 _ (eqb-false 8 30 refl))) (λ _ _. tt)

    pes_apart : Apart 30 apart (in_sequence (rules.pes_rules edition rooms i p kind))
    unfolding rules.closing rules.rule29 rules.rule31 rules.rule34 rules.carried
    pes_apart =
        sequence_apart 30 apart (rules.pes_rules edition rooms i p kind) (
          units_apart 30 apart _ (λ x. refuses_pick _ _ _ _ (close_apart 30 apart x) tt),
          (
            rule_apart 30 apart i p 29 _ refl refl,
            (
              (λ st. subst (Without 30) (sym (rule30_passes st)) tt),
              (
                rule_apart 30 apart i p 31 _ refl refl,
                (
                  rule_apart 30 apart i p 34 _ refl refl,
                  (rule8_apart, (units_apart 30 apart _ (λ x. tt), tt)),
                ),
              ),
            ),
          ),
        )

    packet_apart : Apart 30 apart (rules.packet_rules edition rooms i p kind)
    unfolding rules.packet_rules rules.unless_repeat in_sequence
    packet_apart st =
        refuses_bind _ _ _ (to_24_apart 30 apart i p st)
        (λ st1 _. refuses_pick _ _ _ _ tt (refuses_bind _ _ _ (sections_apart 30 apart edition i p kind st1) (λ st2 _. pes_apart st2)))

  pub never_30 : (s : Bytes) → Without 30 (check_segment edition rooms s)
  unfolding check_segment step
  never_30 s =
      refuses_then _ (rule20 s) _ (refuses_given _ 20 _ (eqb-false 20 30 refl))
      (λ _ _. refuses_bind _ _ _
      (run_apart 30 apart edition rooms (λ _ _. Unit {0})
      (λ g p ps _. (refuses_bind _ _ _ (packet_apart g.index p (kind_of g.state.tables (pid p)) g.state) (λ _ _. tt), (λ _ _. tt)))
      start (packets s) tt)
      (λ g _. end_apart 30 apart g))

-- "under draft"
pub draft_never_30 : (rooms : Rooms) (s : Bytes) → Without 30 (check_segment draft rooms s)
draft_never_30 rooms s = never_30 draft rooms refl s

-- ---- times
-- of the payload with the PES header, and of the unit's times
abbrev pub TimesBy : Bytes → Option Times → Type 0
TimesBy w t = (no_times w ≡ true → pts_and_dts t ≡ no_time ∷ no_time ∷ []) × (no_times w ≡ false → Timed t)

times_by : (w : Bytes) (t : Option Times) → Octets w → t ≡ times_of w → TimesBy w t
unfolding times_of pts_and_dts pick
times_by w t o e = ((λ n. ap pts_and_dts e ∙ rw n), (λ n. subst Timed (sym e) (stamped w o n)))

pub times_where : (edition : Edition) (rooms : Rooms) (s : Bytes) (a : Accepted) → check_segment edition rooms s ≡ passed a → Octets s
    → All (λ u. TimesBy (payload (get_or (packets s) u.first [])) u.times) a.units
times_where edition rooms s a e o =
    all_so a.units
    (λ u k. times_by _ u.times (octets_payload _ (octets_packet (length s / packet_length) s u.first o)) k)
    (times_said edition rooms s a e)

-- ---- where there is no registration
-- none of an entry's descriptors is the registration of this edition
abbrev pub NoneIn : Edition → MapEntry → Type 0
NoneIn edition e = any (is_registration edition) e.descriptors ≡ false

-- none of a section's entries has one, if it has entries
abbrev pub Unregistered : Edition → Bytes → Type 0
Unregistered edition section = (map_pid : ℕ) (es : List MapEntry) → entries map_pid (entry_bytes section) ≡ passed es → All (NoneIn edition)
    es

-- the reading of a section that is right up to 28, which then is given
right_up_to28 : ℕ → ℕ → Bytes → Verdict MapContent
right_up_to28 program map_pid section = do
  given 26 (common_wrong 2 16 section)
  given 26 (not (eqb (table_id_extension section) program))
  given 26 (ltb (length (up_to_crc 12 section)) (program_info_length section))
  descriptors (program_info section)
  es ← entries map_pid (entry_bytes section)
  refused 28 0

module _ (edition : Edition) where
  first_not : (l : List Bytes) → any (is_registration edition) l ≡ false → registration_first edition l ≡ false
  unfolding any registration_first
  first_not [] h = refl
  first_not (d ∷ l) h = (or_neither (is_registration edition d) (any (is_registration edition) l) h).0

  later_not : (l : List Bytes) → any (is_registration edition) l ≡ false → registration_later edition l ≡ false
  unfolding any registration_later
  later_not [] h = refl
  later_not (d ∷ l) h = (or_neither (is_registration edition d) (any (is_registration edition) l) h).1

  none_misplaced : (es : List MapEntry) → All (NoneIn edition) es → any (misplaced_registration edition) es ≡ false
  unfolding any misplaced_registration
  none_misplaced [] h = refl
  none_misplaced (e ∷ es) h = rw (first_not e.descriptors h.0, later_not e.descriptors h.0) (none_misplaced es h.1)

  not_av1_entry : (e : MapEntry) → NoneIn edition e → is_av1 edition e ≡ false
  unfolding is_av1
  not_av1_entry e h = rw (first_not e.descriptors h) (and-false (eqb e.stream_type 0x06))

  no_av1 : (es : List MapEntry) → All (NoneIn edition) es → those (is_av1 edition) es ≡ []
  unfolding those
  no_av1 [] h = refl
  no_av1 (e ∷ es) h = those_others (is_av1 edition) e es (not_av1_entry e h.0) ∙ no_av1 es h.1

  refused_28 : (es : List MapEntry) → All (NoneIn edition) es → av1_entry edition es ≡ refused 28 0
  unfolding av1_entry one_av1 given pick ◌>>◌
  refused_28 es h = rw (none_misplaced es h, no_av1 es h)

  -- so its reading ends in 28, where the section is right up to there
  pmt_not : (program map_pid : ℕ) (section : Bytes) → Unregistered edition section
      → read_pmt edition program map_pid section ≡ right_up_to28 program map_pid section
  unfolding read_pmt right_up_to28 ◌>>=◌
  pmt_not program map_pid section h =
      then_same _ (then_same _ (then_same _ (then_same _
      (bind_where (entries map_pid (entry_bytes section)) _ _
      (λ es k. ap (λ (v : Verdict MapEntry). v >>= λ e. passed (record { pcr_pid = pcr_pid section; entries = es; av1 = e }))
      (refused_28 es (h map_pid es k)))))))

  pmt_never : (program map_pid : ℕ) (section : Bytes) (m : MapContent) → Unregistered edition section
      → read_pmt edition program map_pid section ≡ passed m → ⊥
  unfolding right_up_to28
  pmt_never program map_pid section m h e =
      let a = passed_so (given 26 (common_wrong 2 16 section)) _ m (sym (pmt_not program map_pid section h) ∙ e) in
      let b = passed_so (given 26 (not (eqb (table_id_extension section) program))) _ m a.2 in
      let c = passed_so (given 26 (ltb (length (up_to_crc 12 section)) (program_info_length section))) _ m b.2 in
      let d = passed_so (descriptors (program_info section)) _ m c.2 in
      never (passed_then (entries map_pid (entry_bytes section)) (λ es. refused 28 0) m d.2).2

-- ---- the verdict of two editions
-- no section of the packet has a registration of either kind
abbrev pub Neither : Edition → Edition → Bytes → Type 0
Neither one other p = Unregistered one (section_of (payload p)) × Unregistered other (section_of (payload p))

module _ (one other : Edition) (rooms : Rooms) where
  -- there is no PMT yet
  abbrev NoPmt : Tables → Type 0
  NoPmt t = t.pmt ≡ None

  clocked_lasts : (i : ℕ) (p : Bytes) (t : Tables) → NoPmt t → NoPmt (rules.clocked i p t)
  clocked_lasts i p t h = h

  checked_lasts : (i : ℕ) (p : Bytes) (t : Tables) → NoPmt t → Holds NoPmt (rules.checked i p t)
  unfolding rules.checked
  checked_lasts i p t h = holds_each NoPmt _ _ (λ _ _. h)

  section_lasts : (i : ℕ) (p : Bytes) (kind : Kind) (t : Tables) → Neither one other p → NoPmt t
      → Holds NoPmt (rules.section_read one kind i (payload_unit_start_indicator p) (payload p) t)
  unfolding rules.section_read rules.pat_section rules.pmt_section rules.later_section
  section_lasts i p state.Null t w h = h
  section_lasts i p state.Pat t w h = holds_then NoPmt _ _ (λ _ _. go t.pat)
    where
      go : (pat : Option FirstPat) → Holds NoPmt (rules.pat_section i pat (section_of (payload p)) t)
      go None = holds_each NoPmt _ _ (λ _ _. h)
      go (Some pat) = holds_then NoPmt _ _ (λ _ _. h)
  section_lasts i p state.Map t w h = holds_then NoPmt _ _ (λ _ _. go t.pat t.pmt h)
    where
      go : (pat : Option FirstPat) (pmt : Option FirstPmt) → pmt ≡ None
          → Holds NoPmt (rules.pmt_section one i pat pmt (section_of (payload p)) t)
      go None pmt e = h
      go (Some pat) None e =
          holds_each NoPmt _ _
          (λ m k. absurd (pmt_never one pat.says.number pat.says.map_pid (section_of (payload p)) m w.0 k))
      go (Some pat) (Some pmt) e = holds_then NoPmt _ _ (λ _ _. h)
  section_lasts i p state.Av1 t w h = h
  section_lasts i p state.Listed t w h = h
  section_lasts i p state.Unlisted t w h = h

  -- the section is read alike
  section_same : (i : ℕ) (p : Bytes) (kind : Kind) (b : Bool) (t : Tables) → Neither one other p → NoPmt t
      → rules.section_read one kind i b (payload p) t ≡ rules.section_read other kind i b (payload p) t
  unfolding rules.section_read rules.pmt_section
  section_same i p state.Null b t w h = refl
  section_same i p state.Pat b t w h = refl
  section_same i p state.Map b t w h = then_same _ (go t.pat t.pmt)
    where
      go : (pat : Option FirstPat) (pmt : Option FirstPmt)
          → rules.pmt_section one i pat pmt (section_of (payload p)) t ≡ rules.pmt_section other i pat pmt (section_of (payload p)) t
      go None pmt = refl
      go (Some pat) None =
          ap
          (λ (v : Verdict MapContent). v
          >>= λ m. passed (with_pmt (record { packet = i; section = section_of (payload p); says = m }) (map named (pids m.entries)) t))
          (pmt_not one pat.says.number pat.says.map_pid (section_of (payload p)) w.0
          ∙ sym (pmt_not other pat.says.number pat.says.map_pid (section_of (payload p)) w.1))
      go (Some pat) (Some pmt) = refl
  section_same i p state.Av1 b t w h = refl
  section_same i p state.Listed b t w h = refl
  section_same i p state.Unlisted b t w h = refl

  -- without a PMT no PID is the AV1 PID
  no_av1_pid : (t : Tables) (n : ℕ) → NoPmt t → rules.is_av1 (kind_of t n) ≡ false
  unfolding kind_of listed_as pick
  no_av1_pid t n h = rw h (go (eqb n null_pid) (eqb n 0) (is_map_pid t.pat n))
    where
      go : (a b c : Bool) → rules.is_av1 (pick a state.Null (pick b state.Pat (pick c state.Map state.Unlisted))) ≡ false
      go true b c = refl
      go false true c = refl
      go false false true = refl
      go false false false = refl

  packet_same : (i : ℕ) (p : Bytes) (kind : Kind) (st : State) → Neither one other p → NoPmt st.tables → rules.is_av1 kind ≡ false
      → rules.packet_rules one rooms i p kind st ≡ rules.packet_rules other rooms i p kind st
  unfolding rules.packet_rules in_sequence rules.rules25to28 rules.on_tables
  packet_same i p kind st w h a =
      bind_where (in_sequence (rules.up_to24 i p) st) _ _
      (λ st1 e. rest_same p _ _ st1
      (let h1 : NoPmt st1.tables =
      subst (Holds (λ (x : State). NoPmt x.tables)) e
      (to_24 one rooms NoPmt (λ _ q. Neither one other q) clocked_lasts (λ i p t _ h. checked_lasts i p t h) section_lasts i p w st h) in
      ap (λ (v : Verdict State). v >>= in_sequence (rules.pes_rules one rooms i p kind))
      (ap (λ (v : Verdict Tables). pick (has_payload p) (at_place i v) (passed st1.tables) >>= λ t. passed (with_tables t st1))
      (section_same i p kind (payload_unit_start_indicator p) st1.tables w h1))
      ∙ bind_same (rules.rules25to28 i p kind other st1) _ _
      (λ st2. not_av1 one rooms i p st2 kind a ∙ sym (not_av1 other rooms i p st2 kind a))))

  run_same : (g : Progress) (ps : List Bytes) → All (Neither one other) ps → NoPmt g.state.tables
      → run one rooms g ps ≡ run other rooms g ps
  unfolding run step
  run_same g [] w h = refl
  run_same g (p ∷ ps) w h =
      bind_where (step one rooms g p) _ _
      (λ g' e. run_same g' ps w.1
      (subst (Holds (λ (x : Progress). NoPmt x.state.tables)) e
      (step_lasts one rooms NoPmt (λ _ q. Neither one other q) clocked_lasts (λ i p t _ h. checked_lasts i p t h) section_lasts
      g p w.0 h)))
      ∙ ap (λ (v : Verdict State). (v >>= λ st. passed (one_more (kind_of g.state.tables (pid p)) st g)) >>= λ g'. run other rooms g' ps)
      (packet_same g.index p (kind_of g.state.tables (pid p)) g.state w.0 h (no_av1_pid g.state.tables (pid p) h))

  pub same_verdict : (s : Bytes) → All (Neither one other) (packets s) → check_segment one rooms s ≡ check_segment other rooms s
  unfolding check_segment
  same_verdict s w = then_same _ (ap (λ (v : Verdict Progress). v >>= ending) (run_same start (packets s) w refl))

-- "both editions"
pub draft_same : (rooms : Rooms) (s : Bytes) → All (Neither current draft) (packets s)
    → check_segment current rooms s ≡ check_segment draft rooms s
draft_same rooms s w = same_verdict current draft rooms s w
