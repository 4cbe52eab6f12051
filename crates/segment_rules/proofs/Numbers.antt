-- With which numbers the parts of the check refuse: none but rule 8 gives 8, and none but rule 30 gives 30. Assumes nothing.
use Rattle.std.specs.Prelude.{Option, Some, None}
use Prim.Native.Nat.{ℕ, zero, suc}
use mathlib.Core.Bool.{Bool, false}
use mathlib.Core.Path.{◌≡◌, refl}
use mathlib.Core.List.{List, [], ◌∷◌, ◌++◌}
use lib.Dec.{eqb}
use lib.ListN.{drop}
use Rattle.lists.specs.Lists.{Bytes}
use Rattle.refusal.specs.Verdict.{Verdict, passed, ◌>>◌, given}
use Rattle.refusal.proofs.Verdicts.{All}
use Rattle.refusal.proofs.Refusing.{refuses_given, refuses_at, refuses_pick, refuses_then, refuses_bind, refuses_turn}
use Rattle.refusal.proofs.Turns.{Without}
use Rattle.obu.specs.Header.{obu_refusal}
use Rattle.obu.specs.Order.{Kind, order_refusal}
use Rattle.obu.proofs.Numbers.{refuses_try, obu_refuses, order_refuses}
use Rattle.tsobu.specs.TsObu.{tsobu_refusal}
use Rattle.unit.specs.Unit.{read_unit}
use Rattle.packet.specs.Counter.{StreamRecord, check, checked_in}
use Rattle.psi.specs.declared.pat.Program.{Program}
use Rattle.psi.specs.Pat.{map_pid_in_range, one_program, read_pat}
use Rattle.descriptor.specs.Edition.{Edition}
use Rattle.pmt.specs.Pmt.{MapEntry, descriptors_within, entry_size, entry, entries_after, one_av1, av1_entry, read_pmt}
use Rattle.segment_rules.specs.declared.Totals.{Totals}
use Rattle.segment_rules.specs.State as state
use Rattle.segment_rules.specs.State.{FirstPat, FirstPmt, Tables, OpenPes, AccessUnit, Extraction, State}
use Rattle.segment_rules.specs.Rules.{Rooms, Rule, in_sequence, on_tables, on_units, later_section, pat_section, pmt_section, section_read}
use Rattle.segment_rules.specs.Rules.{close_open, close_if_open, close_pes, rule, checked}
use Rattle.segment_rules.specs.Rules.{rule21, rule22, rule23, pcr_counts, rule24, rules25to28, up_to24}
use Rattle.segment_rules.specs.Check.{Progress, accepted, ending, step, run}

module _ (number : ℕ) (apart : (n : ℕ) → eqb n 8 ≡ false → eqb n 30 ≡ false → n ≡ number → ⊥) where
  -- a try that gives another number, and what follows
  one : (n : ℕ) (b : Bool) → eqb n 8 ≡ false → eqb n 30 ≡ false → Without number (given n b)
  one n b e8 e30 = refuses_given _ n b (apart n e8 e30)

  try : {A : Type 0} (n : ℕ) (b : Bool) (v : Verdict A) → eqb n 8 ≡ false → eqb n 30 ≡ false → Without number v
      → Without number (given n b >> v)
  try n b v e8 e30 h = refuses_try _ n b v (apart n e8 e30) h

  -- ---- the reading of a unit
  obu_said : (obu : Bytes) → Without number (obu_refusal obu)
  obu_said obu =
      obu_refuses (λ n. n ≡ number → ⊥) (apart 4 refl refl) (apart 5 refl refl) (apart 6 refl refl) (apart 42 refl refl) obu
      (one 3 _ refl refl)

  order_said : (kinds : List Kind) → Without number (order_refusal kinds)
  order_said = order_refuses (λ n. n ≡ number → ⊥) (apart 7 refl refl)

  payload_said : (w : Bytes) → Without number (tsobu_refusal w)
  unfolding tsobu_refusal
  payload_said w = try 3 _ _ refl refl (try 10 _ _ refl refl (obu_said _))

  pub unit_said : (s : Bytes) → Without number (read_unit s)
  unfolding read_unit
  unit_said s =
      try 2 _ _ refl refl
      (try 9 _ _ refl refl
      (try 1 _ _ refl refl
      (refuses_then _ _ _ (refuses_turn _ tsobu_refusal 0 _ payload_said) (λ _ _.
      try 2 _ _ refl refl
      (refuses_then _ _ _ (order_said _) (λ _ _. tt))))))

  -- ---- the sections
  program_said : (l : List Program) → Without number (one_program l)
  unfolding one_program map_pid_in_range
  program_said [] = apart 25 refl refl
  program_said (p ∷ []) = try 25 _ _ refl refl (try 25 _ _ refl refl tt)
  program_said (p ∷ q ∷ l) = apart 25 refl refl

  pat_said : (s : Bytes) → Without number (read_pat s)
  unfolding read_pat
  pat_said s = try 25 _ _ refl refl (try 25 _ _ refl refl (program_said _))

  loop_said : (n : ℕ) (s : Bytes) → Without number (descriptors_within n s)
  unfolding descriptors_within
  loop_said zero [] = tt
  loop_said zero (b ∷ s) = apart 26 refl refl
  loop_said (suc n) [] = tt
  loop_said (suc n) (b ∷ s) = try 26 _ _ refl refl (refuses_bind _ _ _ (loop_said n _) (λ _ _. tt))

  entry_said : (map_pid : ℕ) (earlier : List ℕ) (s : Bytes) → Without number (entry map_pid earlier s)
  unfolding entry
  entry_said map_pid earlier s =
      try 26 _ _ refl refl (refuses_bind _ _ _ (loop_said _ _) (λ _ _. try 26 _ _ refl refl tt))

  entries_said : (n map_pid : ℕ) (earlier : List MapEntry) (s : Bytes) → Without number (entries_after n map_pid earlier s)
  unfolding entries_after
  entries_said zero map_pid earlier [] = tt
  entries_said zero map_pid earlier (b ∷ s) = apart 27 refl refl
  entries_said (suc n) map_pid earlier [] = tt
  entries_said (suc n) map_pid earlier (b ∷ s) = refuses_bind _ _ _ (entry_said map_pid _ (b ∷ s))
      (λ e _. entries_said n map_pid (earlier ++ (e ∷ [])) (drop (entry_size (b ∷ s)) (b ∷ s)))

  one_said : (edition : Edition) (l : List MapEntry) → Without number (one_av1 edition l)
  unfolding one_av1
  one_said edition [] = apart 28 refl refl
  one_said edition (e ∷ []) = try 28 _ _ refl refl tt
  one_said edition (e ∷ e' ∷ l) = apart 28 refl refl

  av1_said : (edition : Edition) (es : List MapEntry) → Without number (av1_entry edition es)
  unfolding av1_entry
  av1_said edition es = try 28 _ _ refl refl (one_said edition _)

  pmt_said : (edition : Edition) (program map_pid : ℕ) (s : Bytes) → Without number (read_pmt edition program map_pid s)
  unfolding read_pmt
  pmt_said edition program map_pid s =
      try 26 _ _ refl refl
      (try 26 _ _ refl refl
      (try 26 _ _ refl refl
      (refuses_then _ _ _ (loop_said _ _) (λ _ _.
      refuses_bind _ _ _ (entries_said _ map_pid [] _) (λ es _.
      refuses_bind _ _ _ (av1_said edition es) (λ _ _. tt))))))

  pat_section_said : (i : ℕ) (pat : Option FirstPat) (section : Bytes) (t : Tables) → Without number (pat_section i pat section t)
  unfolding pat_section later_section
  pat_section_said i None section t = refuses_bind _ _ _ (pat_said section) (λ _ _. tt)
  pat_section_said i (Some pat) section t = try 25 _ _ refl refl tt

  pmt_section_said : (edition : Edition) (i : ℕ) (pat : Option FirstPat) (pmt : Option FirstPmt) (section : Bytes) (t : Tables)
      → Without number (pmt_section edition i pat pmt section t)
  unfolding pmt_section later_section
  pmt_section_said edition i None pmt section t = tt
  pmt_section_said edition i (Some pat) None section t = refuses_bind _ _ _ (pmt_said edition _ _ section) (λ _ _. tt)
  pmt_section_said edition i (Some pat) (Some pmt) section t = try 26 _ _ refl refl tt

  section_said : (edition : Edition) (kind : state.Kind) (i : ℕ) (b : Bool) (w : Bytes) (t : Tables)
      → Without number (section_read edition kind i b w t)
  unfolding section_read
  section_said edition state.Null i b w t = tt
  section_said edition state.Pat i b w t = try 25 _ _ refl refl (pat_section_said i t.pat _ t)
  section_said edition state.Map i b w t = try 26 _ _ refl refl (pmt_section_said edition i t.pat t.pmt _ t)
  section_said edition state.Av1 i b w t = tt
  section_said edition state.Listed i b w t = tt
  section_said edition state.Unlisted i b w t = tt

  -- ---- the rules
  abbrev pub Apart : Rule → Type 0
  Apart r = (st : State) → Without number (r st)

  pub sequence_apart : (rules : List Rule) → All Apart rules → Apart (in_sequence rules)
  unfolding in_sequence
  sequence_apart [] h st = tt
  sequence_apart (r ∷ rules) h st = refuses_bind _ (r st) (in_sequence rules) (h.0 st) (λ st1 _. sequence_apart rules h.1 st1)

  pub rule_apart : (i : ℕ) (p : Bytes) (n : ℕ) (given_when : State → Bool) → eqb n 8 ≡ false → eqb n 30 ≡ false
      → Apart (rule i p n given_when)
  unfolding rule
  rule_apart i p n given_when e8 e30 st = refuses_then _ _ _ (refuses_at _ i _ (one n _ e8 e30)) (λ _ _. tt)

  tables_apart : (f : Tables → Verdict Tables) → ((t : Tables) → Without number (f t)) → Apart (on_tables f)
  unfolding on_tables
  tables_apart f h st = refuses_bind _ _ _ (h st.tables) (λ _ _. tt)

  counter_said : (i : ℕ) (records : List StreamRecord) (p : Bytes) → Without number (checked_in i records p)
  unfolding checked_in check
  counter_said i [] p = tt
  counter_said i (r ∷ records) p =
      refuses_pick _ _ _ _
      (refuses_bind _ _ _ (try 24 _ _ refl refl tt) (λ _ _. tt))
      (refuses_bind _ _ _ (counter_said i records p) (λ _ _. tt))

  pub to_24_apart : (i : ℕ) (p : Bytes) → Apart (in_sequence (up_to24 i p))
  unfolding rule21 rule22 rule23 pcr_counts rule24 checked
  to_24_apart i p =
      sequence_apart (up_to24 i p) (
        rule_apart i p 21 _ refl refl,
        (
          rule_apart i p 22 _ refl refl,
          (
            rule_apart i p 23 _ refl refl,
            (
              tables_apart _ (λ t. tt),
              (tables_apart _ (λ t. refuses_bind _ _ _ (refuses_at _ i _ (counter_said i t.records p)) (λ _ _. tt)), tt),
            ),
          ),
        ),
      )

  pub sections_apart : (edition : Edition) (i : ℕ) (p : Bytes) (kind : state.Kind) → Apart (rules25to28 i p kind edition)
  unfolding rules25to28
  sections_apart edition i p kind =
      tables_apart _ (λ t. refuses_pick _ _ _ _ (refuses_at _ i _ (section_said edition kind i _ _ t)) tt)

  -- ---- the closing of a PES, and the end
  pub close_apart : (x : Extraction) → Without number (close_pes x)
  unfolding close_if_open close_open
  close_apart x = go x.pes
    where
      go : (o : Option OpenPes) → Without number (close_if_open o x)
      go None = tt
      go (Some o) =
          refuses_then _ _ _ (refuses_at _ o.first _ (one 32 _ refl refl))
          (λ _ _. refuses_then _ _ _ (refuses_at _ o.first _ (unit_said o.bytes)) (λ _ _. tt))

  pub units_apart : (f : Extraction → Verdict Extraction) → ((x : Extraction) → Without number (f x)) → Apart (on_units f)
  unfolding on_units
  units_apart f h st = refuses_bind _ _ _ (h st.extraction) (λ _ _. tt)

  pub end_apart : (g : Progress) → Without number (ending g)
  unfolding ending accepted
  end_apart g = refuses_bind _ _ _ (close_apart g.state.extraction)
      (λ x _. go g.index g.state.tables.pat g.state.tables.pmt x.units g.totals)
    where
      go : (n : ℕ) (pat : Option FirstPat) (pmt : Option FirstPmt) (units : List AccessUnit) (t : Totals)
          → Without number (accepted n pat pmt units t)
      go n None pmt units t = apart 33 refl refl
      go n (Some pat) None units t = apart 33 refl refl
      go n (Some pat) (Some pmt) units t = tt

  -- ---- the run, where something holds of each state and the packets still to come
  module _ (edition : Edition) (rooms : Rooms) (Q : Progress → List Bytes → Type 0)
      (steps : (g : Progress) (p : Bytes) (ps : List Bytes) → Q g (p ∷ ps)
      → Without number (step edition rooms g p) × ((g' : Progress) → step edition rooms g p ≡ passed g' → Q g' ps)) where
    pub run_apart : (g : Progress) (ps : List Bytes) → Q g ps → Without number (run edition rooms g ps)
    unfolding run
    run_apart g [] h = tt
    run_apart g (p ∷ ps) h =
        let k = steps g p ps h in
        refuses_bind _ (step edition rooms g p) _ k.0 (λ g' e. run_apart g' ps (k.1 g' e))
