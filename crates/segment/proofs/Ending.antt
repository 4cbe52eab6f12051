-- The end of the check: the open PES closes, then 33; the answer with the outputs that it leaves; and the packets before it.
-- Assumes nothing.
use Rattle.std.specs.Prelude.{Ok, Err, Option, Some, None}
use Prim.Native.Nat.{ℕ, ◌/◌}
use mathlib.Core.Path.{◌≡◌, refl, sym, ap, ap₂, subst, ◌∙◌}
use mathlib.Core.List.{List}
use lib.ListN.{length}
use Rattle.lists.specs.Lists.{Bytes, zeros}
use Rattle.lists.proofs.Tests.{apart}
use Rattle.refusal.specs.Verdict.{Verdict, passed, refused, ◌>>=◌}
use Rattle.refusal.specs.Number.{refused_by, says}
use Rattle.refusal.specs.declared.Refused.{Refused}
use Rattle.refusal.proofs.Verdicts.{never, passed_same}
use Rattle.descriptor.specs.Edition.{Edition}
use Rattle.descriptor.specs.Naming.{edition_says}
use Rattle.descriptor.specs.declared.edition.Edition.{Edition as EditionName}
use Rattle.packet.specs.Header.{packet_length, packets}
use Rattle.pmt.specs.declared.section.ProgramMap.{ProgramMap}
use Rattle.pmt.specs.Pmt.{read_pmt}
use Rattle.pmt.specs.Answer.{map_of, mapped, no_map}
use Rattle.segment_rules.specs.declared.Totals.{Totals}
use Rattle.segment_rules.specs.State as state
use Rattle.segment_rules.specs.State.{FirstPat, FirstPmt, AccessUnit}
use Rattle.segment_rules.specs.Rules.{close_pes}
use Rattle.segment_rules.specs.Check.{Accepted, Progress, Outputs, start, run, accepted, ending}
use Rattle.segment_rules.specs.Check.{rooms_of, holding, holding_firsts, cleared, outputs_after, firsts_after}
use Rattle.segment_rules.specs.Lying.{section_in, PmtLies, Valid}
use Rattle.segment_rules.proofs.Growing.{close_grows}
use Rattle.segment_rules.proofs.Running.{index_totals, length_packets}
use Rattle.segment_rules.proofs.Lying.{valid_run}
use Rattle.tables.specs.declared.state.PatFound.{PatFound}
use Rattle.tables.specs.declared.state.PmtFound.{PmtFound}
use Rattle.tables.specs.declared.tables.Tables.{Tables}
use Rattle.tables.specs.Tables.{Refines, pat_kept, pmt_kept, tables_kept}
use Rattle.tables.proofs.Refining.{refused_refines, passed_refines}
use Rattle.segment.specs.declared.checking.Summary.{Summary}
use Rattle.segment.specs.Answer.{Checked, Checks, summarised, map_after}
use Rattle.units.specs.Extraction.{ExtractionResult, UnitsRepresent, first_noted}
use Rattle.segment_run.specs.declared.running.RunResult.{RunResult}
use Rattle.segment_run.specs.Run.{Runs}
use Rattle.segment.specs.Parts.{AcceptRefines, Ran, Ends, EndChecks, in_order, ChecksInOrder}
use Rattle.units.proofs.Holding.{closed_outputs}
use Rattle.units.proofs.Firsts.{notes}

-- ---- 33, or the summary: the code's tables are what is kept of the definitions' tables, which lie in the segment
module _ (edition : EditionName) (t : state.Tables) (n : ℕ) (us : List AccessUnit) (totals : Totals) where
  -- the answer says this, and this map stands beside it, where so much was found
  abbrev Last : Option FirstPat → Option FirstPmt → Verdict Summary → ProgramMap → Type 0
  Last p q said map =
      (said ≡ summarised (accepted n p q us totals)) × (map ≡ map_after (edition_says edition) (accepted n p q us totals))

  module _ (c : Tables) (k : c ≡ tables_kept edition t) where
    pub without_pat : c.pat ≡ None → Last t.pat t.pmt (refused 33 n) no_map
    unfolding accepted summarised map_after ◌>>=◌
    without_pat h = go t.pat (sym (ap (λ (x : Tables). x.pat) k) ∙ h)
      where
        go : (p : Option FirstPat) → pat_kept p ≡ None → Last p t.pmt (refused 33 n) no_map
        go None e = (refl, refl)
        go (Some p) e = apart (cc)

    pub without_pmt : c.pmt ≡ None → Last t.pat t.pmt (refused 33 n) no_map
    unfolding accepted summarised map_after ◌>>=◌
    without_pmt h = go t.pat t.pmt (sym (ap (λ (x : Tables). x.pmt) k) ∙ h)
      where
        go : (p : Option FirstPat) (q : Option FirstPmt) → pmt_kept q ≡ None → Last p q (refused 33 n) no_map
        go None q e = (refl, refl)
        go (Some p) None e = (refl, refl)
        go (Some p) (Some q) e = apart (cc)

    -- both: the section that the PMT's packet brought is the first PMT's, so that it is read again as it was read then
    module _ (segment : Bytes) (v : Valid (edition_says edition) segment t) (f : PatFound) (h : c.pat ≡ Some f) (g : PmtFound)
        (j : c.pmt ≡ Some g) where
      abbrev summary : PatFound → PmtFound → ℕ → Verdict Summary
      summary x y u = passed (record { program = x.says.number; pid = y.av1_pid; units = u; totals = totals })

      abbrev again : EditionName → PatFound → Bytes → Verdict ProgramMap
      again e x w = mapped (edition_says e) (read_pmt (edition_says e) x.says.number x.says.map_pid w)

      -- what the reading says of this section, of these tables
      abbrev ReadAgain : Bytes → Option FirstPat → Option FirstPmt → Type 0
      ReadAgain w p q =
          (x : FirstPmt) × (again c.edition f w ≡ passed (map_of (edition_says edition) x.says))
          × ((u : ℕ) → u ≡ length us → (m : ProgramMap) → m ≡ map_of (edition_says edition) x.says → Last p q (summary f g u) m)

      read_again : (section : Bytes) → section ≡ section_in segment g.packet → ReadAgain section t.pat t.pmt
      unfolding accepted summarised map_after mapped ◌>>=◌
      read_again section s =
          go t.pat t.pmt v.pmt (sym (ap (λ (x : Tables). x.pat) k) ∙ h) (sym (ap (λ (x : Tables). x.pmt) k) ∙ j)
        where
          go : (p : Option FirstPat) (q : Option FirstPmt) → PmtLies segment (edition_says edition) p q → pat_kept p ≡ Some f
              → pmt_kept q ≡ Some g → ReadAgain section p q
          go None q lies a b = apart (cc)
          go (Some p) None lies a b = apart (cc)
          go (Some p) (Some q) lies a b =
              let first : f ≡ record { packet = p.packet; says = p.says } = cc in
              let found : g ≡ record {
                packet = q.packet;
                pcr_pid = q.says.pcr_pid;
                av1_pid = q.says.av1.pid;
                listed = length q.says.entries;
              } = cc in
              let read : section ≡ q.section = s ∙ ap (λ (x : PmtFound). section_in segment x.packet) found ∙ sym lies.0 in (
                q,
                ap (λ (x : Tables). again x.edition f section) k ∙ ap₂ (again edition) first read
                    ∙ ap (mapped (edition_says edition)) lies.1,
                λ u l m e. (ap (summary f g) l ∙ ap₂ (λ (x : PatFound) (y : PmtFound). summary x y (length us)) first found, e),
              )

      pub with_both : (section : Bytes) → section ≡ section_in segment g.packet → (m : ProgramMap)
          → passed m ≡ again c.edition f section → (u : ℕ) → u ≡ length us → Last t.pat t.pmt (summary f g u) m
      with_both section s m says u l =
          let x = read_again section s in x.2 u l m (passed_same m _ (says ∙ x.1))

      -- so that it is not refused
      pub not_refused : {P : Type 0} (section : Bytes) → section ≡ section_in segment g.packet → (r : Refused)
          → refused_by r ≡ again c.edition f section → P
      not_refused section s r says = let x = read_again section s in never (says ∙ x.1)

-- what acceptance gives are these units
accepted_units : (n : ℕ) (p : Option FirstPat) (q : Option FirstPmt) (us : List AccessUnit) (t : Totals) (a : Accepted) → accepted n p q us
    t ≡ passed a → a.units ≡ us
unfolding accepted
accepted_units n None q us t a e = never e
accepted_units n (Some p) None us t a e = never e
accepted_units n (Some p) (Some q) us t a e = ap (λ (x : Accepted). x.units) (sym (passed_same _ a e))

-- ---- the end
-- no map beside a refusal
abbrev pub refused_beside : Refused → Checked
refused_beside q = record { answer = Err q; map = no_map }

module _ {edition : EditionName} {segment : Bytes} {before now : Outputs} {old firsts : List ℕ} {ran : RunResult} {g : Progress}
    (at : Ran edition segment before now old firsts ran g) (after : Outputs) (r : ExtractionResult)
    (turn : Refines r.outcome (close_pes g.state.extraction) (UnitsRepresent before after r.extraction)) where
  abbrev with_units : List AccessUnit → Verdict Accepted
  with_units us = accepted g.index g.state.tables.pat g.state.tables.pmt us g.totals

  -- the open PES was refused
  pub end_refused : (q : Refused) → r.outcome ≡ Err q → (a : Checked) → a ≡ refused_beside q → (last : List ℕ)
      → Ends (edition_says edition) (ending g) before old a after last
  unfolding ending summarised map_after ◌>>=◌
  end_refused q e a f last =
      let here : ending g ≡ refused_by q =
      ap (λ (v : Verdict state.Extraction). v >>= λ x. with_units x.units)
      (refused_refines (close_pes g.state.extraction) (UnitsRepresent before after r.extraction) r.outcome q e turn) in
      record {
        answers = ap (λ (x : Checked). says x.answer) f ∙ sym (ap summarised here);
        beside = ap (λ (x : Checked). x.map) f ∙ sym (ap (map_after (edition_says edition)) here);
        leaves = λ b p. never (sym here ∙ p);
        began = λ b p. never (sym here ∙ p);
      }

  -- it closed: 33, or the summary; and the packet that began it was put behind the others
  pub end_closed : r.outcome ≡ (Ok tt) → r.extraction.pes ≡ None
      → (a : Checked) → AcceptRefines segment ran.state.tables r.extraction.units ran.totals a
      → (last : List ℕ) → last ≡ first_noted ran.state.extraction r.extraction firsts
      → Ends (edition_says edition) (ending g) before old a after last
  unfolding ending ◌>>=◌
  end_closed e closed a accepts last note =
      let t = passed_refines (close_pes g.state.extraction) (UnitsRepresent before after r.extraction) r.outcome e turn in
      let us = t.0.units in
      let says = accepts edition g.state.tables us t.2.units at.reached.tables at.valid in
      let here : ending g ≡ with_units us = ap (λ (v : Verdict state.Extraction). v >>= λ x. with_units x.units) t.1 in
      let same : accepted (length segment / packet_length) g.state.tables.pat g.state.tables.pmt us ran.totals ≡ ending g =
      ap₂ (λ (x : ℕ) (y : Totals). accepted x g.state.tables.pat g.state.tables.pmt us y) (sym at.index)
      at.reached.totals ∙ sym here in
      record {
        answers = says.0 ∙ ap summarised same;
        beside = says.1 ∙ ap (map_after (edition_says edition)) same;
        leaves =
            λ b p. closed_outputs t.2 closed ∙ ap (λ (l : List AccessUnit). holding l before)
            (sym (accepted_units _ _ _ us g.totals b (sym here ∙ p)));
        began =
            λ b p. note ∙ notes at.reached.extraction t.2 old firsts at.noted
            (close_grows g.state.extraction t.0 t.1)
            ∙ ap (λ (l : List AccessUnit). holding_firsts l old) (sym (accepted_units _ _ _ us g.totals b (sym here ∙ p)));
      }

-- ---- the answer and what it leaves
module _ (edition : Edition) (before : Outputs) (old : List ℕ) where
  -- an answer that accepts leaves the outputs as they are
  pub accepted_checks : (v : Verdict Accepted) (r : Checked) (after : Outputs) (firsts : List ℕ) → Ends edition v before old r after firsts
      → (s : Summary) → r.answer ≡ Ok s → Checks v (map_after edition v) before old r after firsts
  unfolding summarised outputs_after firsts_after ◌>>=◌
  accepted_checks (passed a) r after firsts e s told =
      record { answers = e.answers; beside = e.beside; leaves = e.leaves a refl; began = e.began a refl }
  accepted_checks (refused number place) r after firsts e s told = never (sym (ap says (sym told) ∙ e.answers))

  -- one that refuses clears them
  pub refused_checks : (v : Verdict Accepted) (r : Checked) (then : Outputs) (began : List ℕ) → Ends edition v before old r then began
      → (q : Refused) → r.answer ≡ Err q
      → (after : Outputs) → after ≡ cleared before → (firsts : List ℕ) → firsts ≡ zeros old
      → Checks v (map_after edition v) before old r after firsts
  unfolding summarised outputs_after firsts_after ◌>>=◌
  refused_checks (passed a) r then began e q told after left firsts zeroed = never (ap says (sym told) ∙ e.answers)
  refused_checks (refused number place) r then began e q told after left firsts zeroed =
      record { answers = e.answers; beside = e.beside; leaves = left; began = zeroed }

  -- a refusal without a map, beside cleared outputs
  pub refusal_checks : (v : Verdict Accepted) (q : Refused) → v ≡ refused_by q → (r : Checked) → r ≡ refused_beside q
      → (after : Outputs) → after ≡ cleared before → (firsts : List ℕ) → firsts ≡ zeros old
      → Checks v (map_after edition v) before old r after firsts
  unfolding summarised map_after outputs_after firsts_after ◌>>=◌
  refusal_checks v q e r f after left firsts zeroed =
      record {
        answers = ap (λ (x : Checked). says x.answer) f ∙ sym (ap summarised e);
        beside = ap (λ (x : Checked). x.map) f ∙ sym (ap (map_after edition) e);
        leaves = left ∙ sym (ap (λ (w : Verdict Accepted). outputs_after w before) e);
        began = zeroed ∙ sym (ap (λ (w : Verdict Accepted). firsts_after w old) e);
      }

-- ---- the packets in order, and the end
module _ (edition : EditionName) (segment : Bytes) (before : Outputs) (old : List ℕ) (r : RunResult) (now : Outputs) (firsts : List ℕ)
    (turn : Runs edition segment before old r now firsts) where
  abbrev ran : Verdict Progress
  ran = run (edition_says edition) (rooms_of before) start (packets segment)

  -- a packet is refused
  pub run_refused : (q : Refused) → r.outcome ≡ Err q → (a : Checked) → a ≡ refused_beside q
      → ChecksInOrder (edition_says edition) segment before old a now firsts
  unfolding in_order ◌>>=◌
  run_refused q e a f =
      let left = turn.refused q e in
      refusal_checks (edition_says edition) before old _ q
      (ap (λ (v : Verdict Progress). v >>= ending) (refused_refines ran _ r.outcome q e turn.verdict))
      a f now left.leaves firsts left.began

  -- all pass, and the end follows
  pub run_ended : r.outcome ≡ (Ok tt) → (a : Checked) (after : Outputs) (firsts' : List ℕ)
      → EndChecks segment r now firsts a after firsts'
      → ChecksInOrder (edition_says edition) segment before old a after firsts'
  unfolding in_order ◌>>=◌
  run_ended e a after firsts' ends =
      let all = passed_refines ran _ r.outcome e turn.verdict in
      subst (λ (v : Verdict Accepted). Checks v (map_after (edition_says edition) v) before old a after firsts')
      (sym (ap (λ (v : Verdict Progress). v >>= ending) all.1))
      (ends edition before old all.0
      (record {
        index =
            (index_totals (edition_says edition) (rooms_of before) (packets segment) all.0 all.1).0
            ∙ length_packets (length segment / packet_length) segment;
        valid = valid_run (edition_says edition) segment (rooms_of before) all.0 all.1;
        reached = all.2;
        noted = turn.noted all.0 all.1;
      }))
