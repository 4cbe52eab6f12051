-- Sections: the rules of the first and of a later PAT or PMT, from what the code found, and what is kept after them. Assumes nothing.
use Rattle.ticks.specs.declared.Ticks27.{Ticks27}
use Rattle.std.specs.Prelude.{Result, Ok, Err, Option, Some, None}
use Prim.Native.Nat.{ℕ}
use mathlib.Core.Bool.{Bool, true, false, not}
use mathlib.Core.Path.{◌≡◌, refl, sym, ap, ap₂, subst, ◌∙◌}
use mathlib.Core.List.{[], ◌∷◌}
use native.Mathlib.Omega.{arith}
use lib.ListN.{length, take, drop}
use Rattle.lists.specs.Lists.{Bytes, same}
use Rattle.refusal.specs.Verdict.{Verdict, passed, refused, NoValue}
use Rattle.refusal.specs.Number.{refused_by, says}
use Rattle.refusal.specs.declared.Refused.{Refused}
use Rattle.refusal.proofs.Verdicts.{refuse, pass_on, go_on, stop}
use Rattle.descriptor.specs.Edition.{Edition}
use Rattle.descriptor.specs.Naming.{edition_says}
use Rattle.packet.specs.Counter.{named}
use Rattle.packet.specs.Streams.{streams_of, with_pid}
use Rattle.psi.specs.Section.{found_in}
use Rattle.psi.specs.Pat.{read_pat}
use Rattle.psi.specs.declared.pat.Program.{Program}
use Rattle.psi.proofs.Sections.{found_lies, found_misplaced}
use Rattle.segment_rules.specs.State as state
use Rattle.segment_rules.specs.State.{FirstPat, FirstPmt, with_pat}
use Rattle.segment_rules.specs.Rules.{later_section, pat_section, pmt_section, section_read}
use Rattle.segment_rules.specs.Lying.{section_in}
use Rattle.tables.specs.declared.state.Kind.{Kind}
use Rattle.tables.specs.declared.state.Kind.TheVariants as slot
use Rattle.tables.specs.declared.state.PatFound.{PatFound}
use Rattle.tables.specs.declared.state.PmtFound.{PmtFound}
use Rattle.tables.specs.declared.tables.Tables.{Tables}
use Rattle.packet.specs.declared.streams.Streams.{Streams}
use Rattle.tables.specs.Tables.{Refines, tables_kept, Kept, kind_says}
use Rattle.tables.proofs.Refining.{refines_also, refines_as}
use Rattle.tables.proofs.Seeing.{no_pat_yet, pat_yet, pmt_yet, one_record, pat_lies, pmt_lies}
use Rattle.packet.proofs.Keeping.{pid_kept}

-- the code's tables and slots after a turn are what is kept of the tables that the rule gives
abbrev pub After : Tables → Tables → Streams → state.Tables → Type 0
After c d streams t = (d ≡ tables_kept c.edition t) × (streams ≡ streams_of t.records)

-- ---- a later section
module _ (number : ℕ) (first section : Bytes) (t : state.Tables) where
  pub later_same : same section first ≡ true → Refines (Ok tt) (later_section number first section t) (λ u. u ≡ t)
  unfolding later_section
  later_same e = (t, sym (pass_on number (ap not e) refl), refl)

  pub later_other : same section first ≡ false → later_section number first section t ≡ refused number 0
  unfolding later_section
  later_other e = sym (refuse number (passed t) (ap not e))

module _ {segment : Bytes} {c : Tables} {streams : Streams} {t : state.Tables} (k : Kept segment c streams t) where
  -- it leaves all as it was
  later : (number : ℕ) (first section : Bytes) (o : Result NoValue Refused) (v : Verdict state.Tables)
      → later_section number first section t ≡ v
      → Refines o (later_section number first section t) (λ u. u ≡ t) → Refines o v (After c c streams)
  later number first section o v e l =
      refines_as _ (After c c streams) v o e
      (refines_also _ (λ u. u ≡ t) (After c c streams) o l (λ u _ z. subst (After c c streams) (sym z) (k.tables, k.records)))

  module _ (i : ℕ) (section : Bytes) where
    abbrev pat_rule : Verdict state.Tables
    pat_rule = pat_section i t.pat section t

    -- ---- the first PAT
    module _ (e : c.pat ≡ None) where
      first : {v : Verdict state.Tables} → v ≡ pat_section i None section t → v ≡ pat_rule
      first h = h ∙ ap (λ (x : Option FirstPat). pat_section i x section t) (sym (no_pat_yet t k.tables e))

      pub pat_refused : (a : Result Program Refused) (r : Refused) → a ≡ Err r → says a ≡ read_pat section → pat_rule ≡ refused_by r
      unfolding pat_section
      pat_refused a r f g = sym (first (stop _ _ _ (sym g ∙ ap says f)))

      pub pat_read : (a : Result Program Refused) (p : Program) (after : Streams) → a ≡ Ok p → says a ≡ read_pat section
          → after ≡ with_pid streams 1 p.map_pid
          → Refines (Ok tt) pat_rule
          (After c
          (record {
            edition = c.edition;
            pat = Some (record { packet = i; says = p });
            pmt = c.pmt;
            pcr = c.pcr;
          }) after)
      unfolding pat_section
      pat_read a p after f g put =
          let one : length t.records ≡ 1 = ap length (one_record k.valid (no_pat_yet t k.tables e)).1 in (
            with_pat (record { packet = i; section = section; says = p }) (named p.map_pid ∷ []) t,
            sym (first (go_on p _ (sym g ∙ ap says f) refl)),
            (
              ap₂ (λ (m : Option PmtFound) (x : Option Ticks27). record {
                edition = c.edition;
                pat = Some (record { packet = i; says = p });
                pmt = m;
                pcr = x;
              })
                  (ap (λ (x : Tables). x.pmt) k.tables) (ap (λ (x : Tables). x.pcr) k.tables),
              put ∙ ap₂ (λ (x : Streams) (n : ℕ). with_pid x n p.map_pid) k.records (sym one)
                  ∙ pid_kept t.records p.map_pid (omega (arith, one)),
            ),
          )

    -- a later one
    pub pat_later : (f : PatFound) (earlier : Bytes) (o : Result NoValue Refused) → c.pat ≡ Some f → earlier ≡ section_in segment f.packet
        → Refines o (later_section 25 earlier section t) (λ u. u ≡ t) → Refines o pat_rule (After c c streams)
    unfolding pat_section
    pat_later f earlier o e h l =
        let q = pat_yet t k.tables f e in
        later 25 earlier section o pat_rule
        (ap (λ (x : Bytes). later_section 25 x section t)
        (h ∙ ap (λ (x : PatFound). section_in segment x.packet) q.2 ∙ sym (pat_lies k.valid q.0 q.1))
        ∙ ap (λ (x : Option FirstPat). pat_section i x section t) (sym q.1)) l

    -- ---- the PMT
    abbrev pmt_rule : Verdict state.Tables
    pmt_rule = pmt_section (edition_says c.edition) i t.pat t.pmt section t

    -- before the PAT
    pub pmt_skipped : c.pat ≡ None → pmt_rule ≡ passed t
    unfolding pmt_section
    pmt_skipped e =
        ap (λ (x : Option FirstPat). pmt_section (edition_says c.edition) i x t.pmt section t) (no_pat_yet t k.tables e)

    -- a later one
    pub pmt_later : (f : PatFound) (g : PmtFound) (earlier : Bytes) (o : Result NoValue Refused) → c.pat ≡ Some f → c.pmt ≡ Some g
        → earlier ≡ section_in segment g.packet → Refines o (later_section 26 earlier section t) (λ u. u ≡ t)
        → Refines o pmt_rule (After c c streams)
    unfolding pmt_section
    pmt_later f g earlier o e d h l =
        let q = pat_yet t k.tables f e in
        let m = pmt_yet t k.tables g d in
        later 26 earlier section o pmt_rule
        (ap (λ (x : Bytes). later_section 26 x section t)
        (h ∙ ap (λ (x : PmtFound). section_in segment x.packet) m.2 ∙ sym (pmt_lies k.valid q.0 q.1 m.0 m.1))
        ∙ ap₂ (λ (x : Option FirstPat) (y : Option FirstPmt). pmt_section (edition_says c.edition) i x y section t) (sym q.1) (sym
        m.1)) l

  -- a turn that passes at once
  pub passes : (v : Verdict state.Tables) → v ≡ passed t → Refines (Ok tt) v (After c c streams)
  passes v e = (t, e, (k.tables, k.records))

-- ---- the payload of a packet
module _ (edition : Edition) (i : ℕ) (start : Bool) (payload : Bytes) (t : state.Tables) where
  pub pat_misplaced : found_in start payload ≡ None → section_read edition state.Pat i start payload t ≡ refused 25 0
  unfolding section_read
  pat_misplaced e = sym (refuse 25 _ (found_misplaced start payload e))

  pub pat_placed : (n : ℕ) (section : Bytes) → found_in start payload ≡ Some n → section ≡ take n (drop 1 payload)
      → pat_section i t.pat section t ≡ section_read edition state.Pat i start payload t
  unfolding section_read
  pat_placed n section e g =
      let l = found_lies start payload n e in
      pass_on 25 l.placed (ap (λ (x : Bytes). pat_section i t.pat x t) (g ∙ l.part))

  pub pmt_misplaced : found_in start payload ≡ None → section_read edition state.Map i start payload t ≡ refused 26 0
  unfolding section_read
  pmt_misplaced e = sym (refuse 26 _ (found_misplaced start payload e))

  pub pmt_placed : (n : ℕ) (section : Bytes) → found_in start payload ≡ Some n → section ≡ take n (drop 1 payload)
      → pmt_section edition i t.pat t.pmt section t ≡ section_read edition state.Map i start payload t
  unfolding section_read
  pmt_placed n section e g =
      let l = found_lies start payload n e in
      pass_on 26 l.placed (ap (λ (x : Bytes). pmt_section edition i t.pat t.pmt x t) (g ∙ l.part))

  -- on a PID that has no sections it is passed over
  pub no_sections : (k : Kind) → (k ≡ slot.Pat → ⊥) → (k ≡ slot.Map → ⊥)
      → section_read edition (kind_says k) i start payload t ≡ passed t
  unfolding section_read
  no_sections slot.Null h m = refl
  no_sections slot.Pat h m = absurd (h refl)
  no_sections slot.Map h m = absurd (m refl)
  no_sections (slot.Av1 n) h m = refl
  no_sections (slot.Listed n) h m = refl
  no_sections slot.Unlisted h m = refl

  -- by the kind of its PID
  pub by_kind : (k j : Kind) → k ≡ j → (o : Result NoValue Refused) (S : state.Tables → Type 0)
      → Refines o (section_read edition (kind_says j) i start payload t) S
      → Refines o (section_read edition (kind_says k) i start payload t) S
  by_kind k j e o S h = subst (λ (x : Kind). Refines o (section_read edition (kind_says x) i start payload t) S) (sym e) h
