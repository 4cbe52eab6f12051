-- Which sections were seen, from the tables as the code keeps them (`pat_yet`, `pmt_yet`), and which records there are then
-- (`one_record`, `two_records`, `all_records`). Assumes nothing.
use Rattle.std.specs.Prelude.{Option, Some, None}
use Prim.Native.Nat.{ℕ, ◌≤◌}
use mathlib.Core.Path.{◌≡◌, refl, sym, ap, ap₂, subst, ◌∙◌}
use mathlib.Core.List.{List, [], ◌∷◌}
use native.Mathlib.Omega.{arith}
use lib.ListN.{length}
use Rattle.lists.specs.Lists.{Bytes}
use Rattle.lists.proofs.Tests.{apart}
use Rattle.descriptor.specs.Edition.{Edition}
use Rattle.packet.specs.Counter.{StreamRecord, pids_of}
use Rattle.pmt.specs.Pmt.{pids}
use Rattle.pmt.proofs.Passed.{Says, says, at_most_twelve}
use Rattle.segment_rules.specs.State as state
use Rattle.segment_rules.specs.State.{FirstPat, FirstPmt}
use Rattle.segment_rules.specs.Named.{named_pids}
use Rattle.segment_rules.specs.Lying.{section_in, PatLies, PmtLies, Valid}
use Rattle.tables.specs.declared.state.PatFound.{PatFound}
use Rattle.tables.specs.declared.state.PmtFound.{PmtFound}
use Rattle.tables.specs.declared.tables.Tables.{Tables}
use Rattle.tables.specs.Tables.{pat_kept, pmt_kept, tables_kept}

-- ---- which sections were seen
-- what is kept of a first PAT, and of a first PMT
abbrev pub pat_found : FirstPat → PatFound
pat_found f = record { packet = f.packet; says = f.says }

abbrev pub pmt_found : FirstPmt → PmtFound
pmt_found m =
    record {
      packet = m.packet;
      pcr_pid = m.says.pcr_pid;
      av1_pid = m.says.av1.pid;
      listed = length m.says.entries;
    }

module _ {c : Tables} (t : state.Tables) (kept : c ≡ tables_kept c.edition t) where
  pub no_pat_yet : c.pat ≡ None → t.pat ≡ None
  no_pat_yet k = go t.pat (sym (ap (λ (x : Tables). x.pat) kept) ∙ k)
    where
      go : (q : Option FirstPat) → pat_kept q ≡ None → q ≡ None
      go None h = refl
      go (Some f) h = apart (cc)

  pub pat_yet : (f : PatFound) → c.pat ≡ Some f → (first : FirstPat) × (t.pat ≡ Some first) × (f ≡ pat_found first)
  pat_yet f k = go t.pat (sym (ap (λ (x : Tables). x.pat) kept) ∙ k)
    where
      go : (q : Option FirstPat) → pat_kept q ≡ Some f → (first : FirstPat) × (q ≡ Some first) × (f ≡ pat_found first)
      go None h = apart (cc)
      go (Some first) h = (first, refl, cc)

  pub no_pmt_yet : c.pmt ≡ None → t.pmt ≡ None
  no_pmt_yet k = go t.pmt (sym (ap (λ (x : Tables). x.pmt) kept) ∙ k)
    where
      go : (q : Option FirstPmt) → pmt_kept q ≡ None → q ≡ None
      go None h = refl
      go (Some f) h = apart (cc)

  pub pmt_yet : (g : PmtFound) → c.pmt ≡ Some g → (first : FirstPmt) × (t.pmt ≡ Some first) × (g ≡ pmt_found first)
  pmt_yet g k = go t.pmt (sym (ap (λ (x : Tables). x.pmt) kept) ∙ k)
    where
      go : (q : Option FirstPmt) → pmt_kept q ≡ Some g → (first : FirstPmt) × (q ≡ Some first) × (g ≡ pmt_found first)
      go None h = apart (cc)
      go (Some first) h = (first, refl, cc)

-- ---- which records there are
one_pid : (l : List StreamRecord) (x : ℕ) → pids_of l ≡ x ∷ [] → (a : StreamRecord) × (l ≡ a ∷ [])
one_pid [] x e = absurd (omega (arith, ap length e))
one_pid (a ∷ []) x e = (a, refl)
one_pid (a ∷ b ∷ l) x e = absurd (omega (arith, ap length e))

two_pids : (l : List StreamRecord) (x y : ℕ) (more : List ℕ) → pids_of l ≡ x ∷ y ∷ more
    → (a : StreamRecord) × (b : StreamRecord) × (rest : List StreamRecord) × (l ≡ a ∷ b ∷ rest) × (pids_of rest ≡ more)
two_pids [] x y more e = absurd (omega (arith, ap length e))
two_pids (a ∷ []) x y more e = absurd (omega (arith, ap length e))
two_pids (a ∷ b ∷ rest) x y more e = (a, b, rest, refl, cc)

module _ {edition : Edition} {segment : Bytes} {t : state.Tables} (v : Valid edition segment t) where
  pids_by : (q : Option FirstPat) (m : Option FirstPmt) → t.pat ≡ q → t.pmt ≡ m → pids_of t.records ≡ named_pids q m
  pids_by q m e k = v.named.pids ∙ ap₂ named_pids e k

  -- before the PAT
  pub no_pat_pids : t.pat ≡ None → pids_of t.records ≡ 0 ∷ []
  no_pat_pids e = pids_by None t.pmt e refl

  pub one_record : t.pat ≡ None → (a : StreamRecord) × (t.records ≡ a ∷ [])
  one_record e = one_pid t.records 0 (no_pat_pids e)

  module _ (f : FirstPat) (e : t.pat ≡ Some f) where
    pub pat_lies : f.section ≡ section_in segment f.packet
    pat_lies = subst (PatLies segment) e v.pat

    -- before the PMT
    module _ (k : t.pmt ≡ None) where
      pub no_pmt_pids : pids_of t.records ≡ 0 ∷ f.says.map_pid ∷ []
      no_pmt_pids = pids_by (Some f) None e k

      pub two_records : (a : StreamRecord) × (b : StreamRecord) × (t.records ≡ a ∷ b ∷ [])
      two_records =
          let l = two_pids t.records 0 f.says.map_pid [] no_pmt_pids in
          (l.0, l.1, l.3 ∙ ap (λ (r : List StreamRecord). l.0 ∷ l.1 ∷ r) (nothing l.2 l.4))
        where
          nothing : (r : List StreamRecord) → pids_of r ≡ [] → r ≡ []
          nothing [] h = refl
          nothing (a ∷ r) h = absurd (omega (arith, ap length h))

    -- after it
    module _ (m : FirstPmt) (k : t.pmt ≡ Some m) where
      pub all_pids : pids_of t.records ≡ 0 ∷ f.says.map_pid ∷ pids m.says.entries
      all_pids = pids_by (Some f) (Some m) e k

      pub all_records : (a : StreamRecord) × (b : StreamRecord) × (rest : List StreamRecord) × (t.records ≡ a ∷ b ∷ rest)
          × (pids_of rest ≡ pids m.says.entries)
      all_records = two_pids t.records 0 f.says.map_pid (pids m.says.entries) all_pids

      lies : PmtLies segment edition (Some f) (Some m)
      lies = subst (λ (x : Option FirstPat). PmtLies segment edition x (Some m)) e
          (subst (PmtLies segment edition t.pat) k v.pmt)

      pub pmt_lies : m.section ≡ section_in segment m.packet
      pmt_lies = lies.0

      pub pmt_says : Says edition f.says.number f.says.map_pid m.section m.says
      pmt_says = says edition f.says.number f.says.map_pid m.section m.says lies.1

      -- "12 streams in a program map"
      pub few_entries : length m.says.entries ≤ 12
      few_entries = at_most_twelve f.says.map_pid _ m.says.entries pmt_says.listed
