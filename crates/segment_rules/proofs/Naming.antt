-- The records of a run are those of the PIDs that its sections name: PID 0, the map PID, the listed PIDs (`packet_named`, `run_named`); so
-- a null packet and one of an unlisted PID have no record (`null_unrecorded`, `unlisted_unrecorded`). Assumes nothing.
use Rattle.std.specs.Prelude.{Option, Some, None}
use Prim.Native.Nat.{ℕ}
use mathlib.Core.Bool.{Bool, true, false}
use mathlib.Core.Path.{◌≡◌, refl, sym, ap, ◌∙◌, subst}
use mathlib.Core.List.{List, [], ◌∷◌, ◌++◌, map}
use native.Mathlib.Omega.{arith}
use borrow.Author.Tests.{ne_eqb, eqb-false, ltb-false}
use lib.Dec.{eqb}
use Rattle.lists.specs.Lists.{Bytes, pick, any}
use Rattle.lists.proofs.Tests.{or_neither, clash}
use Rattle.refusal.specs.Verdict.{passed}
use Rattle.refusal.proofs.Verdicts.{All}
use Rattle.descriptor.specs.Edition.{Edition}
use Rattle.packet.specs.Header.{null_pid}
use Rattle.packet.specs.Counter.{StreamRecord, named, pids_of, record_of, checked_in}
use Rattle.packet.proofs.Counters.{record_after, checked_record, checked_pids, new_record, no_record}
use Rattle.psi.proofs.MapPid.{map_pid_in_range_lem}
use Rattle.pmt.specs.Pmt.{pids}
use Rattle.pmt.proofs.ListedPids.{listed_not_null}
use Rattle.segment_rules.specs.State.{FirstPat, FirstPmt, Tables, State, Kind, Null, Pat}
use Rattle.segment_rules.specs.State.{Map, Av1, Listed, Unlisted, is_map_pid, listed_as, kind_of}
use Rattle.segment_rules.specs.Rules.{Rooms, later_section, pat_section, pmt_section, section_read, clocked, checked}
use Rattle.segment_rules.specs.Rules.{packet_rules}
use Rattle.segment_rules.specs.Check.{Progress, run, start}
use Rattle.segment_rules.specs.Named.{named_pids, PatFirst, Named}
use Rattle.segment_rules.proofs.Lasting.{AnyPacket, any_packets, packet_lasts, run_lasts}
use Rattle.segment_rules.proofs.Keeping.{passed_at, Holds, holds_then, holds_each}
use Rattle.segment_rules.proofs.Keeping.{Keeps}

-- ---- PIDs of records
pids_append : (a b : List StreamRecord) → pids_of (a ++ b) ≡ pids_of a ++ pids_of b
pids_append [] b = refl
pids_append (r ∷ a) b = ap (λ (l : List ℕ). r.pid ∷ l) (pids_append a b)

pids_named : (l : List ℕ) → pids_of (map named l) ≡ l
pids_named [] = refl
pids_named (n ∷ l) = ap (λ (m : List ℕ). n ∷ m) (pids_named l)

-- ---- what keeps it
-- the counter's check names no PID
pub checked_named : (i : ℕ) (p : Bytes) (t : Tables) → Named t → Holds Named (checked i p t)
unfolding checked
checked_named i p t h =
    holds_each Named _ _
    (λ records e. let k = passed_at i (checked_in i t.records p) records e in
    record {
      pat_first = h.pat_first;
      pids = checked_pids i p t.records records k ∙ h.pids;
      null = checked_record i null_pid p t.records records k ∙ ap (λ (o : Option StreamRecord). record_after i null_pid p o) h.null;
    })

-- a PMT comes after a PAT
pub pat_before : (pat : Option FirstPat) (pmt : Option FirstPmt) → pat ≡ None → PatFirst pat pmt → pmt ≡ None
pat_before None None e f = refl
pat_before None (Some pmt) e f = absurd f
pat_before (Some pat) pmt e f = let z : ◌≡◌ {A = ℕ} 0 1 = cc in absurd (omega arith)

module _ (t : Tables) (h : Named t) where
  -- more PIDs are named, of which none is 0x1FFF
  also_named : (new : List ℕ) → All (λ n. eqb n null_pid ≡ false) new → record_of null_pid (t.records ++ map named new) ≡ None
  also_named new k =
      new_record null_pid t.records (map named new) h.null
      ∙ no_record null_pid (map named new) (subst (All (λ n. eqb n null_pid ≡ false)) (sym (pids_named new)) k)

  all_pids : (new : List ℕ) → pids_of (t.records ++ map named new) ≡ named_pids t.pat t.pmt ++ new
  all_pids new = pids_append t.records (map named new) ∙ ap (λ (l : List ℕ). l ++ pids_of (map named new)) h.pids
      ∙ ap (λ (l : List ℕ). named_pids t.pat t.pmt ++ l) (pids_named new)

  later_named : (number : ℕ) (first section : Bytes) → Holds Named (later_section number first section t)
  unfolding later_section
  later_named number first section = holds_then Named _ _ (λ _ _. h)

  -- the first PAT names the map PID
  pat_named : (pat : Option FirstPat) → t.pat ≡ pat → (section : Bytes) → (i : ℕ) → Holds Named (pat_section i pat section t)
  unfolding pat_section
  pat_named None e section i =
      holds_each Named _ _
      (λ program r. let first : FirstPat = record { packet = i; section = section; says = program } in
      let m = program.map_pid in
      let none_pmt = pat_before t.pat t.pmt e h.pat_first in
      record {
        pat_first = tt;
        pids =
            all_pids (m ∷ []) ∙ ap (λ (x : Option FirstPat). named_pids x t.pmt ++ (m ∷ [])) e
            ∙ ap (named_pids (Some first)) (sym none_pmt);
        null = also_named (m ∷ [])
            (ne_eqb m null_pid (λ z. absurd (omega (arith, ltb-false 0x1FFE m (map_pid_in_range_lem section program r)))), tt);
      })
  pat_named (Some first) e section i = later_named 25 first.section section

  -- the first PMT names the listed PIDs
  pmt_named : (edition : Edition) (pat : Option FirstPat) (pmt : Option FirstPmt) → t.pat ≡ pat → t.pmt ≡ pmt → (section : Bytes)
      → (i : ℕ) → Holds Named (pmt_section edition i pat pmt section t)
  unfolding pmt_section
  pmt_named edition None pmt e f section i = h
  pmt_named edition (Some pat) None e f section i =
      holds_each Named _ _
      (λ m r. let first : FirstPmt = record { packet = i; section = section; says = m } in
      record {
        pat_first = subst (λ (x : Option FirstPat). PatFirst x (Some first)) (sym e) tt;
        pids =
            all_pids (pids m.entries)
            ∙ ap (λ (x : Option FirstPat). named_pids x t.pmt ++ pids m.entries) e
            ∙ ap (λ (x : Option FirstPmt). named_pids (Some pat) x ++ pids m.entries) f
            ∙ ap (λ (x : Option FirstPat). named_pids x (Some first)) (sym e);
        null = also_named (pids m.entries) (listed_not_null edition pat.says.number pat.says.map_pid section m r);
      })
  pmt_named edition (Some pat) (Some first) e f section i = later_named 26 first.section section

  pub section_named : (edition : Edition) (kind : Kind) (i : ℕ) (b : Bool) (w : Bytes) → Holds Named (section_read edition kind i b w t)
  unfolding section_read
  section_named edition Null i b w = h
  section_named edition Pat i b w = holds_then Named _ _ (λ _ _. pat_named t.pat refl _ i)
  section_named edition Map i b w = holds_then Named _ _ (λ _ _. pmt_named edition t.pat t.pmt refl refl _ i)
  section_named edition Av1 i b w = h
  section_named edition Listed i b w = h
  section_named edition Unlisted i b w = h

-- ---- a packet, a run
pub clocked_named : (i : ℕ) (p : Bytes) (t : Tables) → Named t → Named (clocked i p t)
clocked_named i p t h = record { pat_first = h.pat_first; pids = h.pids; null = h.null }

module _ (edition : Edition) (rooms : Rooms) where
  pub packet_named : (i : ℕ) (p : Bytes) (kind : Kind) → Keeps (λ (st : State). Named st.tables) (packet_rules edition rooms i p kind)
  packet_named i p kind =
      packet_lasts edition rooms Named AnyPacket clocked_named (λ i p t _ h. checked_named i p t h)
      (λ i p kind t _ h. section_named t h edition kind i _ _) i p tt kind

  pub run_named : (ps : List Bytes) (g : Progress) → run edition rooms start ps ≡ passed g → Named g.state.tables
  unfolding record_of pick
  run_named ps g e =
      run_lasts edition rooms Named AnyPacket clocked_named (λ i p t _ h. checked_named i p t h)
      (λ i p kind t _ h. section_named t h edition kind i _ _) start ps g
      (any_packets 0 ps) (record { pat_first = tt; pids = refl; null = refl }) e

-- ---- which PIDs have no record
-- "PID 0x1FFF"
pub null_unrecorded : (t : Tables) → Named t → record_of null_pid t.records ≡ None
null_unrecorded t h = h.null

-- "other PIDs are skipped"
is_unlisted : Kind → Bool
is_unlisted Null = false
is_unlisted Pat = false
is_unlisted Map = false
is_unlisted Av1 = false
is_unlisted Listed = false
is_unlisted Unlisted = true

picked : (b : Bool) (k rest : Kind) → is_unlisted k ≡ false → pick b k rest ≡ Unlisted → (b ≡ false) × (rest ≡ Unlisted)
unfolding pick is_unlisted
picked true k rest h e = clash (sym h ∙ ap is_unlisted e) refl
picked false k rest h e = (refl, e)

other : (m n : ℕ) → eqb n m ≡ false → eqb m n ≡ false
other m n e = ne_eqb m n (λ z. eqb-false n m e (sym z))

others : (n : ℕ) (l : List ℕ) → any (eqb n) l ≡ false → All (λ m. eqb m n ≡ false) l
unfolding any
others n [] e = tt
others n (m ∷ l) e = let k = or_neither (eqb n m) (any (eqb n) l) e in (other m n k.0, others n l k.1)

-- none of the named PIDs is this one
none_named : (n : ℕ) (pat : Option FirstPat) (pmt : Option FirstPmt) → eqb n 0 ≡ false → is_map_pid pat n ≡ false → listed_as pmt n ≡
    Unlisted
    → All (λ m. eqb m n ≡ false) (named_pids pat pmt)
unfolding is_map_pid listed_as is_unlisted
none_named n None pmt z m l = (other 0 n z, tt)
none_named n (Some pat) None z m l = (other 0 n z, (other pat.says.map_pid n m, tt))
none_named n (Some pat) (Some pmt) z m l =
    let k = picked _ Av1 _ refl l in
    let q = picked _ Listed _ refl k.1 in
    (other 0 n z, (other pat.says.map_pid n m, others n (pids pmt.says.entries) q.0))

pub unlisted_unrecorded : (t : Tables) (n : ℕ) → Named t → kind_of t n ≡ Unlisted → record_of n t.records ≡ None
unfolding kind_of is_unlisted
unlisted_unrecorded t n h e =
    let a = picked _ Null _ refl e in
    let b = picked _ Pat _ refl a.1 in
    let c = picked _ Map _ refl b.1 in
    no_record n t.records (subst (All (λ m. eqb m n ≡ false)) (sym h.pids) (none_named n t.pat t.pmt b.0 c.0 c.1))
