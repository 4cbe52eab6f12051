-- No PCR has counted as long as there is no PMT (`no_early_pcr`): "in a packet after the PMT". Assumes nothing.
use Rattle.std.specs.Prelude.{Option, Some, None}
use Prim.Native.Nat.{ℕ}
use mathlib.Core.Bool.{Bool}
use mathlib.Core.Path.{◌≡◌, refl, ap, ◌∙◌}
use mathlib.Core.List.{List}
use lib.Dec.{eqb}
use Rattle.lists.specs.Lists.{Bytes}
use Rattle.lists.proofs.Picks.{either}
use Rattle.refusal.specs.Verdict.{passed}
use Rattle.descriptor.specs.Edition.{Edition}
use Rattle.packet.specs.Header.{pid, pcr}
use Rattle.packet.proofs.Counters.{some_not_none}
use Rattle.segment_rules.specs.State.{FirstPat, FirstPmt, Tables, Kind, Null, Pat, Map, Av1, Listed, Unlisted}
use Rattle.segment_rules.specs.Rules.{Rooms, counting_pcr, last_pcr}
use Rattle.segment_rules.specs.Rules.{later_section, pat_section, pmt_section, section_read}
use Rattle.segment_rules.specs.Rules.{clocked, checked}
use Rattle.segment_rules.specs.Check.{Progress, run, start}
use Rattle.segment_rules.proofs.Lasting.{AnyPacket, any_packets, run_lasts}
use Rattle.segment_rules.proofs.Keeping.{Holds, holds_then, holds_each}

-- a packet without a PCR has none that counts
pub uncounted : (p : Bytes) (pmt : Option FirstPmt) → pcr p ≡ None → counting_pcr pmt p ≡ None
unfolding counting_pcr
uncounted p None e = refl
uncounted p (Some pmt) e = rw e (either (eqb (pid p) pmt.says.pcr_pid) None)

abbrev NoneEarly : Tables → Type 0
NoneEarly t = t.pmt ≡ None → t.pcr ≡ None

-- a packet's PCR
clocked_keeps : (i : ℕ) (p : Bytes) (t : Tables) → NoneEarly t → NoneEarly (clocked i p t)
unfolding counting_pcr
clocked_keeps i p t h e = ap (λ (o : Option FirstPmt). last_pcr t.pcr (counting_pcr o p)) e ∙ h e

-- its section
module _ (edition : Edition) (i : ℕ) (t : Tables) (h : NoneEarly t) where
  later_keeps : (number : ℕ) (first section : Bytes) → Holds NoneEarly (later_section number first section t)
  unfolding later_section
  later_keeps number first section = holds_then NoneEarly _ _ (λ _ _. h)

  pat_keeps : (pat : Option FirstPat) (section : Bytes) → Holds NoneEarly (pat_section i pat section t)
  unfolding pat_section
  pat_keeps None section = holds_each NoneEarly _ _ (λ _ _. h)
  pat_keeps (Some first) section = later_keeps 25 first.section section

  pmt_keeps : (pat : Option FirstPat) (pmt : Option FirstPmt) (section : Bytes) → Holds NoneEarly (pmt_section edition i pat pmt section t)
  unfolding pmt_section
  pmt_keeps None pmt section = h
  pmt_keeps (Some pat) None section = holds_each NoneEarly _ _ (λ _ _ e. absurd (some_not_none _ e))
  pmt_keeps (Some pat) (Some first) section = later_keeps 26 first.section section

  section_keeps : (kind : Kind) (b : Bool) (w : Bytes) → Holds NoneEarly (section_read edition kind i b w t)
  unfolding section_read
  section_keeps Null b w = h
  section_keeps Pat b w = holds_then NoneEarly _ _ (λ _ _. pat_keeps t.pat _)
  section_keeps Map b w = holds_then NoneEarly _ _ (λ _ _. pmt_keeps t.pat t.pmt _)
  section_keeps Av1 b w = h
  section_keeps Listed b w = h
  section_keeps Unlisted b w = h

-- a run
module _ (edition : Edition) (rooms : Rooms) where
  pub no_early_pcr : (ps : List Bytes) (g : Progress) → run edition rooms start ps ≡ passed g → g.state.tables.pmt ≡ None
      → g.state.tables.pcr ≡ None
  unfolding checked
  no_early_pcr ps g e =
      run_lasts edition rooms NoneEarly AnyPacket clocked_keeps (λ i p t _ h. holds_each NoneEarly _ _ (λ _ _. h))
      (λ i p kind t _ h. section_keeps edition i t h kind _ _) start ps g (any_packets 0 ps) (λ _. refl) e
