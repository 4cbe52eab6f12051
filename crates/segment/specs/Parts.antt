-- What the promises of private functions cite; no public promise does: what the code's state stands for. No rule is
-- said again here: a private function is promised by the rules of segment_rules that it carries out. Assumes nothing.
use Rattle.refusal.specs.Number.{says}
use Rattle.std.specs.Prelude.{ℕ, ◌/◌, ◌≡◌, List, ◌∷◌, map, length, Option, Some, None}
use Rattle.lists.specs.Lists.{Bytes}
use Rattle.refusal.specs.Verdict.{Verdict, ◌>>=◌, ◌>>◌}
use Rattle.refusal.specs.Verdict as verdict
use Rattle.descriptor.specs.Edition.{Edition, edition_of}
use Rattle.descriptor.specs.Naming.{edition_says}
use Rattle.descriptor.specs.declared.edition.Edition.{Edition as EditionName}
use Rattle.descriptor.specs.Descriptor.{video_tag, video_length, fields_of}
use Rattle.comparison.specs.declared.Disagreement.{Disagreement}
use Rattle.comparison.specs.Comparison.{headers_before_frame, first_from}
use Rattle.segment_rules.specs.declared.Totals.{Totals}
use Rattle.segment_rules.specs.State as state
use Rattle.segment_rules.specs.State.{AccessUnit}
use Rattle.packet.specs.Header.{packet_length, packets}
use Rattle.segment_rules.specs.Rules.{Rooms}
use Rattle.segment_rules.specs.Check.{Accepted, Outputs, Progress, rooms_of, holding, holding_firsts, rule20, start}
use Rattle.segment_rules.specs.Check.{run}
use Rattle.segment_rules.specs.Check.{accepted, ending}
use Rattle.tables.specs.declared.tables.Tables.{Tables}
use Rattle.tables.specs.Tables.{tables_kept}
use Rattle.segment_rules.specs.Lying.{Valid}
use Rattle.segment_run.specs.declared.running.RunResult.{RunResult}
use Rattle.segment_run.specs.Run.{Reached}
use Rattle.segment.specs.Answer.{Checked, Checks, summarised, map_after}

-- ---- before the packets
-- 44, then 20
unfoldable pub asked_in : ℕ → Bytes → Verdict Edition
asked_in n s = edition_of n >>= λ edition. rule20 s >> verdict.passed edition

-- ---- the end
-- 33, or the summary of these units
abbrev pub AcceptRefines : Bytes → Tables → ℕ → Totals → Checked → Type 0
AcceptRefines segment c units totals r =
    (edition : EditionName) (t : state.Tables) (us : List AccessUnit) → units ≡ length us
    → c ≡ tables_kept edition t → Valid (edition_says edition) segment t
    → (says r.answer ≡ summarised (accepted (length segment / packet_length) t.pat t.pmt us totals))
    × (r.map ≡ map_after (edition_says edition) (accepted (length segment / packet_length) t.pat t.pmt us totals))

-- all packets have passed: what the run has given, with the outputs and the list of first packets, which were `before`
-- and `old` at first, is what is kept of where they lead to
pub record Ran (edition : EditionName) (segment : Bytes) (before now : Outputs) (old firsts : List ℕ) (ran : RunResult)
    (g : Progress) : Type 0 where
  pub index : g.index ≡ length segment / packet_length
  pub valid : Valid (edition_says edition) segment g.state.tables
  pub reached : Reached edition before now ran g
  pub noted : firsts ≡ holding_firsts g.state.extraction.units old

-- the answer is this verdict on the whole, with the map beside it; where it accepts, the outputs hold the units, and
-- the list their first packets
pub record Ends (edition : Edition) (v : Verdict Accepted) (before : Outputs) (old : List ℕ) (r : Checked)
    (after : Outputs) (firsts : List ℕ) : Type 0 where
  pub answers : says r.answer ≡ summarised v
  pub beside : r.map ≡ map_after edition v
  pub leaves : (a : Accepted) → v ≡ verdict.passed a → after ≡ holding a.units before
  pub began : (a : Accepted) → v ≡ verdict.passed a → firsts ≡ holding_firsts a.units old

-- after the packets
abbrev pub EndRefines : Bytes → RunResult → Outputs → List ℕ → Checked → Outputs → List ℕ → Type 0
EndRefines segment ran now firsts r after firsts' =
    (edition : EditionName) (before : Outputs) (old : List ℕ) (g : Progress)
    → Ran edition segment before now old firsts ran g
    → Ends (edition_says edition) (ending g) before old r after firsts'

-- and then, where it refuses, nothing but zeros is left
abbrev pub EndChecks : Bytes → RunResult → Outputs → List ℕ → Checked → Outputs → List ℕ → Type 0
EndChecks segment ran now firsts r after firsts' =
    (edition : EditionName) (before : Outputs) (old : List ℕ) (g : Progress)
    → Ran edition segment before now old firsts ran g
    → Checks (ending g) (map_after (edition_says edition) (ending g)) before old r after firsts'

-- ---- the packets in order, and the end
unfoldable pub in_order : Edition → Rooms → Bytes → Verdict Accepted
in_order edition rooms s = run edition rooms start (packets s) >>= ending

abbrev pub ChecksInOrder : Edition → Bytes → Outputs → List ℕ → Checked → Outputs → List ℕ → Type 0
ChecksInOrder edition segment before old r after firsts =
    Checks (in_order edition (rooms_of before) segment) (map_after edition (in_order edition (rooms_of before) segment))
    before old r after firsts

-- ---- the comparison
-- these carried units, by their sequence headers before the frame, beside a video descriptor, of which the code has the
-- four bytes behind its tag and length
unfoldable pub disagreeing : Option Bytes → List Bytes → Option Disagreement
disagreeing None units = None
disagreeing (Some four) units =
    first_from 0 (fields_of (video_tag ∷ video_length ∷ four)) (map headers_before_frame units)
