-- What the packets of a segment in order lead to: the run of the rules over them. Assumes nothing.
use Rattle.refusal.specs.Verdict.{NoValue}
use Rattle.std.specs.Prelude.{ℕ, ◌≡◌, List, Result, Err}
use Rattle.lists.specs.Lists.{Bytes, zeros}
use Rattle.refusal.specs.Verdict as verdict
use Rattle.refusal.specs.declared.Refused.{Refused}
use Rattle.descriptor.specs.Edition as rules
use Rattle.descriptor.specs.Naming.{edition_says}
use Rattle.descriptor.specs.declared.edition.Edition.{Edition}
use Rattle.packet.specs.Header.{packets}
use Rattle.segment_rules.specs.State.{none_yet}
use Rattle.segment_rules.specs.Rules.{Rooms}
use Rattle.segment_rules.specs.Check.{Outputs, Progress, rooms_of, holding_firsts, cleared, start, run}
use Rattle.tables.specs.Tables.{Refines, tables_kept}
use Rattle.units.specs.Extraction.{UnitsRepresent}
use Rattle.extraction.specs.Packets.{fresh_state}
use Rattle.segment_run.specs.declared.running.RunResult.{RunResult}

-- what the run hands back, and the outputs, which were `before` at first, are what is kept of where the packets lead to
pub record Reached (edition : Edition) (before now : Outputs) (r : RunResult) (g : Progress) : Type 0 where
  pub tables : r.state.tables ≡ tables_kept edition g.state.tables
  pub extraction : UnitsRepresent before now r.state.extraction g.state.extraction
  pub totals : r.totals ≡ g.totals

-- the verdict is that of the rules over all packets
abbrev pub RunRefines : Edition → Bytes → Outputs → RunResult → Outputs → Type 0
RunRefines edition segment before r now =
    Refines r.outcome (run (edition_says edition) (rooms_of before) start (packets segment))
    (Reached edition before now r)

-- where they passed, the list that was `old` at first holds the first packets of the units so far
abbrev pub RunFirsts : rules.Edition → Bytes → Rooms → List ℕ → List ℕ → Type 0
RunFirsts edition segment rooms old firsts =
    (g : Progress) → run edition rooms start (packets segment) ≡ verdict.passed g
    → firsts ≡ holding_firsts g.state.extraction.units old

-- what there is before the first packet, beside a verdict
abbrev pub fresh_result : Edition → Result NoValue Refused → RunResult
fresh_result edition outcome = record { state = fresh_state edition; totals = none_yet; outcome = outcome }

-- nothing is kept of the packets: zeros throughout the outputs, which held `before`, and throughout the list of first
-- packets, which held `old`
pub record Afresh (edition : Edition) (before : Outputs) (old : List ℕ) (r : RunResult) (after : Outputs)
    (firsts : List ℕ) : Type 0 where
  pub result : r ≡ fresh_result edition r.outcome
  pub leaves : after ≡ cleared before
  pub began : firsts ≡ zeros old

-- what the run promises
pub record Runs (edition : Edition) (segment : Bytes) (before : Outputs) (old : List ℕ) (r : RunResult)
    (after : Outputs) (firsts : List ℕ) : Type 0 where
  pub verdict : RunRefines edition segment before r after
  pub noted : RunFirsts (edition_says edition) segment (rooms_of before) old firsts
  pub refused : (q : Refused) → r.outcome ≡ Err q → Afresh edition before old r after firsts
