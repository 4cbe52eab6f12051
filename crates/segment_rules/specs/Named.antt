-- Which PIDs have a record: those that the first sections name. It is proved that each packet keeps this
-- (proofs/Naming.antt). Assumes nothing.
use Rattle.std.specs.Prelude.{ℕ, ◌≡◌, List, [], ◌∷◌, Option, Some, None}
use Rattle.packet.specs.Header.{null_pid}
use Rattle.packet.specs.Counter.{pids_of, record_of}
use Rattle.pmt.specs.Pmt.{pids}
use Rattle.segment_rules.specs.State.{FirstPat, FirstPmt, Tables}

-- the PIDs that the first sections name, and PID 0
abbrev pub named_pids : Option FirstPat → Option FirstPmt → List ℕ
named_pids None pmt = 0 ∷ []
named_pids (Some pat) None = 0 ∷ pat.says.map_pid ∷ []
named_pids (Some pat) (Some pmt) = 0 ∷ pat.says.map_pid ∷ pids pmt.says.entries

-- a PMT comes after a PAT
abbrev pub PatFirst : Option FirstPat → Option FirstPmt → Type 0
PatFirst None None = Unit {0}
PatFirst None (Some pmt) = ⊥
PatFirst (Some pat) pmt = Unit {0}

-- the records are those of the named PIDs, and PID 0x1FFF has none
pub record Named (t : Tables) : Type 0 where
  pub pat_first : PatFirst t.pat t.pmt
  pub pids : pids_of t.records ≡ named_pids t.pat t.pmt
  pub null : record_of null_pid t.records ≡ None
