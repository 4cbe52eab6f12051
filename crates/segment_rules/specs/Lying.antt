-- What the tables say of a segment lies in it. It is proved that this holds before the first packet, and that each
-- packet of the segment keeps it (proofs/Lying.antt). Assumes nothing.
use Rattle.std.specs.Prelude.{ℕ, ◌≡◌, List, [], ◌∷◌, Option, Some, None}
use Rattle.lists.specs.Lists.{Bytes}
use Rattle.refusal.specs.Verdict.{passed}
use Rattle.descriptor.specs.Edition.{Edition}
use Rattle.packet.specs.Header.{packet_at, payload}
use Rattle.packet.specs.Counter.{StreamRecord}
use Rattle.psi.specs.Section.{section_of}
use Rattle.pmt.specs.Pmt.{read_pmt}
use Rattle.segment_rules.specs.State.{FirstPat, FirstPmt, Tables}
use Rattle.segment_rules.specs.Named.{Named}

module _ (segment : Bytes) where
  -- the last packet of a record is the one with its index
  abbrev pub LastLies : Option Bytes → ℕ → Type 0
  LastLies None i = Unit {0}
  LastLies (Some p) i = p ≡ packet_at segment i

  abbrev pub RecordLies : StreamRecord → Type 0
  RecordLies r = LastLies r.last r.lies

  abbrev pub RecordsLie : List StreamRecord → Type 0
  RecordsLie [] = Unit {0}
  RecordsLie (r ∷ records) = RecordLies r × RecordsLie records

  -- the section that the packet with this index brought
  abbrev pub section_in : ℕ → Bytes
  section_in i = section_of (payload (packet_at segment i))

  abbrev pub PatLies : Option FirstPat → Type 0
  PatLies None = Unit {0}
  PatLies (Some f) = f.section ≡ section_in f.packet

  -- and what the first PMT says is what its section says of the PAT's program
  abbrev pub PmtLies : Edition → Option FirstPat → Option FirstPmt → Type 0
  PmtLies edition pat None = Unit {0}
  PmtLies edition None (Some m) = ⊥
  PmtLies edition (Some f) (Some m) =
      (m.section ≡ section_in m.packet)
      × (read_pmt edition f.says.number f.says.map_pid m.section ≡ passed m.says)

-- the tables that packets of a segment can lead to: the records are those of the named PIDs, and all lies in the
-- segment
pub record Valid (edition : Edition) (segment : Bytes) (t : Tables) : Type 0 where
  pub named : Named t
  pub records : RecordsLie segment t.records
  pub pat : PatLies segment t.pat
  pub pmt : PmtLies segment edition t.pat t.pmt
