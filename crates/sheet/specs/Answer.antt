-- What the answers of the code say, and what reading leaves in its outputs. Assumes nothing.
use Rattle.std.specs.Prelude.{ℕ, ◌≡◌, List, length}
use Rattle.lists.specs.Lists.{Bytes}
use Rattle.refusal.specs.Verdict.{Verdict, leaves}
use Rattle.sheet.specs.Sheet.{numbers_of, stream_numbers, unit_numbers, obu_numbers}
use Rattle.sheet.specs.Reading.{content_of, reading}
use Rattle.sheet.specs.declared.rows.Counts.{Counts}

-- ---- the three outputs of reading
-- the numbers of the streams, of the units and of the OBUs
pub record Numbers : Type 0 where
  pub streams : List ℕ
  pub units : List ℕ
  pub obus : List ℕ

abbrev pub numbers_in : List ℕ → List ℕ → List ℕ → Numbers
numbers_in streams units obus = record { streams = streams; units = units; obus = obus }

-- reading into outputs of their lengths
abbrev pub read_into : Bytes → Numbers → Verdict Counts
read_into sheet o = reading sheet (length o.streams) (length o.units) (length o.obus)

-- what they hold after reading with this verdict: the numbers of the sheet's rows over their fronts
pub record LeavesNumbers (v : Verdict Counts) (sheet : Bytes) (before after : Numbers) : Type 0 where
  pub streams : after.streams ≡ leaves v (numbers_of stream_numbers (content_of sheet).streams) before.streams
  pub units : after.units ≡ leaves v (numbers_of unit_numbers (content_of sheet).units) before.units
  pub obus : after.obus ≡ leaves v (numbers_of obu_numbers (content_of sheet).obus) before.obus
