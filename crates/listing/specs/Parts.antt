-- What the promises of private functions cite; no public promise does. Assumes nothing.
use Rattle.std.specs.Prelude.{ℕ, ◌*◌, ◌≡◌}
use Rattle.lists.specs.Lists.{Bytes}
use Rattle.refusal.specs.Verdict.{passed}
use Rattle.unit.specs.Answer.{checking}
use Rattle.unit.specs.declared.reading.Counts.{Counts}

-- room for a number, for a line, and for the lines of 64 OBUs
abbrev pub number_room : ℕ
number_room = 20

abbrev pub line_room : ℕ
line_room = 129

abbrev pub obus_room : ℕ
obus_room = 64 * line_room

-- reading accepts the unit
abbrev pub Accepts : Bytes → Type 0
Accepts unit = (counts : Counts) × (checking unit ≡ passed counts)
