-- The streams from here on say what all of them say.
use Prim.Native.Nat.{◌+◌, ◌-◌, ◌*◌}
use mathlib.Core.Path.{◌≡◌}
use Rattle.lists.specs.Lists.{any}
use Rattle.sheet.specs.Reading.{rows, stream_row}
use Rattle.sheet.specs.Passing.{stream_wrong}
use Rattle.sheet.proofs.units.streams_wrong.Given as goal

abbrev pub invariant-loop-n : goal.invariant-loop-n
invariant-loop-n l =
    any stream_wrong (rows (stream_row l.sheet) 2 l.count 1)
    ≡ any stream_wrong (rows (stream_row l.sheet) 2 (l.count - l.n) (1 + 2 * l.n))
