-- One OBU a turn: what stands in the outputs, then the OBUs of the payloads from the next start code on, and their lengths, are all of
-- them.
use Prim.Native.Nat.{◌≤◌}
use mathlib.Core.List.{map}
use lib.ListN.{drop}
use Rattle.emulation.specs.Payload.{dropped as payload_dropped}
use Rattle.unit.specs.Unit.{sum, dropped_in}
use Rattle.tsobu.specs.StartCodes.{payloads}
use Rattle.unit.proofs.Readings.{Copying}
use Rattle.unit.proofs.reading.copy_obus.Given as goal

abbrev pub invariant-loop-k : goal.invariant-loop-k
invariant-loop-k l = Copying l.unit l.notes l.initial.out l.initial.lens l.out l.lens l.code l.n l.k ×
    (sum (map payload_dropped (payloads (drop l.code l.unit))) ≤ dropped_in l.unit)
