-- The packets that pass before the one with this index, and those that pass from it on, are all (`Counted`).
use Rattle.std.proofs.Common.{◌*◌, ◌-◌, ◌/◌, length}
use Rattle.packet.specs.Header.{packet_length}
use Rattle.measured.proofs.Counting.{Counted}
use Rattle.measured.proofs.header.measured_headers.Given as goal

abbrev pub invariant-loop-index : goal.invariant-loop-index
invariant-loop-index l = Counted l.segment l.count (l.index * packet_length) (length l.segment / packet_length - l.index)
