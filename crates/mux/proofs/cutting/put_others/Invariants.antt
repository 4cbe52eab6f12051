-- What is written, and the packets of the bytes to come, are the packets of the whole.
use Rattle.mux.proofs.Going.{Going}
use Rattle.mux.proofs.cutting.put_others.Given as goal
use Rattle.std.specs.Slice.Iter.{chunks_rest, chunks_size}
use mathlib.Core.Path.{◌≡◌}

abbrev pub invariant-loop-payload : goal.invariant-loop-payload
invariant-loop-payload l =
    Going l.stream.pid l.stream.counter l.bytes l.initial.out (chunks_rest l.payload-iterator) l.to l.next l.out
    × (chunks_size l.payload-iterator ≡ 184)
